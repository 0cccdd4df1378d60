-- How the values of lists and maps are distinguished.
use Rattle.std.specs.Prelude.{◌≡◌, ℕ, ℤ, List, Float, refl, ◌⊎◌}
use Rattle.std.proofs.Common.{ap, arith, inl, inr}
use Rattle.std.specs.Coded.{Coded, coded_ℕ, coded_ℤ, coded_bool, coded_list, coded⊎, code_by}
use base.Stored.{Gv, gnil, gnum, gcons, coded_float}
use Rattle.serde_json.specs.Data.{Num, unsigned, negative, float, Data, null, boolean, number, string, array, object, Items, no_items, item, Members, no_members, member}

abbrev tag : Gv → ℕ
tag gnil = 0
tag (gnum n) = n
tag (gcons a b) = tag a

abbrev inner : Gv → Gv
inner gnil = gnil
inner (gnum n) = gnil
inner (gcons a b) = b

abbrev outer : Gv → Gv
outer gnil = gnil
outer (gnum n) = gnil
outer (gcons a b) = a

abbrev pub split : Num → ℕ ⊎ (ℤ ⊎ Float)
split (unsigned n) = inl n
split (negative z) = inr (inl z)
split (float x) = inr (inr x)

abbrev pub join : ℕ ⊎ (ℤ ⊎ Float) → Num
join (inl n) = unsigned n
join (inr (inl z)) = negative z
join (inr (inr x)) = float x

pub join-split : (n : Num) → join (split n) ≡ n
join-split (unsigned n) = refl
join-split (negative z) = refl
join-split (float x) = refl

abbrev pub num_coded : Coded Num
num_coded = code_by (ℕ ⊎ (ℤ ⊎ Float)) (coded⊎ coded_ℕ (coded⊎ coded_ℤ coded_float)) split join join-split

abbrev pub text_coded : Coded (List ℕ)
text_coded = coded_list coded_ℕ

abbrev mutual
  pub data_code : Data → Gv
  data_code null = gcons (gnum 0) gnil
  data_code (boolean b) = gcons (gnum 1) (coded_bool.code b)
  data_code (number n) = gcons (gnum 2) (num_coded.code n)
  data_code (string s) = gcons (gnum 3) (text_coded.code s)
  data_code (array ds) = gcons (gnum 4) (items_code ds)
  data_code (object ms) = gcons (gnum 5) (members_code ms)

  pub items_code : Items → Gv
  items_code no_items = gcons (gnum 0) gnil
  items_code (item d ds) = gcons (gnum 1) (gcons (data_code d) (items_code ds))

  pub members_code : Members → Gv
  members_code no_members = gcons (gnum 0) gnil
  members_code (member k d ms) = gcons (gnum 1) (gcons (text_coded.code k) (gcons (data_code d) (members_code ms)))

mutual
  pub data_inj : (a b : Data) → data_code a ≡ data_code b → a ≡ b
  data_inj null null p = refl
  data_inj (boolean b) (boolean c) p = ap boolean (coded_bool.inj b c (ap inner p))
  data_inj (number m) (number n) p = ap number (num_coded.inj m n (ap inner p))
  data_inj (string s) (string t) p = ap string (text_coded.inj s t (ap inner p))
  data_inj (array ds) (array es) p = ap array (items_inj ds es (ap inner p))
  data_inj (object ms) (object ns) p = ap object (members_inj ms ns (ap inner p))
  data_inj _ _ p = absurd (omega (arith, ap tag p))

  pub items_inj : (a b : Items) → items_code a ≡ items_code b → a ≡ b
  items_inj no_items no_items p = refl
  items_inj (item d ds) (item e es) p = λ i. item (data_inj d e (ap (λ g. outer (inner g)) p) i) (items_inj ds es (ap (λ g. inner (inner g)) p) i)
  items_inj _ _ p = absurd (omega (arith, ap tag p))

  pub members_inj : (a b : Members) → members_code a ≡ members_code b → a ≡ b
  members_inj no_members no_members p = refl
  members_inj (member k d ms) (member l e ns) p = λ i. member
      (text_coded.inj k l (ap (λ g. outer (inner g)) p) i)
      (data_inj d e (ap (λ g. outer (inner (inner g))) p) i)
      (members_inj ms ns (ap (λ g. inner (inner (inner g))) p) i)
  members_inj _ _ p = absurd (omega (arith, ap tag p))

abbrev pub items_coded : Coded Items
items_coded = record { code = items_code; inj = items_inj }

abbrev pub members_coded : Coded Members
members_coded = record { code = members_code; inj = members_inj }

abbrev pub data_coded : Coded Data
data_coded = record { code = data_code; inj = data_inj }
