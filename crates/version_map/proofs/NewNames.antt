-- The slots of keys after one more: another name of a namespace, and other namespaces of a kind.
use Rattle.std.proofs.Common.{◌≡◌, ℕ, zero, suc, ◌==◌, ◌<◌, length, get_or, Bool, true, false, ◌&&◌, cond, List, [], ◌∷◌, bytes_eq, Option, Some, None, option_and_then, Result, Ok, Err, OnOk, OnErr, refl, sym, ap, subst, ◌∙◌, arith}
use Rattle.std.specs.Prelude.{slice_get}
use Rattle.std.proofs.Math.ListN.{set}
use Rattle.std.specs.Ordering.{eq_by_cmp}
use Rattle.std.specs.FinMap.{same_map}
use Rattle.std.proofs.lemmas.Bool.{eqb-true}
use Rattle.std.proofs.lemmas.Bool.Decides.{nat_tests}
use Rattle.std.proofs.lemmas.Option.{slice_get-get_or}
use Rattle.std.proofs.lemmas.Slice.Eq.{bytes_eq-Decides}
use Rattle.objects.specs.declared.key.Key.{Key}
use Rattle.objects.specs.declared.kind.Kind.{Kind}
use Rattle.objects.specs.Key.{key_cmp, key_parts, kind_index}
use Rattle.objects.specs.KeyOrder.{exact_keys, key_cmp_total}
use Rattle.version_map.specs.Named.{at_name, at_text, AreAsBefore, HasNow, Names, Namespaces, KeySlots, slot_among, slot_in, slotted}
use Rattle.version_map.specs.Keyed.{put_at}
use Rattle.version_map.proofs.Chains.{get_put_at, swap}
use Rattle.version_map.proofs.Named.{get_slotted, slot_of, tied}

-- ---- a name of a namespace

module _ (m n : Namespaces) (space : List ℕ) (now old : Option Names) (was : old ≡ at_text m space)
    (written : (q : List ℕ) → at_text n q ≡ cond (bytes_eq space q) now (at_text m q)) where
  elsewhere : (q word : List ℕ) → bytes_eq space q ≡ false → slot_in n q word ≡ slot_in m q word
  elsewhere q word other = ap (λ o. slot_among o word) (written q ∙ ap (λ b. cond b now (at_text m q)) other)

  here : (q word : List ℕ) → bytes_eq space q ≡ true → slot_in n q word ≡ slot_among now word
  here q word same = ap (λ o. slot_among o word) (written q ∙ ap (λ b. cond b now (at_text m q)) same)

  before : (q word : List ℕ) → bytes_eq space q ≡ true → slot_among old word ≡ slot_in m q word
  before q word same = ap (λ o. slot_among o word) (was ∙ ap (at_text m) ((bytes_eq-Decides space q).0 same))

  pub as_before : ((word : List ℕ) → slot_among now word ≡ slot_among old word) → AreAsBefore m n
  as_before kept q word = by (bytes_eq space q) refl
    where
      by : (b : Bool) → bytes_eq space q ≡ b → slot_in n q word ≡ slot_in m q word
      by true same = here q word same ∙ kept word ∙ before q word same
      by false other = elsewhere q word other

  pub one_more : (name : List ℕ) (slot : Option ℕ) → ((word : List ℕ) → slot_among now word ≡ cond (bytes_eq name word) slot (slot_among old word)) → HasNow m n space name slot
  one_more name slot more q word = by (bytes_eq space q) refl
    where
      by : (b : Bool) → bytes_eq space q ≡ b → slot_in n q word ≡ cond (bytes_eq space q && bytes_eq name word) slot (slot_in m q word)
      by true same = here q word same ∙ more word ∙ ap (cond (bytes_eq name word) slot) (before q word same)
          ∙ sym (ap (λ b. cond (b && bytes_eq name word) slot (slot_in m q word)) same)
      by false other = elsewhere q word other ∙ sym (ap (λ b. cond (b && bytes_eq name word) slot (slot_in m q word)) other)

-- ---- a namespace that is removed with its last name

module _ (m n next : Namespaces) (space : List ℕ) (names : Names) (written : (q : List ℕ) → at_text n q ≡ cond (bytes_eq space q) (Some names) (at_text m q))
    (taken : (q : List ℕ) → at_text next q ≡ cond (bytes_eq space q) None (at_text n q)) where
  pub taken_away : (q : List ℕ) → at_text next q ≡ cond (bytes_eq space q) None (at_text m q)
  taken_away q = taken q ∙ ap (cond (bytes_eq space q) None) (written q)
      ∙ elim (bytes_eq space q) as (λ b. cond b None (cond b (Some names) (at_text m q)) ≡ cond b None (at_text m q)) [ true ↦ refl | false ↦ refl ]

pub no_names : (names : Names) → (length names == 0) ≡ true → (word : List ℕ) → None ≡ at_name names word
no_names [] none word = refl
no_names (e ∷ es) none word = let no_length : suc (length es) ≡ 0 = eqb-true (length (e ∷ es)) 0 none in absurd (omega (arith, no_length))

-- ---- the namespaces of a kind

set_here : (ms : List Namespaces) (i : ℕ) (n : Namespaces) → i < length ms → slice_get (set ms i n) i ≡ Some n
set_here [] i n within = absurd (omega arith)
set_here (m ∷ ms) zero n within = refl
set_here (m ∷ ms) (suc i) n within = set_here ms i n (omega arith)

set_elsewhere : (ms : List Namespaces) (i j : ℕ) (n : Namespaces) → (i ≡ j → ⊥) → slice_get (set ms i n) j ≡ slice_get ms j
set_elsewhere [] i j n other = refl
set_elsewhere (m ∷ ms) zero zero n other = absurd (other refl)
set_elsewhere (m ∷ ms) zero (suc j) n other = refl
set_elsewhere (m ∷ ms) (suc i) zero n other = refl
set_elsewhere (m ∷ ms) (suc i) (suc j) n other = set_elsewhere ms i j n (λ same. other (ap suc same))

pub on_ok : {A E P Q : Type 0} (r : Result A E) → (P → Q) → OnOk r P → OnOk r Q
on_ok (Ok x) f p = f p
on_ok (Err e) f p = tt

pub on_error : {A E P Q : Type 0} (r : Result A E) → (P → Q) → OnErr r P → OnErr r Q
on_error (Ok x) f p = tt
on_error (Err e) f p = f p

-- the namespaces of one kind are others
module _ (ms : List Namespaces) (m : KeySlots) (i : ℕ) (d n : Namespaces) (view : slotted ms ≡ m) (many : length ms ≡ 4) (within : i < 4) where
  slot_here : (q : Key) → (i == kind_index q.kind) ≡ true → slot_of (set ms i n) q ≡ slot_in n q.namespace q.name
  slot_here q same = ap (option_and_then (λ y. slot_in y q.namespace q.name)) (ap (slice_get (set ms i n)) (sym (eqb-true i (kind_index q.kind) same)) ∙ set_here ms i n (omega (arith, many, within)))

  slot_before : (q : Key) → (i == kind_index q.kind) ≡ true → slot_of ms q ≡ slot_in (get_or ms i d) q.namespace q.name
  slot_before q same = ap (option_and_then (λ y. slot_in y q.namespace q.name)) (ap (slice_get ms) (sym (eqb-true i (kind_index q.kind) same)) ∙ slice_get-get_or ms i d (omega (arith, many, within)))

  slot_elsewhere : (q : Key) → (i == kind_index q.kind) ≡ false → slot_of (set ms i n) q ≡ slot_of ms q
  slot_elsewhere q other =
      ap (option_and_then (λ y. slot_in y q.namespace q.name))
      (set_elsewhere ms i (kind_index q.kind) n (λ same. let yes : (i == kind_index q.kind) ≡ true = grind (arith, nat_tests) in let both : true ≡ false = sym yes ∙ other in cc))

  pub slotted_as_before : AreAsBefore (get_or ms i d) n → slotted (set ms i n) ≡ m
  slotted_as_before same = same_map key_cmp_total exact_keys _ _ (λ q. get_slotted (set ms i n) q ∙ by q (i == kind_index q.kind) refl ∙ sym (get_slotted ms q)) ∙ view
    where
      by : (q : Key) (b : Bool) → (i == kind_index q.kind) ≡ b → slot_of (set ms i n) q ≡ slot_of ms q
      by q true is = slot_here q is ∙ same q.namespace q.name ∙ sym (slot_before q is)
      by q false is = slot_elsewhere q is

  pub slotted_now : (k : Key) (kind : Kind) (space name a b : List ℕ) (slot : Option ℕ) → key_parts kind space name ≡ k → i ≡ kind_index kind → a ≡ space → b ≡ name → HasNow (get_or ms i d) n a b slot → slotted (set ms i n) ≡ put_at m k slot
  slotted_now k kind space name a b slot parts index spaces names more =
      same_map key_cmp_total exact_keys _ _ (λ q.
      get_slotted (set ms i n) q ∙ by q (i == kind_index q.kind) refl ∙ ap (λ t. cond t slot (slot_of ms q)) (sym (swap q (key_parts kind space name) ∙ tied (key_parts kind space name) q))
      ∙ ap (cond (eq_by_cmp key_cmp q (key_parts kind space name)) slot) (sym (get_slotted ms q))
      ∙ sym (get_put_at (slotted ms) (key_parts kind space name) slot q))
      ∙ ap (λ (l : KeySlots). put_at l (key_parts kind space name) slot) view ∙ ap (λ (l : Key). put_at m l slot) parts
    where
      more_there : HasNow (get_or ms i d) n space name slot
      more_there = subst (λ s. HasNow (get_or ms i d) n s name slot) spaces (subst (λ s. HasNow (get_or ms i d) n a s slot) names more)

      kinds : (q : Key) (b : Bool) → (i == kind_index q.kind) ≡ b → (kind_index kind == kind_index q.kind) ≡ b
      kinds q b is = ap (λ j. j == kind_index q.kind) (sym index) ∙ is

      by : (q : Key) (b : Bool) → (i == kind_index q.kind) ≡ b
          → slot_of (set ms i n) q ≡ cond (kind_index kind == kind_index q.kind && bytes_eq space q.namespace && bytes_eq name q.name) slot (slot_of ms q)
      by q true is =
          slot_here q is ∙ more_there q.namespace q.name ∙ ap (cond (bytes_eq space q.namespace && bytes_eq name q.name) slot) (sym (slot_before q is))
          ∙ sym (ap (λ t. cond (t && bytes_eq space q.namespace && bytes_eq name q.name) slot (slot_of ms q)) (kinds q true is))
      by q false is = slot_elsewhere q is ∙ sym (ap (λ t. cond (t && bytes_eq space q.namespace && bytes_eq name q.name) slot (slot_of ms q)) (kinds q false is))
