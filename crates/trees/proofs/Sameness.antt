-- A value is the same as itself, and lists and maps of trees are the same if their parts are, one after another.
use Rattle.std.proofs.Common.{◌≡◌, ℕ, suc, Bool, true, false, ◌&&◌, bytes_eq, List, [], ◌∷◌, length, refl, ap, ◌∙◌}
use Rattle.std.proofs.Math.Bool.{and-false}
use Rattle.std.proofs.lemmas.Bool.{or_parts, and_parts}
use Rattle.std.proofs.lemmas.Bool.Decides.{Decides-eqb, Decides-int_eq}
use Rattle.std.proofs.lemmas.Slice.Eq.{bytes_eq-Decides}
use Rattle.serde_json.specs.Data.{Num, unsigned, negative, float, Data, null, boolean, number, string, array, object, Items, no_items, item, Members, no_members, member}
use Rattle.serde_json.specs.Find.{is_float}
use Rattle.serde_json.specs.Written.{has_float, items_have_float, members_have_float}
use Rattle.trees.specs.declared.tree.Tree.{Tree}
use Rattle.trees.specs.Tree.{data_of, items_of, members_of}
use Rattle.std.specs.Bool.{beq}
use Rattle.trees.specs.Same.{same_numbers, same_data, same_items, same_members}

abbrev pub same_lists : List Tree → List Tree → Bool
same_lists xs ys = same_items (items_of xs) (items_of ys)

abbrev pub same_maps : List (List ℕ × Tree) → List (List ℕ × Tree) → Bool
same_maps xs ys = same_members (members_of xs) (members_of ys)

abbrev pub same_entry : List ℕ × Tree → List ℕ × Tree → Bool
same_entry x y = bytes_eq x.0 y.0 && same_data (data_of x.1) (data_of y.1)

-- of another length, they differ
pub lists-differ : (xs ys : List Tree) → (length xs ≡ length ys → ⊥) → same_lists xs ys ≡ false
lists-differ [] [] uneven = absurd (uneven refl)
lists-differ [] (y ∷ ys) uneven = refl
lists-differ (x ∷ xs) [] uneven = refl
lists-differ (x ∷ xs) (y ∷ ys) uneven =
    ap (λ b. same_data (data_of x) (data_of y) && b) (lists-differ xs ys (λ e. uneven (ap suc e))) ∙ and-false (same_data (data_of x) (data_of y))

pub maps-differ : (xs ys : List (List ℕ × Tree)) → (length xs ≡ length ys → ⊥) → same_maps xs ys ≡ false
maps-differ [] [] uneven = absurd (uneven refl)
maps-differ [] (y ∷ ys) uneven = refl
maps-differ (x ∷ xs) [] uneven = refl
maps-differ (x ∷ xs) (y ∷ ys) uneven =
    ap (λ b. same_entry x y && b) (maps-differ xs ys (λ e. uneven (ap suc e))) ∙ and-false (same_entry x y)

same_number : (n : Num) → is_float n ≡ false → same_numbers n n ≡ true
same_number (unsigned n) whole = (Decides-eqb n n).1 refl
same_number (negative z) whole = (Decides-int_eq z z).1 refl
same_number (float x) whole = cc

-- a value of whole numbers is the same as itself
mutual
  pub same-itself : (d : Data) → has_float d ≡ false → same_data d d ≡ true
  same-itself null whole = refl
  same-itself (boolean true) whole = refl
  same-itself (boolean false) whole = refl
  same-itself (number n) whole = same_number n whole
  same-itself (string s) whole = (bytes_eq-Decides s s).1 refl
  same-itself (array ds) whole = items-itself ds whole
  same-itself (object ms) whole = members-itself ms whole

  items-itself : (ds : Items) → items_have_float ds ≡ false → same_items ds ds ≡ true
  items-itself no_items whole = refl
  items-itself (item d ds) whole =
      let parts = or_parts (has_float d) (items_have_float ds) whole in
      rw (same-itself d parts.0, items-itself ds parts.1) refl

  members-itself : (ms : Members) → members_have_float ms ≡ false → same_members ms ms ≡ true
  members-itself no_members whole = refl
  members-itself (member k d ms) whole =
      let parts = or_parts (has_float d) (members_have_float ms) whole in
      rw ((bytes_eq-Decides k k).1 refl, same-itself d parts.0, members-itself ms parts.1) refl

number-equal : (m n : Num) → same_numbers m n ≡ true → m ≡ n
number-equal (unsigned m) (unsigned n) same = ap unsigned ((Decides-eqb m n).0 same)
number-equal (negative y) (negative z) same = ap negative ((Decides-int_eq y z).0 same)
number-equal m n same = cc

truth-equal : (a b : Bool) → beq a b ≡ true → a ≡ b
truth-equal true true same = refl
truth-equal false false same = refl
truth-equal a b same = cc

-- values that are the same are one value
mutual
  pub same-equal : (d e : Data) → same_data d e ≡ true → d ≡ e
  same-equal null null same = refl
  same-equal (boolean a) (boolean b) same = ap boolean (truth-equal a b same)
  same-equal (number m) (number n) same = ap number (number-equal m n same)
  same-equal (string s) (string t) same = ap string ((bytes_eq-Decides s t).0 same)
  same-equal (array ds) (array es) same = ap array (items-equal ds es same)
  same-equal (object ms) (object ns) same = ap object (members-equal ms ns same)
  same-equal d e same = cc

  items-equal : (ds es : Items) → same_items ds es ≡ true → ds ≡ es
  items-equal no_items no_items same = refl
  items-equal no_items (item e es) same = cc
  items-equal (item d ds) no_items same = cc
  items-equal (item d ds) (item e es) same =
      let parts = and_parts (same_data d e) (same_items ds es) same in
      ap (λ x. item x ds) (same-equal d e parts.0) ∙ ap (item e) (items-equal ds es parts.1)

  members-equal : (ms ns : Members) → same_members ms ns ≡ true → ms ≡ ns
  members-equal no_members no_members same = refl
  members-equal no_members (member l e ns) same = cc
  members-equal (member k d ms) no_members same = cc
  members-equal (member k d ms) (member l e ns) same =
      let parts = and_parts (bytes_eq k l && same_data d e) (same_members ms ns) same in
      let first = and_parts (bytes_eq k l) (same_data d e) parts.0 in
      ap (λ x. member x d ms) ((bytes_eq-Decides k l).0 first.0) ∙ ap (λ x. member l x ms) (same-equal d e first.1) ∙ ap (member l e) (members-equal ms ns parts.1)
