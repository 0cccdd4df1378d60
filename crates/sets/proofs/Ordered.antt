-- A list has one order, if no two of its elements tie.
use Rattle.std.proofs.Common.{◌≡◌, inl, inr, ◌+◌, ℕ, suc, true, false, cond, List, [], ◌∷◌, refl, sym, ap, ◌∙◌, arith, add-one, Ordering, Less, Equal, Greater, is_lt, IsPermutation, IsSorted, true≢false}
use Rattle.std.specs.List.{AllByRecursion, sum_by}
use Rattle.std.specs.Cmp.{IsTotalOrder}
use Rattle.std.specs.Ordering.{ordering_reverse}
use Rattle.std.proofs.lemmas.Cmp.{tied_itself, alike_right}
use Rattle.std.proofs.lemmas.List.Elements.{All-from_recursion, recursion_from_All}
use Rattle.std.proofs.lemmas.List.Sorted.{All-permutation, sum_by-IsPermutation}
use Rattle.std.proofs.lemmas.List.Sums.{sum_by-cons}
use Rattle.requests.specs.Lists.{Has}
use Rattle.sets.specs.Order.{in_order, put_in_order}

abbrev pub HasNoTies : {X : Type 0} → (X → X → Ordering) → List X → Type 0
HasNoTies {X} cmp base = (x y : X) → Has x base → Has y base → cmp x y ≡ Equal → x ≡ y

pub all_among : {X : Type 0} (P : X → Type 0) (xs : List X) → ((x : X) → Has x xs → P x) → AllByRecursion P xs
all_among P [] f = tt
all_among P (x ∷ xs) f = (f x (inl refl), all_among P xs (λ y at. f y (inr at)))

module _ {X : Type 0} (cmp : X → X → Ordering) (total : IsTotalOrder cmp) where
  -- y is not less than x
  abbrev AtLeast : X → X → Type 0
  AtLeast x y = is_lt (cmp y x) ≡ false

  abbrev Ascends : List X → Type 0
  Ascends [] = Unit {0}
  Ascends (x ∷ xs) = AllByRecursion (AtLeast x) xs × Ascends xs

  all_weaker : (P Q : X → Type 0) (f : (x : X) → P x → Q x) (xs : List X) → AllByRecursion P xs → AllByRecursion Q xs
  all_weaker P Q f [] all = tt
  all_weaker P Q f (x ∷ xs) all = (f x all.0, all_weaker P Q f xs all.1)

  -- ---- the order

  turned : (x y : X) (o : Ordering) → cmp x y ≡ o → cmp y x ≡ ordering_reverse o
  turned x y o is = total.antisymm y x ∙ ap ordering_reverse is

  still_above : (x y z : X) → AtLeast x y → AtLeast y z → AtLeast x z
  still_above x y z low high = go (cmp z x) refl (cmp y x) refl low
    where
      less : (o : Ordering) → cmp z x ≡ Less → cmp y x ≡ o → is_lt o ≡ false → cmp z y ≡ Less
      less Less zx yx h = absurd (true≢false h)
      less Equal zx yx h = alike_right total y x z yx ∙ zx
      less Greater zx yx h = total.trans z x y zx (turned y x Greater yx)

      go : (o : Ordering) → cmp z x ≡ o → (p : Ordering) → cmp y x ≡ p → is_lt (cmp y x) ≡ false → is_lt o ≡ false
      go Less zx p yx h = absurd (true≢false (sym (ap is_lt (less p zx yx (sym (ap is_lt yx) ∙ h))) ∙ high))
      go Equal zx p yx h = refl
      go Greater zx p yx h = refl

  ascends_from_sorted : (xs : List X) → IsSorted cmp xs → Ascends xs
  ascends_from_sorted [] sorted = tt
  ascends_from_sorted (x ∷ xs) sorted =
      let tail : IsSorted cmp xs = λ k d p q. rw add-one (rw add-one at (sorted (suc k) d (omega arith) (omega arith))) in
      let up = ascends_from_sorted xs tail in
      (above x xs sorted up, up)
    where
      above : (x : X) (ys : List X) → IsSorted cmp (x ∷ ys) → Ascends ys → AllByRecursion (AtLeast x) ys
      above x [] sorted up = tt
      above x (y ∷ ys) sorted up =
          let first : AtLeast x y = sorted 0 x (omega arith) (omega arith) in
          (first, all_weaker (AtLeast y) (AtLeast x) (λ z. still_above x y z first) ys up.0)

  -- ---- the list in order

  all_put : (P : X → Type 0) (x : X) (ys : List X) → P x → AllByRecursion P ys → AllByRecursion P (put_in_order cmp x ys)
  all_put P x [] here all = (here, tt)
  all_put P x (y ∷ ys) here all =
      elim (is_lt (cmp y x)) as (λ b. AllByRecursion P (cond b (y ∷ put_in_order cmp x ys) (x ∷ y ∷ ys))) [ true ↦ (all.0, all_put P x ys here all.1) | false ↦ (here, all) ]

  pub all_in_order : (P : X → Type 0) (xs : List X) → AllByRecursion P xs → AllByRecursion P (in_order cmp xs)
  all_in_order P [] all = tt
  all_in_order P (x ∷ xs) all = all_put P x (in_order cmp xs) all.0 (all_in_order P xs all.1)

  after_less : (x y : X) (o : Ordering) → cmp y x ≡ o → is_lt o ≡ true → AtLeast y x
  after_less x y Less is h = ap is_lt (turned y x Less is)
  after_less x y Equal is h = absurd (true≢false (sym h))
  after_less x y Greater is h = absurd (true≢false (sym h))

  put_ascends : (x : X) (ys : List X) → Ascends ys → Ascends (put_in_order cmp x ys)
  put_ascends x [] up = (tt, tt)
  put_ascends x (y ∷ ys) up =
      elim (is_lt (cmp y x)) as (λ b. is_lt (cmp y x) ≡ b → Ascends (cond b (y ∷ put_in_order cmp x ys) (x ∷ y ∷ ys))) [
        | true ↦ λ less. (all_put (AtLeast y) x ys (after_less x y (cmp y x) refl less) up.0, put_ascends x ys up.1)
        | false ↦ λ more. ((more, all_weaker (AtLeast y) (AtLeast x) (λ z. still_above x y z more) ys up.0), up)
      ] refl

  in_order_ascends : (xs : List X) → Ascends (in_order cmp xs)
  in_order_ascends [] = tt
  in_order_ascends (x ∷ xs) = put_ascends x (in_order cmp xs) (in_order_ascends xs)

  -- ---- the same elements

  abbrev HasSame : List X → List X → Type 0
  HasSame xs ys = (f : X → ℕ) → sum_by f xs ≡ sum_by f ys

  put_has_same : (f : X → ℕ) (x : X) (ys : List X) → sum_by f (put_in_order cmp x ys) ≡ f x + sum_by f ys
  put_has_same f x [] = sum_by-cons f x []
  put_has_same f x (y ∷ ys) =
      elim (is_lt (cmp y x)) as (λ b. sum_by f (cond b (y ∷ put_in_order cmp x ys) (x ∷ y ∷ ys)) ≡ f x + sum_by f (y ∷ ys)) [
        | true ↦ let a = sum_by-cons f y (put_in_order cmp x ys) in let b = sum_by-cons f y ys in let more = put_has_same f x ys in omega arith
        | false ↦ sum_by-cons f x (y ∷ ys)
      ]

  in_order_has_same : (xs : List X) → HasSame (in_order cmp xs) xs
  in_order_has_same [] f = refl
  in_order_has_same (x ∷ xs) f = let a = put_has_same f x (in_order cmp xs) in let b = sum_by-cons f x xs in let more = in_order_has_same xs f in omega arith

  -- ---- one order

  -- one, if it is less than x
  abbrev count_less : X → X → ℕ
  count_less x z = cond (is_lt (cmp z x)) 1 0

  none_less : (x : X) (zs : List X) → AllByRecursion (AtLeast x) zs → sum_by (count_less x) zs ≡ 0
  none_less x [] all = refl
  none_less x (z ∷ zs) all =
      let first : count_less x z ≡ 0 = ap (λ b. cond b 1 0) all.0 in
      let more = none_less x zs all.1 in
      let a = sum_by-cons (count_less x) z zs in
      omega arith

  none_below_head : (x : X) (xs : List X) → Ascends (x ∷ xs) → sum_by (count_less x) (x ∷ xs) ≡ 0
  none_below_head x xs up = none_less x (x ∷ xs) (ap is_lt (tied_itself total x), up.0)

  not_less : (x y : X) (xs ys : List X) → Ascends (y ∷ ys) → HasSame (x ∷ xs) (y ∷ ys) → is_lt (cmp x y) ≡ false
  not_less x y xs ys up same =
      elim (is_lt (cmp x y)) as (λ b. is_lt (cmp x y) ≡ b → b ≡ false) [
        | true ↦ λ less.
            let none = none_below_head y ys up in
            let one : count_less y x ≡ 1 = ap (λ b. cond b 1 0) less in
            let a = sum_by-cons (count_less y) x xs in
            let e = same (count_less y) in
            absurd (omega arith)
        | false ↦ λ more. refl
      ] refl

  tied : (x y : X) (o : Ordering) → cmp x y ≡ o → is_lt o ≡ false → is_lt (cmp y x) ≡ false → cmp x y ≡ Equal
  tied x y Less is one two = absurd (true≢false one)
  tied x y Equal is one two = is
  tied x y Greater is one two = absurd (true≢false (sym (ap is_lt (turned x y Greater is)) ∙ two))

  one_order : (base : List X) → HasNoTies cmp base → (xs ys : List X) → AllByRecursion (λ x. Has x base) xs → AllByRecursion (λ x. Has x base) ys → Ascends xs → Ascends ys → HasSame xs ys → xs ≡ ys
  one_order base apart [] [] in_x in_y up_x up_y same = refl
  one_order base apart [] (y ∷ ys) in_x in_y up_x up_y same = let a = sum_by-cons (λ (z : X). 1) y ys in let e = same (λ z. 1) in absurd (omega arith)
  one_order base apart (x ∷ xs) [] in_x in_y up_x up_y same = let a = sum_by-cons (λ (z : X). 1) x xs in let e = same (λ z. 1) in absurd (omega arith)
  one_order base apart (x ∷ xs) (y ∷ ys) in_x in_y up_x up_y same =
      let head : x ≡ y = apart x y in_x.0 in_y.0 (tied x y (cmp x y) refl (not_less x y xs ys up_y same) (not_less y x ys xs up_x (λ f. sym (same f)))) in
      let tail : xs ≡ ys = one_order base apart xs ys in_x.1 in_y.1 up_x.1 up_y.1 (λ f.
      let a = sum_by-cons f x xs in let b = sum_by-cons f y ys in let e = same f in let h = ap f head in omega arith) in
      (λ i. head i ∷ tail i)

  -- what sorts a list puts it in its order
  pub sorted_is_in_order : (base ys : List X) → HasNoTies cmp base → IsPermutation base ys → IsSorted cmp ys → ys ≡ in_order cmp base
  sorted_is_in_order base ys apart same sorted =
      let P : X → Type 0 = λ x. Has x base in
      let all : AllByRecursion P base = all_among P base (λ x at. at) in
      one_order base apart ys (in_order cmp base) (recursion_from_All P ys (All-permutation P base ys same (All-from_recursion P base all))) (all_in_order P base all)
      (ascends_from_sorted ys sorted) (in_order_ascends base) (λ f. sum_by-IsPermutation f base ys same ∙ sym (in_order_has_same base f))
