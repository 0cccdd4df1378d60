-- Lists of which each two elements are related, the earlier one to the later one.
use Rattle.std.proofs.Common.{◌≡◌, ◌≢◌, inl, inr, ℕ, zero, suc, ◌+◌, ◌≤◌, ◌<◌, Bool, true, false, cond, if◌then◌else◌, List, [], ◌∷◌, ◌++◌, map, take, filter, reverse, Option, Some, None, Ordering, is_lt, arith, refl, sym, ap, ◌∙◌, subst}
use Rattle.std.specs.Prelude.{⊤}
use Rattle.std.specs.List.{AllByRecursion, cons_option, filter_map, flat_map, range_with_len}
use Rattle.std.proofs.lemmas.List.{reverse-append}
use Rattle.requests.specs.Lists.{Has as Among}
use Rattle.rounds.proofs.Lists.{among_either}
use Rattle.sets.specs.Order.{in_order, put_in_order}
use Rattle.sets.proofs.Ordered.{all_among}
use Rattle.controllers.proofs.PlannedActions.{among_all}
use Rattle.resting.proofs.PlanLists.{all_append, all_by}

abbrev pub ArePaired : {X : Type 0} → (X → X → Type 0) → List X → Type 0
ArePaired R [] = ⊤
ArePaired R (x ∷ xs) = AllByRecursion (R x) xs × ArePaired R xs

-- ---- all of a part
pub all_filtered : {X : Type 0} (P : X → Type 0) (p : X → Bool) (xs : List X) → AllByRecursion P xs → AllByRecursion P (filter p xs)
all_filtered P p [] all = tt
all_filtered P p (x ∷ xs) all =
    elim (p x) as (λ b. AllByRecursion P (cond b (x ∷ filter p xs) (filter p xs))) [
      | true ↦ (all.0, all_filtered P p xs all.1)
      | false ↦ all_filtered P p xs all.1
    ]

pub all_taken : {X : Type 0} (P : X → Type 0) (n : ℕ) (xs : List X) → AllByRecursion P xs → AllByRecursion P (take n xs)
all_taken P zero xs all = tt
all_taken P (suc n) [] all = tt
all_taken P (suc n) (x ∷ xs) all = (all.0, all_taken P n xs all.1)

all_mapped : {X Y : Type 0} (P : Y → Type 0) (f : X → Y) (xs : List X) → AllByRecursion (λ x. P (f x)) xs → AllByRecursion P (map f xs)
all_mapped P f [] all = tt
all_mapped P f (x ∷ xs) all = (all.0, all_mapped P f xs all.1)

pub all_put : {X : Type 0} (P : X → Type 0) (cmp : X → X → Ordering) (x : X) (ys : List X) → P x → AllByRecursion P ys → AllByRecursion P (put_in_order cmp x ys)
all_put P cmp x [] here all = (here, tt)
all_put P cmp x (y ∷ ys) here all =
    elim (is_lt (cmp y x)) as (λ b. AllByRecursion P (if b then y ∷ put_in_order cmp x ys else x ∷ y ∷ ys)) [
      | true ↦ (all.0, all_put P cmp x ys here all.1)
      | false ↦ (here, all)
    ]

all_in_order : {X : Type 0} (P : X → Type 0) (cmp : X → X → Ordering) (xs : List X) → AllByRecursion P xs → AllByRecursion P (in_order cmp xs)
all_in_order P cmp [] all = tt
all_in_order P cmp (x ∷ xs) all = all_put P cmp x (in_order cmp xs) all.0 (all_in_order P cmp xs all.1)

-- ---- what is in a list is in those that are made from it
pub among_left : {X : Type 0} (xs ys : List X) (x : X) → Among x xs → Among x (xs ++ ys)
among_left [] ys x at = absurd at
among_left (y ∷ xs) ys x (inl is) = inl is
among_left (y ∷ xs) ys x (inr more) = inr (among_left xs ys x more)

pub among_right : {X : Type 0} (xs ys : List X) (y : X) → Among y ys → Among y (xs ++ ys)
among_right [] ys y at = at
among_right (x ∷ xs) ys y at = inr (among_right xs ys y at)

pub among_map : {X Y : Type 0} (f : X → Y) (xs : List X) (x : X) → Among x xs → Among (f x) (map f xs)
among_map f [] x at = absurd at
among_map f (y ∷ xs) x (inl is) = inl (ap f is)
among_map f (y ∷ xs) x (inr more) = inr (among_map f xs x more)

pub among_flat : {X Y : Type 0} (f : X → List Y) (xs : List X) (x : X) (y : Y) → Among x xs → Among y (f x) → Among y (flat_map f xs)
among_flat f [] x y at here = absurd at
among_flat f (z ∷ xs) x y (inl is) here = among_left (f z) (flat_map f xs) y (subst (λ w. Among y (f w)) is here)
among_flat f (z ∷ xs) x y (inr more) here = among_right (f z) (flat_map f xs) y (among_flat f xs x y more here)

-- ---- what is in a list that is made from others
pub in_flat : {X Y : Type 0} (f : X → List Y) (xs : List X) (y : Y) → Among y (flat_map f xs) → (x : X) × Among x xs × Among y (f x)
in_flat f [] y at = absurd at
in_flat f (x ∷ xs) y at =
    elim (among_either y (f x) (flat_map f xs) at) [
      | inl here ↦ (x, inl refl, here)
      | inr more ↦ let m = in_flat f xs y more in (m.0, inr m.1, m.2)
    ]

module _ {X Y : Type 0} where
  pub in_filter_map : (h : X → Option Y) (xs : List X) (y : Y) → Among y (filter_map h xs) → (x : X) × Among x xs × (h x ≡ Some y)
  in_filter_map h [] y at = absurd at
  in_filter_map h (x ∷ xs) y at =
      elim (h x) as (λ found. h x ≡ found → Among y (cons_option found (filter_map h xs)) → (z : X) × Among z (x ∷ xs) × (h z ≡ Some y)) [
        | None ↦ λ e here. let m = in_filter_map h xs y here in (m.0, inr m.1, m.2)
        | Some w ↦ λ e here. elim here [
          | inl is ↦ (x, inl refl, e ∙ ap Some (sym is))
          | inr more ↦ let m = in_filter_map h xs y more in (m.0, inr m.1, m.2)
        ]
      ] refl at

pub in_map : {X Y : Type 0} (f : X → Y) (xs : List X) (y : Y) → Among y (map f xs) → (x : X) × Among x xs × (y ≡ f x)
in_map f [] y at = absurd at
in_map f (x ∷ xs) y (inl is) = (x, inl refl, is)
in_map f (x ∷ xs) y (inr more) = let m = in_map f xs y more in (m.0, inr m.1, m.2)

pub in_reverse : {X : Type 0} (xs : List X) (y : X) → Among y (reverse xs) → Among y xs
in_reverse [] y at = at
in_reverse (x ∷ xs) y at =
    elim (among_either y (reverse xs) (x ∷ []) (subst (Among y) (reverse-append (x ∷ []) xs) at)) [
      | inl more ↦ inr (in_reverse xs y more)
      | inr last ↦ elim last [ inl is ↦ inl is | inr none ↦ absurd none ]
    ]

pub in_range_list : (a n j : ℕ) → Among j (range_with_len a n) → (a ≤ j) × (j < a + n)
in_range_list a zero j at = absurd at
in_range_list a (suc n) j (inl is) = (omega arith, omega arith)
in_range_list a (suc n) j (inr more) = let r = in_range_list (a + 1) n j more in (omega (arith, r.0), omega (arith, r.1))

-- ---- pairs
pub pairs_append : {X : Type 0} (R : X → X → Type 0) (xs ys : List X) → ArePaired R xs → ArePaired R ys → ((a b : X) → Among a xs → Among b ys → R a b) → ArePaired R (xs ++ ys)
pairs_append R [] ys at_xs at_ys cross = at_ys
pairs_append R (x ∷ xs) ys at_xs at_ys cross = (
  all_append (R x) xs ys at_xs.0 (all_among (R x) ys (λ b at. cross x b (inl refl) at)),
  pairs_append R xs ys at_xs.1 at_ys (λ a b at_a at_b. cross a b (inr at_a) at_b),
)

pub pairs_flat : {X Y : Type 0} (Q : X → X → Type 0) (R : Y → Y → Type 0) (f : X → List Y) (xs : List X) → ((x : X) → Among x xs → ArePaired R (f x))
    → ((x z : X) → Among x xs → Among z xs → Q x z → (a b : Y) → Among a (f x) → Among b (f z) → R a b) → ArePaired Q xs → ArePaired R (flat_map f xs)
pairs_flat Q R f [] each cross pairs = tt
pairs_flat Q R f (x ∷ xs) each cross pairs =
    pairs_append R (f x) (flat_map f xs) (each x (inl refl)) (pairs_flat Q R f xs (λ y at. each y (inr at)) (λ y z at_y at_z. cross y z (inr at_y) (inr at_z)) pairs.1)
    (λ a b at_a at_b. let m = in_flat f xs b at_b in cross x m.0 (inl refl) (inr m.1) (among_all (Q x) xs m.0 pairs.0 m.1) a b at_a m.2)

pub pairs_filter_map : {X Y : Type 0} (Q : X → X → Type 0) (R : Y → Y → Type 0) (h : X → Option Y) (xs : List X) → ((x z : X) → Q x z → (a b : Y) → h x ≡ Some a → h z ≡ Some b → R a b)
    → ArePaired Q xs → ArePaired R (filter_map h xs)
pairs_filter_map Q R h [] cross pairs = tt
pairs_filter_map Q R h (x ∷ xs) cross pairs =
    elim (h x) as (λ found. h x ≡ found → ArePaired R (cons_option found (filter_map h xs))) [
      | None ↦ λ e. pairs_filter_map Q R h xs cross pairs.1
      | Some a ↦ λ e. (
        all_among (R a) (filter_map h xs) (λ b at. let m = in_filter_map h xs b at in cross x m.0 (among_all (Q x) xs m.0 pairs.0 m.1) a b e m.2),
        pairs_filter_map Q R h xs cross pairs.1,
      )
    ] refl

pub pairs_by : {X : Type 0} (R S : X → X → Type 0) (xs : List X) → ((x z : X) → R x z → S x z) → ArePaired R xs → ArePaired S xs
pairs_by R S [] each pairs = tt
pairs_by R S (x ∷ xs) each pairs = (all_by (R x) (S x) xs (each x) pairs.0, pairs_by R S xs each pairs.1)

pub pairs_mapped : {X Y : Type 0} (R : Y → Y → Type 0) (f : X → Y) (xs : List X) → ArePaired (λ x z. R (f x) (f z)) xs → ArePaired R (map f xs)
pairs_mapped R f [] pairs = tt
pairs_mapped R f (x ∷ xs) pairs = (all_mapped (R (f x)) f xs pairs.0, pairs_mapped R f xs pairs.1)

pub pairs_filtered : {X : Type 0} (R : X → X → Type 0) (p : X → Bool) (xs : List X) → ArePaired R xs → ArePaired R (filter p xs)
pairs_filtered R p [] pairs = tt
pairs_filtered R p (x ∷ xs) pairs =
    elim (p x) as (λ b. ArePaired R (cond b (x ∷ filter p xs) (filter p xs))) [
      | true ↦ (all_filtered (R x) p xs pairs.0, pairs_filtered R p xs pairs.1)
      | false ↦ pairs_filtered R p xs pairs.1
    ]

pub pairs_taken : {X : Type 0} (R : X → X → Type 0) (n : ℕ) (xs : List X) → ArePaired R xs → ArePaired R (take n xs)
pairs_taken R zero xs pairs = tt
pairs_taken R (suc n) [] pairs = tt
pairs_taken R (suc n) (x ∷ xs) pairs = (all_taken (R x) n xs pairs.0, pairs_taken R n xs pairs.1)

-- a relation that goes both ways is kept by any order
module _ {X : Type 0} (R : X → X → Type 0) (turned : (x y : X) → R x y → R y x) where
  pairs_put : (cmp : X → X → Ordering) (x : X) (ys : List X) → AllByRecursion (R x) ys → ArePaired R ys → ArePaired R (put_in_order cmp x ys)
  pairs_put cmp x [] others pairs = (tt, tt)
  pairs_put cmp x (y ∷ ys) others pairs =
      elim (is_lt (cmp y x)) as (λ b. ArePaired R (if b then y ∷ put_in_order cmp x ys else x ∷ y ∷ ys)) [
        | true ↦ (all_put (R y) cmp x ys (turned x y others.0) pairs.0, pairs_put cmp x ys others.1 pairs.1)
        | false ↦ (others, pairs)
      ]

  pub pairs_in_order : (cmp : X → X → Ordering) (xs : List X) → ArePaired R xs → ArePaired R (in_order cmp xs)
  pairs_in_order cmp [] pairs = tt
  pairs_in_order cmp (x ∷ xs) pairs = pairs_put cmp x (in_order cmp xs) (all_in_order (R x) cmp xs pairs.0) (pairs_in_order cmp xs pairs.1)

  pub pairs_reversed : (xs : List X) → ArePaired R xs → ArePaired R (reverse xs)
  pairs_reversed [] pairs = tt
  pairs_reversed (x ∷ xs) pairs =
      subst (ArePaired R) (sym (reverse-append (x ∷ []) xs))
      (pairs_append R (reverse xs) (x ∷ []) (pairs_reversed xs pairs.1) (tt, tt) (λ a b at_a at_b.
      elim at_b [
        | inl is ↦ subst (R a) (sym is) (turned x a (among_all (R x) xs a pairs.0 (in_reverse xs a at_a)))
        | inr none ↦ absurd none
      ]))

-- the numbers of a range differ
pub range_paired : (a n : ℕ) → ArePaired (λ (i j : ℕ). i ≢ j) (range_with_len a n)
range_paired a zero = tt
range_paired a (suc n) = (
  all_among (λ (j : ℕ). a ≢ j) (range_with_len (a + 1) n) (λ j at same. let r = (in_range_list (a + 1) n j at).0 in absurd (omega (arith, r, same))),
  range_paired (a + 1) n,
)
