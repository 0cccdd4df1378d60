-- What is found by its number in a list of numbered values: after a filter, a change of each value, or with a list
-- after it.
use Rattle.std.proofs.Common.{◌≡◌, ℕ, Bool, true, false, cond, ◌&&◌, T, List, [], ◌∷◌, ◌++◌, map, filter, Option, Some, None, option_map, refl, sym, ap, ◌∙◌, ◌<◌, arith}
use Rattle.std.specs.List.{AllByRecursion}
use Rattle.std.specs.Cmp.{nat_cmp_total, tied_itself}
use Rattle.std.proofs.lemmas.Cmp.{ranked}
use Rattle.std.specs.Option.{option_or}
use Rattle.std.specs.Ordering.{nat_cmp, eq_by_cmp, is_eq, is_lt}
use Rattle.std.specs.declared.cmp.Ordering.{Ordering}
use Rattle.std.specs.declared.cmp.Ordering.TheVariants.{Less, Equal, Greater}
use Rattle.std.specs.FinMap.{find, is_sorted, nat_cmp-IsAntisymmetric}
use Rattle.std.specs.FinMap.Entries.{below_all}
use Rattle.std.proofs.lemmas.Bool.{and_parts}
use Rattle.std.proofs.lemmas.Map.Entries.{option_filter}
use Rattle.std.proofs.lemmas.Option.{none-some}
use Rattle.objects.specs.KeyOrder.{equal_from}

-- numbers that tie are one
pub equal_numbers : (m n : ℕ) → eq_by_cmp nat_cmp m n ≡ true → m ≡ n
equal_numbers m n tie = nat_cmp-IsAntisymmetric m n (equal_from (nat_cmp m n) tie)

pub holds : (b : Bool) → b ≡ true → T b
holds true h = tt
holds false h = cc

pub is_held : (b : Bool) → T b → b ≡ true
is_held true h = refl
is_held false h = absurd h

-- options with the same values are one
pub same_options : {X : Type 0} (o p : Option X) → ((x : X) → o ≡ Some x → p ≡ Some x) → ((x : X) → p ≡ Some x → o ≡ Some x) → o ≡ p
same_options (Some x) p there back = sym (there x refl)
same_options None (Some y) there back = back y refl
same_options None None there back = refl

not_tied : (r : Ordering) → is_lt r ≡ true → is_eq r ≡ false
not_tied Less h = refl
not_tied Equal h = cc
not_tied Greater h = refl

-- a number below all others is not found
pub none_below : {X : Type 0} (n : ℕ) (es : List (ℕ × X)) → below_all nat_cmp n es ≡ true → find nat_cmp n es ≡ None
none_below n [] below = refl
none_below n (e ∷ es) below =
    let parts = and_parts (is_lt (nat_cmp n e.0)) (below_all nat_cmp n es) below in
    ap (λ b. cond b (Some e.1) (find nat_cmp n es)) (not_tied (nat_cmp n e.0) parts.0) ∙ none_below n es parts.1

-- ---- filters

pub below-filter : {X : Type 0} (p : ℕ × X → Bool) (n : ℕ) (es : List (ℕ × X)) → below_all nat_cmp n es ≡ true → below_all nat_cmp n (filter p es) ≡ true
below-filter p n [] below = refl
below-filter p n (e ∷ es) below =
    let parts = and_parts (is_lt (nat_cmp n e.0)) (below_all nat_cmp n es) below in
    let rest = below-filter p n es parts.1 in
    elim (p e) as (λ b. below_all nat_cmp n (cond b (e ∷ filter p es) (filter p es)) ≡ true) [ true ↦ rw (parts.0, rest) refl | false ↦ rest ]

-- what a filter keeps of a list in order is in order
pub is_sorted-filter : {X : Type 0} (p : ℕ × X → Bool) (es : List (ℕ × X)) → is_sorted nat_cmp es ≡ true → is_sorted nat_cmp (filter p es) ≡ true
is_sorted-filter p [] sorted = refl
is_sorted-filter p (e ∷ es) sorted =
    let parts = and_parts (below_all nat_cmp e.0 es) (is_sorted nat_cmp es) sorted in
    let rest = is_sorted-filter p es parts.1 in
    elim (p e) as (λ b. is_sorted nat_cmp (cond b (e ∷ filter p es) (filter p es)) ≡ true) [
      | true ↦ rw (below-filter p e.0 es parts.0, rest) refl
      | false ↦ rest
    ]

filtered_by : {X : Type 0} (q : X → Bool) (n : ℕ) (e : ℕ × X) (es : List (ℕ × X)) (t b : Bool) → eq_by_cmp nat_cmp n e.0 ≡ t → q e.1 ≡ b
    → find nat_cmp e.0 es ≡ None → find nat_cmp n (filter (λ x. q x.1) es) ≡ option_filter q (find nat_cmp n es)
    → find nat_cmp n (filter (λ x. q x.1) (e ∷ es)) ≡ option_filter q (find nat_cmp n (e ∷ es))
filtered_by q n e es true true tie kept none rest = rw (kept, tie) (rw kept refl)
filtered_by q n e es true false tie kept none rest =
    let left : find nat_cmp n es ≡ None = ap (λ m. find nat_cmp m es) (equal_numbers n e.0 tie) ∙ none in
    rw (kept, tie) (rw kept (rest ∙ ap (option_filter q) left))
filtered_by q n e es false true tie kept none rest = rw (kept, tie) rest
filtered_by q n e es false false tie kept none rest = rw (kept, tie) rest

-- by a test of the values
pub find-filter : {X : Type 0} (q : X → Bool) (n : ℕ) (es : List (ℕ × X)) → is_sorted nat_cmp es ≡ true
    → find nat_cmp n (filter (λ e. q e.1) es) ≡ option_filter q (find nat_cmp n es)
find-filter q n [] sorted = refl
find-filter q n (e ∷ es) sorted =
    let parts = and_parts (below_all nat_cmp e.0 es) (is_sorted nat_cmp es) sorted in
    filtered_by q n e es (eq_by_cmp nat_cmp n e.0) (q e.1) refl refl (none_below e.0 es parts.0) (find-filter q n es parts.1)

-- ---- each value changed

pub find-map : {X Y : Type 0} (f : X → Y) (n : ℕ) (es : List (ℕ × X)) → find nat_cmp n (map (λ e. (e.0, f e.1)) es) ≡ option_map f (find nat_cmp n es)
find-map f n [] = refl
find-map f n (e ∷ es) =
    elim (eq_by_cmp nat_cmp n e.0) as (λ b. cond b (Some (f e.1)) (find nat_cmp n (map (λ e. (e.0, f e.1)) es))
    ≡ option_map f (cond b (Some e.1) (find nat_cmp n es))) [
      | true ↦ refl
      | false ↦ find-map f n es
    ]

below-map : {X Y : Type 0} (f : X → Y) (n : ℕ) (es : List (ℕ × X)) → below_all nat_cmp n (map (λ e. (e.0, f e.1)) es) ≡ below_all nat_cmp n es
below-map f n [] = refl
below-map f n (e ∷ es) = ap (λ b. is_lt (nat_cmp n e.0) && b) (below-map f n es)

pub is_sorted-map : {X Y : Type 0} (f : X → Y) (es : List (ℕ × X)) → is_sorted nat_cmp (map (λ e. (e.0, f e.1)) es) ≡ is_sorted nat_cmp es
is_sorted-map f [] = refl
is_sorted-map f (e ∷ es) = rw (below-map f e.0 es, is_sorted-map f es) refl

-- ---- a list after another

pub find-append : {X : Type 0} (n : ℕ) (es fs : List (ℕ × X)) → find nat_cmp n (es ++ fs) ≡ option_or (find nat_cmp n es) (find nat_cmp n fs)
find-append n [] fs = refl
find-append n (e ∷ es) fs =
    elim (eq_by_cmp nat_cmp n e.0) as (λ b. cond b (Some e.1) (find nat_cmp n (es ++ fs))
    ≡ option_or (cond b (Some e.1) (find nat_cmp n es)) (find nat_cmp n fs)) [
      | true ↦ refl
      | false ↦ find-append n es fs
    ]

-- ---- in order

less_by : (n : ℕ) (m : ℕ) → is_lt (nat_cmp n m) ≡ true → n < m
less_by n m h = ranked n m Less (sym (only_less (nat_cmp n m) h))
  where
    only_less : (r : Ordering) → is_lt r ≡ true → r ≡ Less
    only_less Less h = refl
    only_less Equal h = cc
    only_less Greater h = cc

below_less : {X : Type 0} (n : ℕ) (es : List (ℕ × X)) → below_all nat_cmp n es ≡ true → AllByRecursion (λ e. n < e.0) es
below_less n [] below = tt
below_less n (e ∷ es) below = let parts = and_parts (is_lt (nat_cmp n e.0)) (below_all nat_cmp n es) below in (less_by n e.0 parts.0, below_less n es parts.1)

-- the first is below all others
pub less_all : {X : Type 0} (e : ℕ × X) (es : List (ℕ × X)) → is_sorted nat_cmp (e ∷ es) ≡ true → AllByRecursion (λ f. e.0 < f.0) es
less_all e es sorted = below_less e.0 es (and_parts (below_all nat_cmp e.0 es) (is_sorted nat_cmp es) sorted).0

found_past : {X : Type 0} (n : ℕ) (e : ℕ × X) (es : List (ℕ × X)) → e.0 < n → find nat_cmp n (e ∷ es) ≡ find nat_cmp n es
found_past n e es less = by (eq_by_cmp nat_cmp n e.0) refl
  where
    by : (b : Bool) → eq_by_cmp nat_cmp n e.0 ≡ b → cond b (Some e.1) (find nat_cmp n es) ≡ find nat_cmp n es
    by true tie = let same = equal_numbers n e.0 tie in absurd (omega arith)
    by false tie = refl

-- each is found where it is
pub found_here : {X : Type 0} (fs : List (ℕ × X)) (e : ℕ × X) (es : List (ℕ × X)) → is_sorted nat_cmp (fs ++ e ∷ es) ≡ true → find nat_cmp e.0 (fs ++ e ∷ es) ≡ Some e.1
found_here [] e es sorted = ap (λ b. cond b (Some e.1) (find nat_cmp e.0 es)) (ap is_eq (tied_itself nat_cmp_total e.0))
found_here (f ∷ fs) e es sorted =
    found_past e.0 f (fs ++ e ∷ es) (within (λ (x : ℕ × _). f.0 < x.0) fs e es (less_all f (fs ++ e ∷ es) sorted))
    ∙ found_here fs e es (and_parts (below_all nat_cmp f.0 (fs ++ e ∷ es)) (is_sorted nat_cmp (fs ++ e ∷ es)) sorted).1
  where
    within : {A : Type 0} (P : A → Type 0) (xs : List A) (y : A) (ys : List A) → AllByRecursion P (xs ++ y ∷ ys) → P y
    within P [] y ys h = h.0
    within P (x ∷ xs) y ys h = within P xs y ys h.1

-- what is found among the rest is found in the whole list
found_later : {X : Type 0} (e : ℕ × X) (es : List (ℕ × X)) → is_sorted nat_cmp (e ∷ es) ≡ true → (n : ℕ) (x : X) → find nat_cmp n es ≡ Some x → find nat_cmp n (e ∷ es) ≡ Some x
found_later e es sorted n x found = by (eq_by_cmp nat_cmp n e.0) refl
  where
    by : (b : Bool) → eq_by_cmp nat_cmp n e.0 ≡ b → find nat_cmp n (e ∷ es) ≡ Some x
    by true tie =
        let none = none_below e.0 es (and_parts (below_all nat_cmp e.0 es) (is_sorted nat_cmp es) sorted).0 in
        absurd (none-some x (sym none ∙ ap (λ m. find nat_cmp m es) (sym (equal_numbers n e.0 tie)) ∙ found))
    by false tie = ap (λ b. cond b (Some e.1) (find nat_cmp n es)) tie ∙ found

-- what holds of all that is found holds of all
pub all_found : {X : Type 0} (P : ℕ × X → Type 0) (es : List (ℕ × X)) → is_sorted nat_cmp es ≡ true → ((n : ℕ) (x : X) → find nat_cmp n es ≡ Some x → P (n, x)) → AllByRecursion P es
all_found P [] sorted each = tt
all_found P (e ∷ es) sorted each = (
  each e.0 e.1 (found_here [] e es sorted),
  all_found P es (and_parts (below_all nat_cmp e.0 es) (is_sorted nat_cmp es) sorted).1 (λ n x found. each n x (found_later e es sorted n x found)),
)
