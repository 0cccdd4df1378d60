-- A walk over ordinals, each of which adds its own actions.
use Rattle.std.proofs.Common.{◌≡◌, ℕ, zero, suc, ◌+◌, ◌-◌, ◌≤◌, List, [], ◌∷◌, ◌++◌, length, arith, sym, ap, ◌∙◌, subst}
use Rattle.std.specs.List.{flat_map, range_with_len}
use Rattle.std.proofs.lemmas.List.{append-nil}
use Rattle.std.proofs.lemmas.List.Concat.{flat_map-append}
use Rattle.pod_steps.specs.declared.step.Step.{Step}
use Rattle.pod_steps.specs.Step.{Adds, truncated, pod_steps}
use Rattle.pod_steps.proofs.Truncation.{adds_none, adds_more, adds_past}

-- a range in two parts
pub split_range : (a k n : ℕ) → range_with_len a (k + n) ≡ range_with_len a k ++ range_with_len (a + k) n
split_range a zero n = let e : n ≡ 0 + n = omega arith in let f : a ≡ a + 0 = omega arith in ap (range_with_len a) (sym e) ∙ ap (λ b. range_with_len b n) f
split_range a (suc k) n =
    let e : suc k + n ≡ suc (k + n) = omega arith in
    let f : (a + 1) + k ≡ a + suc k = omega arith in
    ap (range_with_len a) e ∙ ap (λ l. a ∷ l) (split_range (a + 1) k n ∙ ap (λ b. range_with_len (a + 1) k ++ range_with_len b n) f)

split_walk : {X : Type 0} (f : ℕ → List X) (a k n : ℕ) → flat_map f (range_with_len a (k + n)) ≡ flat_map f (range_with_len a k) ++ flat_map f (range_with_len (a + k) n)
split_walk f a k n = ap (flat_map f) (split_range a k n) ∙ flat_map-append f (range_with_len a k) (range_with_len (a + k) n)

-- one more ordinal
pub walk_more : (f : ℕ → List Step) (a k i m : ℕ) (xs ys zs : List Step) → a + k ≡ i → k + 1 ≡ m → Adds xs ys (flat_map f (range_with_len a k)) → Adds ys zs (f i) → Adds xs zs (flat_map f (range_with_len a m))
walk_more f a k i m xs ys zs at_i to_m before here =
    let whole : flat_map f (range_with_len a m) ≡ flat_map f (range_with_len a k) ++ f i =
    ap (λ n. flat_map f (range_with_len a n)) (sym to_m) ∙ (split_walk f a k 1 ∙ ap (λ j. flat_map f (range_with_len a k) ++ (f j ++ [])) at_i ∙ ap (λ l. flat_map f (range_with_len a k) ++ l) (append-nil (f i))) in
    let P : List Step → Type 0 = λ l. Adds xs zs l in
    subst P (sym whole) (adds_more xs ys zs _ _ before here)

-- the rest of a walk adds nothing to a full list
pub walk_past : (f : ℕ → List Step) (a k n : ℕ) (xs ys : List Step) → k ≤ n → Adds xs ys (flat_map f (range_with_len a k)) → 1024 ≤ length (pod_steps ys) → Adds xs ys (flat_map f (range_with_len a n))
walk_past f a k n xs ys within before full =
    let e : k + (n - k) ≡ n = omega arith in
    let P : List Step → Type 0 = λ l. Adds xs ys l in
    subst P (sym (split_walk f a k (n - k)) ∙ ap (λ m. flat_map f (range_with_len a m)) e) (adds_past xs ys _ _ before full)

-- no ordinal yet
pub walk_none : (f : ℕ → List Step) (a k : ℕ) (xs : List Step) → k ≡ 0 → truncated xs ≡ xs → Adds xs xs (flat_map f (range_with_len a k))
walk_none f a k xs none short = let P : List Step → Type 0 = λ l. Adds xs xs l in subst P (ap (λ n. flat_map f (range_with_len a n)) (sym none)) (adds_none xs short)

-- each ordinal
pub walk_all : (f : ℕ → List Step) (a k n : ℕ) (xs ys : List Step) → k ≡ n → Adds xs ys (flat_map f (range_with_len a k)) → Adds xs ys (flat_map f (range_with_len a n))
walk_all f a k n xs ys all walked = let P : List Step → Type 0 = λ l. Adds xs ys l in subst P (ap (λ m. flat_map f (range_with_len a m)) all) walked
