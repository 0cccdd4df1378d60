-- How far two texts begin alike, seen sixteen bytes at a time.
use Rattle.std.proofs.Common.{◌≡◌, ℕ, suc, ◌+◌, ◌%◌, ◌^◌, ◌<◌, ◌≤◌, Bool, true, false, not, cond, ◌==◌, List, [], ◌∷◌, ◌++◌, map, length, take, drop, refl, sym, ap, ap₂, subst, ◌∙◌, arith}
use Rattle.std.proofs.lemmas.Simd.{leading_from_mask_l, trailing_mask_l, mask_l-mod, length-chunk, length-zip2}
use Rattle.std.proofs.lemmas.List.{length-map, take_all, take-take}
use Rattle.std.proofs.lemmas.List.Sums.{prefix_len-le-length}
use Rattle.std.proofs.lemmas.Bool.{eqb-true}
use Rattle.std.proofs.Math.Seq.{take-add}
use Rattle.std.specs.List.{prefix_len}
use lib.Count.{count_trailing_zeros}
use lib.Lanes.{chunk, mask_l, top, zip2}
use Rattle.packed.specs.Alike.{differ, pairs}

-- ---- the test of two vectors

abbrev unequal : ℕ → ℕ → ℕ
unequal x y = cond (not (x == y)) 255 0

top_of : (b : Bool) → top 7 (cond b 255 0) ≡ b
top_of true = refl
top_of false = refl

tops : (xs ys : List ℕ) → map (top 7) (zip2 unequal xs ys) ≡ map differ (pairs xs ys)
tops [] ys = refl
tops (x ∷ xs) [] = refl
tops (x ∷ xs) (y ∷ ys) = ap₂ (λ b bs. b ∷ bs) (top_of (not (x == y))) (tops xs ys)

length_pairs : (xs ys : List ℕ) → length xs ≡ length ys → length (pairs xs ys) ≡ length xs
length_pairs xs ys same = length-zip2 (λ x y. (x, y)) xs ys same

pub differences_are : (xs ys : List ℕ) → length xs ≡ 16 → length ys ≡ 16
    → mask_l (map (top 7) (zip2 unequal xs ys)) % 2 ^ 64 ≡ mask_l (map differ (pairs xs ys))
differences_are xs ys long same =
    ap (λ l. mask_l l % 2 ^ 64) (tops xs ys)
    ∙ mask_l-mod (map differ (pairs xs ys)) 64 (omega (arith, long, length-map (pairs xs ys) differ, length_pairs xs ys (long ∙ sym same)))

-- ---- what is alike

abbrev same : ℕ × ℕ → Bool
same p = not (differ p)

alike_at : (b : Bool) (x y n : ℕ) (xs ys : List ℕ) → (x == y) ≡ b → take n xs ≡ take n ys → take (cond (not (not b)) (1 + n) 0) (x ∷ xs) ≡ take (cond (not (not b)) (1 + n) 0) (y ∷ ys)
alike_at false x y n xs ys is later = refl
alike_at true x y n xs ys is later =
    let one : 1 + n ≡ suc n = omega arith in
    ap (λ m. take m (x ∷ xs)) one ∙ ap₂ (λ b bs. b ∷ bs) (eqb-true x y is) later ∙ sym (ap (λ m. take m (y ∷ ys)) one)

alike : (xs ys : List ℕ) → take (prefix_len same (pairs xs ys)) xs ≡ take (prefix_len same (pairs xs ys)) ys
alike [] ys = refl
alike (x ∷ xs) [] = refl
alike (x ∷ xs) (y ∷ ys) = alike_at (x == y) x y (prefix_len same (pairs xs ys)) xs ys refl (alike xs ys)

-- what both begin with, and so many bytes of what comes after
further : (xs ys : List ℕ) (at n : ℕ) → take at xs ≡ take at ys → take n (drop at xs) ≡ take n (drop at ys) → take (at + n) xs ≡ take (at + n) ys
further xs ys at n before behind = take-add at n xs ∙ ap₂ (λ a b. a ++ b) before behind ∙ sym (take-add at n ys)

abbrev AreThere : List ℕ → List ℕ → ℕ → Type 0
AreThere xs ys at = (at + 16 ≤ length xs) × (at + 16 ≤ length ys)

-- if none differs, it goes on after them
pub alike_on : (xs ys : List ℕ) (at : ℕ) → AreThere xs ys at → take at xs ≡ take at ys → mask_l (map differ (pairs (chunk at 16 xs) (chunk at 16 ys))) ≡ 0 → take (at + 16) xs ≡ take (at + 16) ys
alike_on xs ys at room before none =
    let here = length-chunk at 16 xs room.0 in
    let there = length-chunk at 16 ys room.1 in
    let all = leading_from_mask_l differ (pairs (chunk at 16 xs) (chunk at 16 ys)) none ∙ length_pairs (chunk at 16 xs) (chunk at 16 ys) (here ∙ sym there) ∙ here in
    let both : take 16 (chunk at 16 xs) ≡ take 16 (chunk at 16 ys) = subst (λ n. take n (chunk at 16 xs) ≡ take n (chunk at 16 ys)) all (alike (chunk at 16 xs) (chunk at 16 ys)) in
    further xs ys at 16 before (sym (take_all 16 (chunk at 16 xs) (omega (arith, here))) ∙ both ∙ take_all 16 (chunk at 16 ys) (omega (arith, there)))

-- if one differs, it ends before the first that does
pub alike_ends : (xs ys : List ℕ) (at : ℕ) → AreThere xs ys at → take at xs ≡ take at ys → 0 < mask_l (map differ (pairs (chunk at 16 xs) (chunk at 16 ys)))
    → (n : ℕ) → n ≡ count_trailing_zeros 64 (mask_l (map differ (pairs (chunk at 16 xs) (chunk at 16 ys)))) → (n ≤ 16) × (take (at + n) xs ≡ take (at + n) ys)
alike_ends xs ys at room before some n is =
    let here = length-chunk at 16 xs room.0 in
    let there = length-chunk at 16 ys room.1 in
    let ps = pairs (chunk at 16 xs) (chunk at 16 ys) in
    let many = length_pairs (chunk at 16 xs) (chunk at 16 ys) (here ∙ sym there) ∙ here in
    let first = trailing_mask_l differ 64 ps (omega (arith, many)) some in
    let within : n ≤ 16 = omega (arith, is, first, many, prefix_len-le-length same ps) in
    let both : take n (chunk at 16 xs) ≡ take n (chunk at 16 ys) = subst (λ m. take m (chunk at 16 xs) ≡ take m (chunk at 16 ys)) (sym (is ∙ first)) (alike (chunk at 16 xs) (chunk at 16 ys)) in
    (within, further xs ys at n before (sym (take-take n 16 (drop at xs) within) ∙ both ∙ take-take n 16 (drop at ys) within))
