-- Plain bytes, seen sixteen at a time.
use Rattle.std.proofs.Common.{◌≡◌, ℕ, ◌+◌, ◌*◌, ◌%◌, ◌^◌, ◌<◌, ◌≤◌, Bool, true, false, not, cond, ◌||◌, ◌==◌, nat_lt, List, [], ◌∷◌, map, length, drop, bit_or, replicate, refl, sym, ap, ap₂, ◌∙◌, arith}
use Rattle.std.proofs.lemmas.Simd.{chunk-drop, length-chunk, leading_from_mask_l, trailing_mask_l, mask_l-mod, zip2_splat, zip2_of_maps}
use Rattle.std.proofs.lemmas.List.{length-map, length-drop}
use Rattle.std.proofs.lemmas.List.Folds.{prefix_len-append}
use Rattle.std.proofs.lemmas.List.Sums.{prefix_len-le-length}
use Rattle.std.proofs.lemmas.Bool.{eq-eqb, ne_eqb}
use Rattle.std.specs.List.{prefix_len}
use lib.Count.{count_trailing_zeros}
use lib.Lanes.{chunk, mask_l, top, zip2}
use Rattle.compact.specs.Plain.{is_stop, is_plain}

-- ---- the three tests of a vector

abbrev equals : ℕ → ℕ → ℕ
equals x y = cond (x == y) 255 0

abbrev is_less : ℕ → ℕ → ℕ
is_less x y = cond (nat_lt x y) 255 0

top_of : (a b c : Bool) → top 7 (bit_or (bit_or (cond a 255 0) (cond b 255 0)) (cond c 255 0)) ≡ (a || b || c)
top_of true true true = refl
top_of true true false = refl
top_of true false true = refl
top_of true false false = refl
top_of false true true = refl
top_of false true false = refl
top_of false false true = refl
top_of false false false = refl

tops : (v : List ℕ) → map (top 7) (map (λ x. bit_or (bit_or (equals x 34) (equals x 92)) (is_less x 32)) v) ≡ map is_stop v
tops [] = refl
tops (x ∷ v) = ap₂ (λ b bs. b ∷ bs) (top_of (x == 34) (x == 92) (nat_lt x 32)) (tops v)

pub stops_are : (v : List ℕ) → length v ≡ 16
    → mask_l (map (top 7) (zip2 bit_or (zip2 bit_or (zip2 equals v (replicate 16 34)) (zip2 equals v (replicate 16 92))) (zip2 is_less v (replicate 16 32)))) % 2 ^ 64 ≡ mask_l (map is_stop v)
stops_are v long =
    let tests = zip2_of_maps bit_or _ _ v (zip2_of_maps bit_or _ _ v (zip2_splat equals v 16 34 long) (zip2_splat equals v 16 92 long)) (zip2_splat is_less v 16 32 long) in
    ap (λ l. mask_l l % 2 ^ 64) (ap (map (top 7)) tests ∙ tops v) ∙ mask_l-mod (map is_stop v) 64 (omega (arith, long, length-map v is_stop))

-- ---- a run of plain bytes

pub run_bound : (text : List ℕ) (at : ℕ) → at ≤ length text → at + prefix_len is_plain (drop at text) ≤ length text
run_bound text at h = omega (arith, prefix_len-le-length is_plain (drop at text), length-drop at text)

run_parts : (text : List ℕ) (at : ℕ) → prefix_len is_plain (drop at text)
    ≡ cond (prefix_len is_plain (chunk at 16 text) == length (chunk at 16 text)) (length (chunk at 16 text) + prefix_len is_plain (drop (at + 16) text)) (prefix_len is_plain (chunk at 16 text))
run_parts text at = ap (prefix_len is_plain) (chunk-drop at 16 text) ∙ prefix_len-append is_plain (chunk at 16 text) (drop (at + 16) text)

-- if none stops, it goes on after them
pub run_on : (text : List ℕ) (at : ℕ) → at + 16 ≤ length text → mask_l (map is_stop (chunk at 16 text)) ≡ 0 → prefix_len is_plain (drop at text) ≡ 16 + prefix_len is_plain (drop (at + 16) text)
run_on text at room none =
    let more = prefix_len is_plain (drop (at + 16) text) in
    run_parts text at
    ∙ ap (λ b. cond b (length (chunk at 16 text) + more) (prefix_len is_plain (chunk at 16 text))) (eq-eqb _ _ (leading_from_mask_l is_stop (chunk at 16 text) none))
    ∙ ap (λ n. n + more) (length-chunk at 16 text room)

all_plain_at : (b : Bool) (run long mask : ℕ) → run ≤ long → cond (not b) (1 + run) 0 ≡ 1 + long → (run ≡ long → mask ≡ 0) → cond b 1 0 + 2 * mask ≡ 0
all_plain_at true run long mask within all later = let no : ⊥ = omega (arith, all) in absurd no
all_plain_at false run long mask within all later = let none = later (omega (arith, all)) in omega (arith, none)

all_plain : (v : List ℕ) → prefix_len is_plain v ≡ length v → mask_l (map is_stop v) ≡ 0
all_plain [] all = refl
all_plain (x ∷ v) all = all_plain_at (is_stop x) (prefix_len is_plain v) (length v) (mask_l (map is_stop v)) (prefix_len-le-length is_plain v) (omega (arith, all)) (all_plain v)

-- if one stops, it ends before the first that does
pub run_ends : (text : List ℕ) (at : ℕ) → at + 16 ≤ length text → 0 < mask_l (map is_stop (chunk at 16 text)) → prefix_len is_plain (drop at text) ≡ count_trailing_zeros 64 (mask_l (map is_stop (chunk at 16 text)))
run_ends text at room some =
    let v = chunk at 16 text in
    run_parts text at
    ∙ ap (λ b. cond b (length v + prefix_len is_plain (drop (at + 16) text)) (prefix_len is_plain v)) (ne_eqb _ _ (λ (all : prefix_len is_plain v ≡ length v). omega (arith, all_plain v all, some)))
    ∙ sym (trailing_mask_l is_stop 64 v (omega (arith, length-chunk at 16 text room)) some)
