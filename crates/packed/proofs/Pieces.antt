-- The first piece of a delta and what is after it.
use Rattle.std.proofs.Common.{◌≡◌, ℕ, zero, suc, ◌+◌, ◌<◌, List, [], ◌∷◌, ◌++◌, length, take, drop, refl, ap, ◌∙◌, sym, arith, slice_index_or, Bool, true, false, ◌==◌}
use Rattle.std.proofs.lemmas.Bool.{eqb-true}
use Rattle.packed.specs.Expanded.{pieces, expanded}

pub pieces_added : (base : List ℕ) (n : ℕ) (xs : List ℕ) → pieces base n xs ≡ take n xs ++ pieces base 0 (drop n xs)
unfolding pieces
pieces_added base zero xs = refl
pieces_added base (suc n) [] = refl
pieces_added base (suc n) (x ∷ xs) = ap (λ r. x ∷ r) (pieces_added base n xs)

-- a delta too short for a piece
pub pieces_short : (base delta : List ℕ) → length delta < 3 → pieces base 0 delta ≡ []
unfolding pieces
pieces_short base [] h = refl
pieces_short base (a ∷ []) h = refl
pieces_short base (a ∷ b ∷ []) h = refl
pieces_short base (a ∷ b ∷ c ∷ xs) h = absurd (omega arith)

pub pieces_first : (base : List ℕ) (skipped copied added : ℕ) (xs : List ℕ)
    → pieces base 0 (skipped ∷ copied ∷ added ∷ xs) ≡ take copied (drop skipped base) ++ (take added xs ++ pieces (drop copied (drop skipped base)) 0 (drop added xs))
unfolding pieces
pieces_first base skipped copied added xs = ap (λ r. take copied (drop skipped base) ++ r) (pieces_added (drop copied (drop skipped base)) added xs)

-- a delta with nothing in it, by the test for that, and another one
pub expanded_none : (base delta : List ℕ) (empty : Bool) → empty ≡ (length delta == 0) → empty ≡ true → expanded base delta ≡ base
unfolding expanded
expanded_none base [] empty is holds = refl
expanded_none base (x ∷ xs) empty is holds = absurd (omega (arith, eqb-true (length (x ∷ xs)) 0 (sym is ∙ holds)))

pub expanded_some : (base delta : List ℕ) (empty : Bool) → empty ≡ (length delta == 0) → empty ≡ false → expanded base delta ≡ pieces base 0 delta
unfolding expanded
expanded_some base [] empty is fails = absurd cc
expanded_some base (x ∷ xs) empty is fails = refl

-- the first piece by its three bytes and what is after them
pub pieces_some : (base delta head after : List ℕ) → head ≡ take 3 delta → after ≡ drop 3 delta → length after + 3 ≡ length delta
    → pieces base 0 delta ≡ take (slice_index_or head 1 0) (drop (slice_index_or head 0 0) base)
    ++ (take (slice_index_or head 2 0) after ++ pieces (drop (slice_index_or head 1 0) (drop (slice_index_or head 0 0) base)) 0 (drop (slice_index_or head 2 0) after))
pieces_some base [] head after e f h = absurd (omega arith)
pieces_some base (a ∷ []) head after e f h = absurd (omega arith)
pieces_some base (a ∷ b ∷ []) head after e f h = absurd (omega arith)
pieces_some base (a ∷ b ∷ c ∷ xs) head after e f h = rw (e, f) (pieces_first base a b c xs)

pub none_of_empty : (xs : List ℕ) (empty : Bool) → empty ≡ (length xs == 0) → empty ≡ true → xs ≡ []
none_of_empty [] empty is holds = refl
none_of_empty (x ∷ xs) empty is holds = absurd (omega (arith, eqb-true (length (x ∷ xs)) 0 (sym is ∙ holds)))

pub expanded_nothing : (base : List ℕ) → expanded base [] ≡ base
unfolding expanded
expanded_nothing base = refl
