-- The position of a key among entries that ascend, or the one at which it would be inserted.
use Rattle.std.specs.Prelude.{◌≡◌, ℕ, zero, suc, List, [], ◌∷◌, Bool, true, ⊤}
use Rattle.std.specs.Ordering.{nat_cmp, is_lt}
use Rattle.std.specs.declared.cmp.Ordering.TheVariants.{Less, Equal, Greater}
use Rattle.std.specs.Cmp.Lexicographic.{slice_cmp}
use Rattle.trees.specs.declared.tree.Tree.{Tree}

-- the first n entries have keys below k
abbrev pub IsAbove : List ℕ → ℕ → List (List ℕ × Tree) → Type 0
IsAbove k zero es = ⊤
IsAbove k (suc n) [] = ⊥
IsAbove k (suc n) (e ∷ es) = (slice_cmp nat_cmp k e.0 ≡ Greater) × IsAbove k n es

-- the entry at n has the key, and those before it have keys below
abbrev pub IsAt : List ℕ → ℕ → List (List ℕ × Tree) → Type 0
IsAt k n [] = ⊥
IsAt k zero (e ∷ es) = slice_cmp nat_cmp k e.0 ≡ Equal
IsAt k (suc n) (e ∷ es) = (slice_cmp nat_cmp k e.0 ≡ Greater) × IsAt k n es

-- the key belongs before the entry at n, or at the end
abbrev pub IsGap : List ℕ → ℕ → List (List ℕ × Tree) → Type 0
IsGap k zero [] = ⊤
IsGap k zero (e ∷ es) = slice_cmp nat_cmp k e.0 ≡ Less
IsGap k (suc n) [] = ⊥
IsGap k (suc n) (e ∷ es) = (slice_cmp nat_cmp k e.0 ≡ Greater) × IsGap k n es

-- the key is above that of the last entry, if there is one
abbrev pub goes_last : List ℕ → List (List ℕ × Tree) → Bool
goes_last k [] = true
goes_last k (e ∷ []) = is_lt (slice_cmp nat_cmp e.0 k)
goes_last k (e ∷ f ∷ es) = goes_last k (f ∷ es)
