-- What a delta encodes, with the text that it is the difference from, its base.
use Rattle.std.specs.Prelude.{ℕ, zero, suc, List, [], ◌∷◌, ◌++◌, take, drop}

-- A piece has three bytes: how many bytes of the base it skips, how many it copies after them, and how many it adds.
-- The bytes that it adds follow; the number before the delta says how many of them are still to come.
unfoldable pub pieces : List ℕ → ℕ → List ℕ → List ℕ
pieces base (suc n) (x ∷ xs) = x ∷ pieces base n xs
pieces base (suc n) [] = []
pieces base zero (skipped ∷ copied ∷ added ∷ xs) = take copied (drop skipped base) ++ pieces (drop copied (drop skipped base)) added xs
pieces base zero xs = []

-- A delta with nothing in it encodes the base itself.
unfoldable pub expanded : List ℕ → List ℕ → List ℕ
expanded base [] = base
expanded base (x ∷ xs) = pieces base 0 (x ∷ xs)
