-- Bytes of two texts, pair by pair.
use Rattle.std.specs.Prelude.{ℕ, Bool, not, ◌==◌, List}
use Rattle.std.specs.Simd.Lanes.{zip2}

abbrev pub pairs : List ℕ → List ℕ → List (ℕ × ℕ)
pairs xs ys = zip2 (λ x y. (x, y)) xs ys

abbrev pub differ : ℕ × ℕ → Bool
differ p = not (p.0 == p.1)
