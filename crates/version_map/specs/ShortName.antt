-- A short name as the 16 bytes that hold it: zeros after it, and last how many bytes it has.
use Rattle.std.specs.Prelude.{◌≡◌, ◌≤◌, ◌<◌, ◌-◌, ℕ, List, [], ◌∷◌, ◌++◌, length, take, drop, replicate, slice_index}
use Rattle.std.specs.Slice.Scan.{big_endian}

abbrev pub padded : List ℕ → List ℕ
padded t = t ++ (replicate (15 - length t) 0 ++ length t ∷ [])

abbrev pub text_in : List ℕ → List ℕ
text_in xs = take (slice_index xs 15) xs

abbrev pub IsShort : List ℕ → Type 0
IsShort xs = (padded (text_in xs) ≡ xs) × (length xs ≡ 16) × (slice_index xs 15 ≤ 15) × ((i : ℕ) → slice_index xs i < 256)

-- the eight bytes from an index on as a number, the greatest first
abbrev pub word_at : ℕ → List ℕ → ℕ
word_at from xs = big_endian 0 (take 8 (drop from xs))
