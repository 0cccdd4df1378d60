-- The number that an `Integer` holds.
use Rattle.std.specs.Prelude.{◌<◌, ◌^◌, ℤ, pos, negsuc}
use Rattle.trees.specs.declared.integer.Number.{Number}
use Rattle.trees.specs.declared.integer.Number.TheVariants.{Count, Below}

abbrev pub number_of : Number → ℤ
number_of (Count n) = pos n
number_of (Below z) = z

-- a number of 64 bits, in one form: a signed one is below zero
abbrev pub IsInteger : Number → Type 0
IsInteger (Count n) = n < 2 ^ 64
IsInteger (Below (pos n)) = ⊥
IsInteger (Below (negsuc n)) = n < 2 ^ 63
