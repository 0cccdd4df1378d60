-- Bytes that a string has as they are, with no escape.
use Rattle.std.specs.Prelude.{ℕ, Bool, not, ◌||◌, ◌==◌, nat_lt}

-- a quote, a backslash and a control byte do not
abbrev pub is_stop : ℕ → Bool
is_stop x = (x == 34) || (x == 92) || nat_lt x 32

abbrev pub is_plain : ℕ → Bool
is_plain x = not (is_stop x)
