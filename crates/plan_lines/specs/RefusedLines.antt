-- The first line for which a text is refused.
use Rattle.std.specs.Prelude.{ℕ, ◌+◌, Bool, List, [], ◌∷◌, Option, Some, None, is_ok, if◌then◌else◌}
use Rattle.objects.specs.Reading.{reading}
use Rattle.plain.specs.Lines.{lines}

-- the number of the first line that cannot be read, if any, counted from n
abbrev pub first_refused : (reads : List ℕ → Bool) → (n : ℕ) → List (List ℕ) → Option ℕ
first_refused reads n [] = None
first_refused reads n (line ∷ rest) = if reads line then first_refused reads (n + 1) rest else Some n

-- the number of the first line, from 1, that is no object
abbrev pub refused_line_of : List ℕ → Option ℕ
refused_line_of text = first_refused (λ line. is_ok (reading line)) 1 (lines text)
