-- The first line for which a text has no race.
use Rattle.std.specs.Prelude.{ℕ, ◌+◌, List, [], ◌∷◌, Option, Some, None}
use Rattle.std.specs.Option.{option_map_or}
use Rattle.plain.specs.Lines.{lines}
use Rattle.scripts.specs.Events.{◌>>=◌}
use Rattle.race_lines.specs.RaceLines.{line_of}
use Rattle.race_lines.specs.RaceTexts.{RaceParts, opened, with_line}

-- the race with one more line, if that can stand there
abbrev pub next_parts : RaceParts → (number : ℕ) → (line : List ℕ) → Option RaceParts
next_parts p n l = line_of l >>= λ said. with_line p n said

-- the number, in the text, of the first line that cannot stand where it does; n counts from 0 behind the first line
abbrev pub refused_from : RaceParts → (n : ℕ) → List (List ℕ) → Option ℕ
refused_from p n [] = None
refused_from p n (l ∷ ls) = option_map_or (λ q. refused_from q (n + 1) ls) (next_parts p n l) (Some (n + 2))

-- without any line, the first is missing
abbrev pub refused_by : List (List ℕ) → Option ℕ
refused_by [] = Some 1
refused_by (first ∷ rest) = option_map_or (λ p. refused_from p 0 rest) (opened first) (Some 1)

abbrev pub refused_line_of : List ℕ → Option ℕ
refused_line_of text = refused_by (lines text)
