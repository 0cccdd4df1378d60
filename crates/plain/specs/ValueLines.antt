-- JSON values as the lines of a text.
use Rattle.std.specs.Prelude.{ℕ, List, [], ◌∷◌, ◌++◌}
use Rattle.serde_json.specs.Data.{Data}
use Rattle.serde_json.specs.Written.{compact_text}

-- each value on a line of its own
abbrev pub text_lines : List Data → List ℕ
text_lines [] = []
text_lines (d ∷ ds) = compact_text d ++ 10 ∷ text_lines ds
