use Rattle.std.specs.Prelude.{List, ℕ, string_bytes}
use Rattle.trees.specs.declared.text.Form.{Form}
use Rattle.trees.specs.declared.text.Form.TheVariants.{Short, Long}

-- The bytes of a text, whichever form it has.
abbrev pub bytes_of : Form → List ℕ
bytes_of (Short s) = s.bytes
bytes_of (Long s) = string_bytes s
