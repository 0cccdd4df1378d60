use Rattle.std.specs.Prelude.{List, ℕ}
use Rattle.packed.specs.declared.delta.Form.{Form}
use Rattle.packed.specs.declared.delta.Form.TheVariants.{Short, Long}

-- The bytes of a delta, whichever form it has.
abbrev pub bytes_of : Form → List ℕ
bytes_of (Short v) = v
bytes_of (Long v) = v.items
