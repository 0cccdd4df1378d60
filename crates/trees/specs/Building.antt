-- Members that are put over others as a map is built.
use Rattle.std.specs.Prelude.{ℕ, List, Option, Some, None}
use Rattle.serde_json.specs.Data.{Data, number, unsigned, Members, put}

-- a missing value is left out
abbrev pub put_some : List ℕ → Option Data → Members → Members
put_some k None ms = ms
put_some k (Some d) ms = put k d ms

abbrev pub put_number : List ℕ → ℕ → Members → Members
put_number k n ms = put k (number (unsigned n)) ms
