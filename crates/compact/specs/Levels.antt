-- The maps of a line whose members are noted.
use Rattle.std.specs.Prelude.{List, ℕ, bytes_eq, codes, if◌then◌else◌}
use Rattle.compact.specs.declared.scanner.Level.{Level}
use Rattle.compact.specs.declared.scanner.Level.TheVariants.{Line, Object, Metadata, Other}

-- the level of the member of that key, in a value of that level
abbrev pub below : Level → List ℕ → Level
below Line key = if bytes_eq key (codes "object") then Object else Other
below Object key = if bytes_eq key (codes "metadata") then Metadata else Other
below Metadata key = Other
below Other key = Other
