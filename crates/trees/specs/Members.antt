-- Members that are set or removed.
use Rattle.std.specs.Prelude.{ℕ, List, bytes_eq, Option, Some, None, if◌then◌else◌}
use Rattle.serde_json.specs.Data.{Data, Members, no_members, member, put}

-- the members without that key
abbrev pub without_member : List ℕ → Members → Members
without_member k no_members = no_members
without_member k (member l d ms) = if bytes_eq k l then without_member k ms else member l d (without_member k ms)

-- the members with that value at the key, or without the key if there is none
abbrev pub set_member : List ℕ → Option Data → Members → Members
set_member k None ms = without_member k ms
set_member k (Some d) ms = put k d ms
