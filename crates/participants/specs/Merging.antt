-- JSON merge patches (RFC 7396, section 2).
use Rattle.std.specs.Prelude.{Bool, true, false, Option, Some, None, option_and_then, unwrap_or, if◌then◌else◌}
use Rattle.serde_json.specs.Data.{Data, null, boolean, number, string, array, object, Members, no_members, member}
use Rattle.serde_json.specs.Find.{as_object, get_member}
use Rattle.trees.specs.Members.{set_member}

abbrev pub is_null : Data → Bool
is_null null = true
is_null d = false

-- the members of a map; none of another value, or of a missing one
abbrev pub members_in : Option Data → Members
members_in found = unwrap_or (option_and_then as_object found) no_members

-- a null in a patch removes the member
abbrev pub unless_null : (patch : Data) → (new : Data) → Option Data
unless_null patch new = if is_null patch then None else Some new

-- A map changes the members that it names, one after another. Any other patch replaces the value.
abbrev mutual
  pub merged : (target : Option Data) → (patch : Data) → Data
  merged target null = null
  merged target (boolean b) = boolean b
  merged target (number n) = number n
  merged target (string s) = string s
  merged target (array ds) = array ds
  merged target (object ps) = object (merged_members (members_in target) ps)

  pub merged_members : Members → (patch : Members) → Members
  merged_members ms no_members = ms
  merged_members ms (member k d ps) = merged_members (set_member k (unless_null d (merged (get_member k ms) d)) ms) ps
