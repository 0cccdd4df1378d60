-- What tables say of the members of maps.
use Rattle.std.specs.Prelude.{⊤, ◌≡◌, ℕ, List, [], ◌∷◌, length, codes, Some}
use Rattle.json.specs.Print.{escape, quoted}
use Rattle.serde_json.specs.Data.{Data, null, boolean, number, string, array, object, Members, no_members, member}
use Rattle.serde_json.specs.Find.{get_member}
use Rattle.compact.specs.Ended.{ended_member}
use Rattle.compact.specs.declared.table.Entry.{Entry}
use Rattle.compact.specs.declared.scanner.Tables.{Tables}
use Rattle.compact.specs.declared.scanner.Level.{Level}
use Rattle.compact.specs.declared.scanner.Level.TheVariants.{Line, Object, Metadata, Other}

-- a member by its lengths
abbrev pub entry_of : List ℕ → Data → Entry
entry_of k d = record { key = length (quoted k); size = length (ended_member k d) }

abbrev pub entries_of : Members → List Entry
entries_of no_members = []
entries_of (member k d ms) = entry_of k d ∷ entries_of ms

-- no key has a byte that is escaped
abbrev pub HavePlainKeys : Members → Type 0
HavePlainKeys no_members = ⊤
HavePlainKeys (member k d ms) = (escape k ≡ k) × HavePlainKeys ms

-- the table has the members, one for one
abbrev pub AreEntries : List Entry → Members → Type 0
AreEntries table ms = (entries_of ms ≡ table) × HavePlainKeys ms

-- if the value is a map, that is said of its members
abbrev pub OfMembers : (Members → Type 0) → Data → Type 0
OfMembers P null = ⊤
OfMembers P (boolean b) = ⊤
OfMembers P (number n) = ⊤
OfMembers P (string s) = ⊤
OfMembers P (array ds) = ⊤
OfMembers P (object ms) = P ms

-- if the member of that key is a map, that is said of its members
abbrev pub AtMember : List ℕ → (Members → Type 0) → Members → Type 0
AtMember k P ms = (d : Data) → get_member k ms ≡ Some d → OfMembers P d

abbrev pub IsMetadata : Tables → Members → Type 0
IsMetadata t ms = AreEntries t.metadata ms

-- the members of an object, and those of its metadata
abbrev pub IsObject : Tables → Members → Type 0
IsObject t ms = AreEntries t.object ms × AtMember (codes "metadata") (IsMetadata t) ms

-- the members of a line, and those of its object
abbrev pub IsLine : Tables → Members → Type 0
IsLine t ms = AreEntries t.line ms × AtMember (codes "object") (IsObject t) ms

-- what is said of the members of a value of that level
abbrev pub Told : Level → Tables → Members → Type 0
Told Line t ms = IsLine t ms
Told Object t ms = IsObject t ms
Told Metadata t ms = IsMetadata t ms
Told Other t ms = ⊤

-- the same of those members alone that are maps
abbrev pub ToldBelow : Level → Tables → Members → Type 0
ToldBelow Line t ms = AtMember (codes "object") (IsObject t) ms
ToldBelow Object t ms = AtMember (codes "metadata") (IsMetadata t) ms
ToldBelow Metadata t ms = ⊤
ToldBelow Other t ms = ⊤

-- the tables with that one for a map of that level
abbrev pub with_table : Level → Tables → List Entry → Tables
with_table Line t table = record t { line = table }
with_table Object t table = record t { object = table }
with_table Metadata t table = record t { metadata = table }
with_table Other t table = t

-- The value has been noted in the tables, if they say what its level needs of its members; at the level `Other` they
-- are unchanged.
abbrev pub IsNoted : Level → Tables → Tables → Data → Type 0
IsNoted level old new d = OfMembers (Told level new) d × (level ≡ Other → new ≡ old)
