-- The members of a map, as they are written.
use Rattle.std.specs.Prelude.{⊤, ◌≡◌, ℕ, List, false}
use Rattle.serde_json.specs.Data.{Data, Members, no_members, member}
use Rattle.serde_json.specs.Written.{compact_text, members_text}
use Rattle.compact.specs.declared.table.Entry.{Entry}
use Rattle.compact.specs.Notes.{AreEntries}

-- the text of these members up to the brace of their map; if there are none, nothing is said
abbrev pub IsLeft : Members → List ℕ → Type 0
IsLeft no_members left = ⊤
IsLeft (member k d ms) left = left ≡ members_text false (member k d ms)

-- the first of the members, and what is left after it
pub record IsFirst (ms : Members) (key value left : List ℕ) (entries : List Entry) : Type 0 where
  pub d : Data
  pub others : Members
  pub is : ms ≡ member key d others
  pub value_is : value ≡ compact_text d
  pub left_is : IsLeft others left
  pub entries_are : AreEntries entries others
