-- What a line was, once it has been put into order.
use Rattle.std.specs.Prelude.{◌≡◌, ℕ, List, false, Some}
use Rattle.serde_json.specs.Data.{Data}
use Rattle.serde_json.specs.Read.{read}
use Rattle.serde_json.specs.Written.{compact_text, has_float}
use Rattle.compact.specs.Notes.{OfMembers, IsLine}
use Rattle.compact.specs.declared.scanner.Tables.{Tables}

-- A reader of JSON reads the old text as a value of whole numbers. The new one is what is printed of it, and the tables
-- have its members, if it is a map.
pub record IsSorted (old new : List ℕ) (tables : Tables) : Type 0 where
  pub found : Data
  pub reads : read old ≡ Some found
  pub integral : has_float found ≡ false
  pub now : new ≡ compact_text found
  pub noted : OfMembers (IsLine tables) found
