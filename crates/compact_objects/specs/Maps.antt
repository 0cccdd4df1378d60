-- A map as it is written.
use Rattle.std.specs.Prelude.{◌≡◌, ℕ, List}
use Rattle.serde_json.specs.Data.{Members, object}
use Rattle.serde_json.specs.Written.{compact_text}
use Rattle.compact.specs.Notes.{AreEntries}
use Rattle.compact.specs.declared.table.Entry.{Entry}

-- the text is that of a map of these members, and the table has them
abbrev pub IsMap : List ℕ → List Entry → Members → Type 0
IsMap text table ms = (text ≡ compact_text (object ms)) × AreEntries table ms
