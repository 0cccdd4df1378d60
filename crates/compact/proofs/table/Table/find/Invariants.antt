use Rattle.std.proofs.Common.{◌≡◌, length}
use Rattle.serde_json.specs.Data.{Members, object}
use Rattle.serde_json.specs.Written.{compact_text}
use Rattle.compact.specs.Notes.{AreEntries}
use Rattle.compact.proofs.Split.{LookingFrom}
use Rattle.compact.proofs.table.Table.find.Given as goal

abbrev pub invariant-members : goal.invariant-members
invariant-members l = record {
  looking : (ms : Members) → l.fn.text ≡ compact_text (object ms) → AreEntries l.fn.self ms → LookingFrom l.name l.fn.text ms l.at l.entries;
}

abbrev pub decreases-members : goal.decreases-members
decreases-members l = length l.entries
