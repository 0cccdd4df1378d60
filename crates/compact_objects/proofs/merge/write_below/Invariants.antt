use Rattle.std.proofs.Common.{length}
use Rattle.serde_json.specs.Data.{Members}
use Rattle.trees.specs.Tree.{AreAscending}
use Rattle.compact.specs.Fields.{IsLeft}
use Rattle.compact.specs.Notes.{AreEntries}
use Rattle.compact_objects.proofs.Merging.{Going, StartAt}
use Rattle.compact_objects.proofs.merge.write_below.Given as goal

abbrev pub invariant-members : goal.invariant-members
invariant-members l = record {
  going : (ms : Members) → AreAscending ms → IsLeft ms l.fields.left.now → AreEntries l.fields.entries.now ms → Going l.part (StartAt l.key) ms l.left.left.now l.left.entries.now l.fn.out.items l.out.items;
}

abbrev pub decreases-members : goal.decreases-members
decreases-members l = length l.left.entries.now
