use Rattle.std.proofs.Common.{take}
use Rattle.std.specs.Prelude.{map}
use Rattle.revisions.specs.Plan.{objects_of}
use Rattle.sets.specs.Truncation.{Adds}
use Rattle.sets.specs.FullPlan.{deletion}
use Rattle.sets.proofs.ending.add_deletions.Given as goal

abbrev pub invariant-loop-revision : goal.invariant-loop-revision
invariant-loop-revision l = Adds l.fn.actions.list.items l.actions.list.items (map deletion (objects_of (take l.revision-index l.gone)))
