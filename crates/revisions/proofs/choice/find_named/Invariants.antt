use Rattle.std.proofs.Common.{◌≡◌, drop}
use Rattle.revisions.specs.Choice.{named_among}
use Rattle.revisions.specs.Plan.{objects_of}
use Rattle.revisions.proofs.choice.find_named.Given as goal

abbrev pub invariant-loop-revision : goal.invariant-loop-revision
invariant-loop-revision l = named_among (objects_of l.owned) l.name ≡ named_among (objects_of (drop l.revision-index l.owned)) l.name
