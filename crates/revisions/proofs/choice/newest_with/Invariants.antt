use Rattle.std.proofs.Common.{◌≡◌, reverse}
use Rattle.std.specs.Iterator.Adapters.{rev_source}
use Rattle.std.specs.List.{find}
use Rattle.std.specs.Slice.Iter.{iter_rest}
use Rattle.objects.specs.Tree.{data_of}
use Rattle.revisions.specs.Choice.{has_data}
use Rattle.revisions.specs.Plan.{objects_of}
use Rattle.revisions.proofs.choice.newest_with.Given as goal

abbrev pub invariant-loop-revision : goal.invariant-loop-revision
invariant-loop-revision l = find (has_data (data_of l.template)) (reverse (objects_of l.owned)) ≡ find (has_data (data_of l.template)) (reverse (objects_of (iter_rest (rev_source l.revision-iterator))))
