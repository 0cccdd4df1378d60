use Rattle.std.proofs.Common.{◌≡◌, drop}
use Rattle.objects.specs.Tree.{items_of}
use Rattle.set_views.specs.Readiness.{are_ready}
use Rattle.set_views.proofs.readiness.are_ready.Given as goal

abbrev pub invariant-loop-condition : goal.invariant-loop-condition
invariant-loop-condition l = are_ready (items_of l.conditions) ≡ are_ready (items_of (drop l.condition-index l.conditions))
