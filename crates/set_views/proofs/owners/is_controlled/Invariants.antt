use Rattle.std.proofs.Common.{◌≡◌, drop}
use Rattle.objects.specs.Tree.{items_of}
use Rattle.set_views.specs.Owners.{is_controlled}
use Rattle.set_views.proofs.owners.is_controlled.Given as goal

abbrev pub invariant-loop-owner : goal.invariant-loop-owner
invariant-loop-owner l = is_controlled l.uid (items_of l.owners) ≡ is_controlled l.uid (items_of (drop l.owner-index l.owners))
