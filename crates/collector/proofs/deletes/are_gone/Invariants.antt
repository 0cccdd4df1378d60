use Rattle.std.proofs.Common.{◌≡◌, drop}
use Rattle.std.specs.BTreeSet.{contains}
use Rattle.std.specs.Ordering.{nat_cmp}
use Rattle.objects.specs.Tree.{items_of}
use Rattle.collector.specs.Collectable.{are_gone}
use Rattle.collector.proofs.deletes.are_gone.Given as goal

abbrev pub invariant-loop-owner : goal.invariant-loop-owner
invariant-loop-owner l =
    are_gone l.listed_at (contains nat_cmp l.listed) (items_of l.owners) ≡ are_gone l.listed_at (contains nat_cmp l.listed) (items_of (drop l.owner-index l.owners))
