use Rattle.scripts.specs.ClusterPrinting.{owner_in}
use Rattle.scripts.proofs.ClusterLines.{shown_next}
use Rattle.scripts.proofs.cluster_printing.put_items.Goals as goal

pub loop-item-preserved : goal.loop-item-preserved
loop-item-preserved c =
    shown_next (owner_in c.args.owners.now) c.args.items.now c.loop-item.item-index c.item-item.result _ _ _ c.loop-item-test.true c.item-item.is
    c.loop-item.invariant c.in_ok-text.ensures
