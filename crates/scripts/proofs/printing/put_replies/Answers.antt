use Rattle.scripts.proofs.Lines.{shown-next}
use Rattle.scripts.proofs.printing.put_replies.Goals as goal

pub loop-item-preserved : goal.loop-item-preserved
loop-item-preserved c =
    shown-next c.args.items.now c.loop-item.item-index c.item-item.result _ _ _ c.loop-item-test.true c.item-item.is c.loop-item.invariant c.in_ok-text.ensures
