use Rattle.std.proofs.Common.{sym, ap, ◌∙◌}
use Rattle.reasons.specs.Gone.{is_deleted_with, is_gone}
use Rattle.reasons.proofs.Losses.{after-here, after-later}
use Rattle.reasons.proofs.lost.is_deleted_after.Goals as goal

pub returns-then-updates : goal.returns-then-updates
returns-then-updates c =
    c.is_deleted_as_updated.ensures ∙ ap (is_deleted_with (is_gone c.args.gone))
    (after-here c.args.claim.now c.args.actions.now c.loop-action.action-index c.action-item.result c.loop-action-test.true c.action-item.is
    c.loop-action.invariant (sym c.if-updates.ensures))

pub loop-action-preserved : goal.loop-action-preserved
loop-action-preserved c =
    after-later c.args.claim.now c.args.actions.now c.loop-action.action-index c.action-item.result c.loop-action-test.true c.action-item.is
    c.loop-action.invariant (sym c.if-updates.ensures)
