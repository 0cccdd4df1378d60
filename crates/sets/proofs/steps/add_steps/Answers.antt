use Rattle.std.proofs.Common.{arith}
use Rattle.set_views.specs.Set.{set_parts}
use Rattle.claims.specs.Listed.{claim_named}
use Rattle.sets.specs.Actions.{actions_of}
use Rattle.sets.proofs.Truncation.{adds_none, walk_at}
use Rattle.sets.proofs.steps.add_steps.Goals as goal

pub loop-step-init : goal.loop-step-init
loop-step-init c = adds_none c.args.actions.now.list.items c.args.actions.now.within

pub loop-step-preserved : goal.loop-step-preserved
loop-step-preserved c =
    walk_at (actions_of (set_parts c.args.set.now) (claim_named c.args.claims.now) c.args.templates.now.current.revision.now c.args.templates.now.update.revision.now) c.args.steps.now c.loop-step.step-index _ _ _ _ (omega arith) c.loop-step.invariant c.in_ok-add_step.ensures
