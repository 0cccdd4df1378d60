use Rattle.std.proofs.Common.{◌-◌, arith}
use Rattle.pod_steps.specs.FullSteps.{keep_steps}
use Rattle.pod_steps.proofs.Walks.{walk_more, walk_none}
use Rattle.pod_steps.proofs.single.keep_below.Goals as goal

pub loop-ordinal-init : goal.loop-ordinal-init
loop-ordinal-init c = walk_none keep_steps c.args.set.now.start _ _ (omega arith) c.args.steps.now.within

pub loop-ordinal-preserved : goal.loop-ordinal-preserved
loop-ordinal-preserved c = walk_more keep_steps c.args.set.now.start (c.loop-ordinal.ordinal - c.args.set.now.start) c.loop-ordinal.ordinal _ _ _ _ (omega arith) (omega arith) c.loop-ordinal.invariant c.in_ok-keep.ensures
