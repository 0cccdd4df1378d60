use Rattle.std.proofs.Common.{ℕ, List, ◌-◌, arith}
use Rattle.set_views.specs.Set.{SetParts, set_parts}
use Rattle.pod_steps.specs.declared.step.Step.{Step}
use Rattle.pod_steps.specs.Replicas.{Pods, pod_at}
use Rattle.pod_steps.specs.FullSteps.{target_steps}
use Rattle.pod_steps.proofs.Walks.{walk_all, walk_more, walk_none, walk_past}
use Rattle.pod_steps.proofs.parallel.ensure_pods.Goals as goal

abbrev at : SetParts → Pods → ℕ → List Step
at set pods i = target_steps set i (pod_at pods i)

pub loop-ordinal-init : goal.loop-ordinal-init
loop-ordinal-init c = walk_none (at (set_parts c.args.set.now) c.args.pods.now.entries) c.args.set.now.start _ _ (omega arith) c.args.steps.now.within

pub returns-then-is_full : goal.returns-then-is_full
returns-then-is_full c = walk_past (at (set_parts c.args.set.now) c.args.pods.now.entries) c.args.set.now.start (c.loop-ordinal.ordinal - c.args.set.now.start) c.args.set.now.replicas _ _ (omega arith) c.loop-ordinal.invariant (c.is_full.ensures.0 c.if-is_full.true)

pub loop-ordinal-preserved : goal.loop-ordinal-preserved
loop-ordinal-preserved c = walk_more (at (set_parts c.args.set.now) c.args.pods.now.entries) c.args.set.now.start (c.loop-ordinal.ordinal - c.args.set.now.start) c.loop-ordinal.ordinal _ _ _ _ (omega arith) (omega arith) c.loop-ordinal.invariant c.in_ok-ensure_pod.ensures

pub returns : goal.returns
returns c = walk_all (at (set_parts c.args.set.now) c.args.pods.now.entries) c.args.set.now.start (c.loop-ordinal.ordinal - c.args.set.now.start) c.args.set.now.replicas _ _ (omega arith) c.loop-ordinal.invariant
