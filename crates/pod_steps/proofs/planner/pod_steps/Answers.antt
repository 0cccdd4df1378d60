use Rattle.std.proofs.Common.{sym, subst}
use Rattle.set_views.specs.declared.policies.Policy.{Policy}
use Rattle.set_views.specs.Set.{set_parts}
use Rattle.pod_steps.specs.Scaling.{ScalesParallel, ScalesOrderedReady}
use Rattle.pod_steps.specs.Step.{pod_steps}
use Rattle.pod_steps.specs.FullSteps.{full_steps_by}
use Rattle.pod_steps.proofs.ParallelPlans.{scales_parallel}
use Rattle.pod_steps.proofs.OrderedReadyPlans.{scales_ordered_ready}
use Rattle.pod_steps.proofs.planner.pod_steps.Goals as goal

pub returns-clause-ordered_ready : goal.returns-clause-ordered_ready
returns-clause-ordered_ready c policy =
    let S : Policy → Type 0 = λ p. ScalesOrderedReady (set_parts c.args.set.now) c.args.pods.now.entries (pod_steps (full_steps_by p (set_parts c.args.set.now) c.args.pods.now.entries)) in
    subst S (sym policy) (scales_ordered_ready (set_parts c.args.set.now) c.args.pods.now.entries c.len-len.ensures.ordered)

pub returns-clause-parallel : goal.returns-clause-parallel
returns-clause-parallel c policy =
    let S : Policy → Type 0 = λ p. ScalesParallel (set_parts c.args.set.now) c.args.pods.now.entries (pod_steps (full_steps_by p (set_parts c.args.set.now) c.args.pods.now.entries)) in
    subst S (sym policy) (scales_parallel (set_parts c.args.set.now) c.args.pods.now.entries c.len-len.ensures.ordered)
