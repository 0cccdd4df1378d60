use Rattle.std.proofs.Common.{◌-◌}
use Rattle.set_views.specs.Set.{set_parts}
use Rattle.std.specs.List.{flat_map, range_with_len}
use Rattle.pod_steps.specs.Step.{Adds}
use Rattle.pod_steps.specs.FullSteps.{target_steps}
use Rattle.pod_steps.specs.Replicas.{pod_at}
use Rattle.pod_steps.proofs.parallel.ensure_pods.Given as goal

abbrev pub invariant-loop-ordinal : goal.invariant-loop-ordinal
invariant-loop-ordinal l = Adds l.fn.steps.list.items l.steps.list.items (flat_map (λ i. target_steps (set_parts l.set) i (pod_at l.pods.entries i)) (range_with_len l.set.start (l.ordinal - l.set.start)))
