use Rattle.std.proofs.Common.{◌-◌}
use Rattle.std.specs.List.{flat_map, range_with_len}
use Rattle.pod_steps.specs.Step.{Adds}
use Rattle.pod_steps.specs.FullSteps.{keep_steps}
use Rattle.pod_steps.proofs.single.keep_below.Given as goal

abbrev pub invariant-loop-ordinal : goal.invariant-loop-ordinal
invariant-loop-ordinal l = Adds l.fn.steps.list.items l.steps.list.items (flat_map keep_steps (range_with_len l.set.start (l.ordinal - l.set.start)))
