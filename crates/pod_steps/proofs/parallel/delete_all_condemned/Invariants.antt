use Rattle.std.proofs.Common.{◌≡◌, ◌++◌, reverse}
use Rattle.set_views.specs.Set.{set_parts}
use Rattle.std.specs.List.{flat_map}
use Rattle.std.specs.Iterator.Adapters.{rev_source}
use Rattle.pod_steps.specs.Step.{truncated}
use Rattle.pod_steps.specs.FullSteps.{condemned_steps}
use Rattle.pod_steps.proofs.parallel.delete_all_condemned.Given as goal

-- what is held, and what is still to be added
abbrev pub invariant-loop-ordinal : goal.invariant-loop-ordinal
invariant-loop-ordinal l = truncated (l.steps.list.items ++ flat_map (condemned_steps (set_parts l.set)) (reverse (rev_source l.ordinal-iterator))) ≡ truncated (l.fn.steps.list.items ++ flat_map (condemned_steps (set_parts l.set)) (reverse l.pods.entries))
