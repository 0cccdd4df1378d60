use Rattle.std.proofs.Common.{take}
use Rattle.set_views.specs.Set.{set_parts}
use Rattle.std.specs.List.{flat_map}
use Rattle.claims.specs.Listed.{claim_named}
use Rattle.sets.specs.Actions.{actions_of}
use Rattle.sets.specs.Truncation.{Adds}
use Rattle.sets.proofs.steps.add_steps.Given as goal

abbrev pub invariant-loop-step : goal.invariant-loop-step
invariant-loop-step l =
    Adds l.fn.actions.list.items l.actions.list.items (flat_map (actions_of (set_parts l.set) (claim_named l.claims) l.templates.current.revision.now l.templates.update.revision.now) (take l.step-index l.steps))
