use Rattle.std.proofs.Common.{◌≡◌, rules}
use Rattle.history.specs.declared.caller_phase.FirstStep.TheVariants.{Write}
use Rattle.history.specs.declared.caller_phase.CallerPhase.TheVariants.{Called}
use Rattle.interleavings.specs.Trace.{after}
use Rattle.interleavings.specs.World.{opening}
use Rattle.traces.proofs.Runs.{held_is}
use Rattle.traces.proofs.run_state.waits_for_shard.Goals as goal

pub returns-in-Called-Write : goal.returns-in-Called-Write
returns-in-Called-Write c = λ size events is stands.
    let at : c.args.standing ≡ Called (Write c.in-Called-Write.field-0-0) = search rules in
    held_is size (after size opening events) c.args.caller c.in-Called-Write.field-0-0 c.args.standing _ at stands (c.has_to_wait.ensures size events is)
