use Rattle.std.proofs.Common.{subst, sym}
use Rattle.history.specs.After.{IsAfter}
use Rattle.history.specs.Replayed.{phase_at}
use Rattle.interleavings.specs.Trace.{after as world_after}
use Rattle.interleavings.specs.World.{opening}
use Rattle.history.proofs.Replays.{idle_tells}
use Rattle.history.proofs.replaying.Replay.idle.Goals as goal

pub returns : goal.returns
unfolding IsAfter
returns c = λ size events after.
    let run = (subst (IsAfter size events) (sym c.self.view_is) after).0 in
    idle_tells c.is_idle.result (phase_at c.self.inside.machine.callers c.args.caller) ((world_after size opening events).phase c.args.caller) c.is_idle.ensures (run.shows.phases c.args.caller)
