use Rattle.std.proofs.Common.{subst, sym, ◌∙◌}
use Rattle.history.specs.After.{IsAfter}
use Rattle.interleavings.specs.Order.{arrangement, beginning}
use Rattle.interleavings.specs.Trace.{after as world_after}
use Rattle.interleavings.specs.World.{opening}
use Rattle.history.proofs.Reached.{run_stands}
use Rattle.history.proofs.Standings.{standing_is}
use Rattle.history.proofs.replaying.Replay.caller_phase.Goals as goal

pub caller_phase-requires : goal.caller_phase-requires
unfolding IsAfter
caller_phase-requires c = let r = c.self.invariant in run_stands r.size r.events c.self.inside.machine r.after.0

pub returns : goal.returns
unfolding IsAfter
returns c = λ size events after.
    let run = (subst (IsAfter size events) (sym c.self.view_is) after).0 in
    c.caller_phase.ensures ∙ standing_is size (world_after size opening events) (arrangement size opening beginning events) c.self.inside.machine c.args.caller run.shows
