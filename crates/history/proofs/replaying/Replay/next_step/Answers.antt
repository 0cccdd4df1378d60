use Rattle.std.proofs.Common.{subst, sym, ap, ◌∙◌, is_some, get_or, None}
use Rattle.history.specs.After.{IsAfter}
use Rattle.history.specs.NextStep.{goes_on}
use Rattle.interleavings.specs.Order.{arrangement, beginning}
use Rattle.interleavings.specs.Trace.{after as world_after}
use Rattle.interleavings.specs.World.{opening}
use Rattle.history.proofs.Reached.{run_stands}
use Rattle.history.proofs.Standings.{next_is}
use Rattle.history.proofs.replaying.Replay.next_step.Goals as goal

pub caller_phase-requires : goal.caller_phase-requires
unfolding IsAfter
caller_phase-requires c = let r = c.self.invariant in run_stands r.size r.events c.self.inside.machine r.after.0

pub returns : goal.returns
unfolding IsAfter
returns c = λ size events after.
    let m = c.self.inside.machine in
    let run = (subst (IsAfter size events) (sym c.self.view_is) after).0 in
    c.goes_on.ensures
    ∙ ap (goes_on (λ s. is_some (get_or m.holders.items s None)) m.frontier (is_some (get_or m.places.items m.frontier None)) c.args.caller) c.caller_phase.ensures
    ∙ next_is size (world_after size opening events) (arrangement size opening beginning events) m c.args.caller run.some run.shows
