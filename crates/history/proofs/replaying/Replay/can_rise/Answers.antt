use Rattle.std.proofs.Common.{subst, sym, ◌∙◌}
use Rattle.history.specs.After.{IsAfter}
use Rattle.interleavings.specs.Order.{arrangement, beginning}
use Rattle.interleavings.specs.Trace.{after as world_after}
use Rattle.interleavings.specs.World.{opening}
use Rattle.history.proofs.Standings.{rises}
use Rattle.history.proofs.replaying.Replay.can_rise.Goals as goal

pub returns : goal.returns
unfolding IsAfter
returns c = λ size events after.
    let run = (subst (IsAfter size events) (sym c.self.view_is) after).0 in
    c.can_rise.ensures ∙ rises size (world_after size opening events) (arrangement size opening beginning events) c.self.inside.machine run.shows
