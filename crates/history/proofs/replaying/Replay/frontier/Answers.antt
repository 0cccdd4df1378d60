use Rattle.std.proofs.Common.{subst, sym}
use Rattle.history.specs.After.{IsAfter}
use Rattle.history.proofs.replaying.Replay.frontier.Goals as goal

pub returns : goal.returns
unfolding IsAfter
returns c = λ size events after. (subst (IsAfter size events) (sym c.self.view_is) after).0.shows.frontier
