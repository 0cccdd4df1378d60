use Rattle.std.proofs.Common.{ap, subst, sym}
use Rattle.history.specs.After.{IsAfter, taken}
use Rattle.history.proofs.replaying.Replay.events.Goals as goal

pub returns-clause-taken : goal.returns-clause-taken
unfolding taken
returns-clause-taken c = ap taken c.self.view_is

pub returns-clause-count : goal.returns-clause-count
unfolding IsAfter
returns-clause-count c = λ size events after. (subst (IsAfter size events) (sym c.self.view_is) after).0.count
