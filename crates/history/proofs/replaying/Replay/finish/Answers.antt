use Rattle.std.proofs.Common.{subst, sym}
use Rattle.history.specs.After.{IsAfter}
use Rattle.history.proofs.Replays.{run_legal}
use Rattle.history.proofs.replaying.Replay.finish.Goals as goal

pub returns : goal.returns
unfolding IsAfter
returns c = λ size events after.
    let run = (subst (IsAfter size events) (sym c.self.view_is) after).0 in
    record {
      capacity = run.shows.capacity;
      trace_is = run.shows.items;
      order_is = run.shows.order;
      legal = run_legal size events _ _ run.some run.shows.items run.shows.order;
    }
