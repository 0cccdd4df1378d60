use Rattle.history.specs.Replayed.{drops}
use Rattle.history.proofs.Waiters.{places_next}
use Rattle.history.proofs.machine.Machine.places_raised.Goals as goal

pub loop-waiter-preserved : goal.loop-waiter-preserved
loop-waiter-preserved c = places_next (drops c.args.self.now.callers) c.at-waiters.result.now c.loop-waiter.waiter-index _ _ _ _ c.loop-waiter-test.true c.in_ok-push_if_alive.ensures c.loop-waiter.invariant
