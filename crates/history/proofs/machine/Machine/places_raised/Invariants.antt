use Rattle.std.proofs.Common.{◌≡◌, ◌++◌, ◌∷◌, drop}
use Rattle.history.specs.Replayed.{drops, lot_at, places_in, staying}
use Rattle.history.proofs.machine.Machine.places_raised.Given as goal

abbrev pub invariant-loop-waiter : goal.invariant-loop-waiter
invariant-loop-waiter l = l.passed.items ++ places_in (staying (drops l.self.callers) (drop l.waiter-index l.waiters)) ≡ l.place ∷ places_in (staying (drops l.self.callers) (lot_at l.self.parking l.number))
