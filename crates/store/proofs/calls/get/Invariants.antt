use Rattle.store.specs.Callers.{GoesOn}
use Rattle.store.proofs.calls.get.Given as goal

-- the caller's next state
abbrev pub invariant-loop : goal.invariant-loop
invariant-loop g l =
    (goal.iterator-loop g).can_next l.iterator' × (goal.iterator-loop g).is_finite l.iterator' × GoesOn l.fn.caller l.caller
