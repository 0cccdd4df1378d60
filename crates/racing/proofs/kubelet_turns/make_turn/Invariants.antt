use Rattle.std.specs.Prelude.{◌+◌}
use Rattle.std.specs.Vec.Iter.{into_iter_items}
use Rattle.racing.specs.Parts.{IsTurning}
use Rattle.racing.proofs.kubelet_turns.make_turn.Given as goal

-- the rest of its turn
abbrev pub invariant-loop-request : goal.invariant-loop-request
invariant-loop-request g l = IsTurning g.S.SharedStore.shards g.S.SharedStore.capacity (g.S.SharedStore.known l.caller) (l.fn.turns + 1) (into_iter_items l.request-iterator) l.exchanges.items
