use Rattle.std.proofs.Common.{[]}
use Rattle.racing.specs.Parts.{IsTurning}
use Rattle.racing.proofs.kubelet_turns.make_turns.Given as goal

abbrev pub invariant-loop-turns : goal.invariant-loop-turns
invariant-loop-turns g l = IsTurning g.S.SharedStore.shards g.S.SharedStore.capacity (g.S.SharedStore.known l.caller) l.turns [] l.exchanges.items
