use Rattle.racing.specs.Parts.{IsOperating}
use Rattle.racing.proofs.operator_turns.run_operator.Given as goal

abbrev pub invariant-loop-turn : goal.invariant-loop-turn
invariant-loop-turn g l = IsOperating g.S.SharedStore.shards g.S.SharedStore.capacity (g.S.SharedStore.known l.caller) l.fn.field.course.now.spec.replicas l.turn l.exchanges.items
