use Rattle.racing.proofs.Operating.{operated_more}
use Rattle.racing.proofs.operator_turns.run_operator.Goals as goal

pub loop-turn-preserved : goal.loop-turn-preserved
loop-turn-preserved g c =
    operated_more g.S.SharedStore.shards g.S.SharedStore.capacity _ _ c.args.field.now.course.now.spec.replicas c.loop-turn.turn c.in_ok-request.request _ _
    c.loop-turn.invariant c.in_ok-request.ensures c.in_ok-ask.ensures
