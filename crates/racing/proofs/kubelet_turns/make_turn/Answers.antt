use Rattle.std.proofs.Common.{◌≡◌, ◌+◌, ◌∷◌, subst, rules}
use Rattle.std.specs.Vec.Iter.{into_iter_items}
use Rattle.racing.specs.Parts.{IsTurning}
use Rattle.racing.proofs.Standing.{turning_next}
use Rattle.racing.proofs.kubelet_turns.make_turn.Goals as goal

pub loop-request-preserved : goal.loop-request-preserved
loop-request-preserved g c =
    let shards = g.S.SharedStore.shards in
    let capacity = g.S.SharedStore.capacity in
    let k = g.S.SharedStore.known c.loop-request.caller in
    let turns = c.args.turns + 1 in
    let steps : into_iter_items c.loop-request.request-iterator ≡ c.in-Some.request ∷ into_iter_items c.next.new.self = search rules in
    turning_next shards capacity k _ turns (into_iter_items c.next.new.self) c.in-Some.request _ _
    (subst (λ l. IsTurning shards capacity k turns l c.loop-request.exchanges.items) steps c.loop-request.invariant) c.in_ok-ask.ensures
