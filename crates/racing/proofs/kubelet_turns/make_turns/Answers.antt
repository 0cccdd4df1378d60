use Rattle.std.proofs.Common.{◌+◌, [], sym, subst}
use Rattle.racing.specs.Parts.{IsTurning}
use Rattle.racing.proofs.Standing.{turning_later}
use Rattle.racing.proofs.kubelet_turns.make_turns.Goals as goal
use Rattle.racing.proofs.kubelet_turns.make_turns.Goals.{then-not-branch+in_ok-wait_for_news, else-not-branch}

-- a turn more, and the looks after it
pub loop-turns-preserved : goal.loop-turns-preserved
loop-turns-preserved g c =
    let shards = g.S.SharedStore.shards in
    let capacity = g.S.SharedStore.capacity in
    let known = g.S.SharedStore.known in
    let turns = c.loop-turns.turns + 1 in
    let exchanges = c.make_turn-in-loop-turns.new.exchanges.items in
    let turned = c.in_ok-make_turn-2.ensures in
    elim c.if-not-branch.branch [
      | then-not-branch+in_ok-wait_for_news w ↦
          subst (λ k. IsTurning shards capacity (known k) turns [] exchanges) (sym w.caller-is)
          (turning_later shards capacity _ _ turns [] exchanges turned w.in_ok-wait_for_news.ensures)
      | else-not-branch w ↦ subst (λ k. IsTurning shards capacity (known k) turns [] exchanges) (sym w.caller-is) turned
    ]
