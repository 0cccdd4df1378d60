use Rattle.std.proofs.Common.{◌+◌, sym, ap, ◌∙◌, subst}
use Rattle.std.proofs.lemmas.Result.{IfOk-weaker}
use Rattle.racing.specs.Parts.{IsTurning, last_reply}
use Rattle.racing.proofs.Standing.{replied, turning_more}
use Rattle.racing.proofs.kubelet_turns.begin_turn.Goals as goal

-- after the list these are left
pub returns : goal.returns
returns g c =
    let shards = g.S.SharedStore.shards in
    let capacity = g.S.SharedStore.capacity in
    let l = g.S.SharedStore.known c.ask.new.caller in
    let now =
    turning_more shards capacity _ l c.args.turns _ _ _ c.in-Some.reply.now c.requires c.in_ok-list_of_pods.ensures c.in_ok-ask.ensures
    (sym (c.in-Some.ensures ∙ ap last_reply c.as_slice.ensures.value)) in
    IfOk-weaker c.requests_after.result _ _
    (λ left is. subst (λ rs. IsTurning shards capacity l (c.args.turns + 1) rs c.ask.new.exchanges.items) (sym is) now) c.requests_after.ensures

pub unreachable-requires : goal.unreachable-requires
unreachable-requires g c =
    absurd (replied _ _ _ _ _ _ _ c.in_ok-ask.ensures (sym (c.in-None.ensures ∙ ap last_reply c.as_slice.ensures.value)))
