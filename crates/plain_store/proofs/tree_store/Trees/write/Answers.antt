use Rattle.std.proofs.Common.{option_map, sym, ap, ◌∙◌}
use Rattle.std.proofs.lemmas.Result.{IfOk-weaker}
use Rattle.requests.specs.declared.verdict.Verdict.TheVariants.{Refuse, Same}
use Rattle.requests.specs.declared.reply.Reply.{Reply}
use Rattle.requests.specs.Judgments.{verdict_of}
use Rattle.plain_store.specs.Store.{Store, step}
use Rattle.plain_store.proofs.Steps.{by_kind, by_verdict}
use Rattle.plain_store.proofs.KeptUids.{filed_when_reached}
use Rattle.plain_store.proofs.Runs.{reached_by_a_step, still_reached}
use Rattle.plain_store.proofs.tree_store.Trees.write.Goals as goal

pub returns-in-Refuse-clause-step : goal.returns-in-Refuse-clause-step
returns-in-Refuse-clause-step c =
    by_verdict c.args.self.now c.args.request _ _ (Refuse c.in-Refuse.reason) c.requires (sym c.key.ensures ∙ ap (option_map (λ k. k.now)) c.in-Some.is) c.find.ensures (ap verdict_of (sym c.in-Refuse.is) ∙ c.in_ok-reason.ensures)

pub returns-in-Same-clause-step : goal.returns-in-Same-clause-step
returns-in-Same-clause-step c =
    by_verdict c.args.self.now c.args.request _ _ (Same c.in-Same.object) c.requires (sym c.key.ensures ∙ ap (option_map (λ k. k.now)) c.in-Some.is) c.find.ensures (ap verdict_of (sym c.in-Same.is) ∙ c.in_ok-reason.ensures)

pub carry_out-requires : goal.carry_out-requires
carry_out-requires c =
    let s = c.args.self.now in
    let r = c.args.request in
    let filed = filed_when_reached s (still_reached _ s (sym c.self.view_is) c.self.invariant.3) in
    let end = by_kind s r _ _ c.in-Write.kind c.in-Write.object c.requires (sym c.key.ensures ∙ ap (option_map (λ k. k.now)) c.in-Some.is) c.find.ensures filed (ap verdict_of (sym c.in-Write.is) ∙ c.in_ok-reason.ensures) in
    still_reached (step s r).0 _ (ap (λ (e : Store × Reply). e.0) end) (reached_by_a_step s r (still_reached _ s (sym c.self.view_is) c.self.invariant.3))

pub returns-in-Write-clause-step : goal.returns-in-Write-clause-step
returns-in-Write-clause-step c =
    let s = c.args.self.now in
    let filed = filed_when_reached s (still_reached _ s (sym c.self.view_is) c.self.invariant.3) in
    let end = by_kind s c.args.request _ _ c.in-Write.kind c.in-Write.object c.requires (sym c.key.ensures ∙ ap (option_map (λ k. k.now)) c.in-Some.is) c.find.ensures filed (ap verdict_of (sym c.in-Write.is) ∙ c.in_ok-reason.ensures) in
    IfOk-weaker c.carry_out.result _ _ (λ whole carried. carried ∙ end) c.carry_out.ensures.step
