use Rattle.std.proofs.Common.{sym, ap, ◌∙◌, subst}
use Rattle.requests.specs.declared.reply.Reply.{Reply}
use Rattle.plain_store.specs.Judged.{IsJudged, carried_judged}
use Rattle.plain_store.specs.Reached.{IsReached}
use Rattle.plain_store.specs.Store.{Store}
use Rattle.plain_store.proofs.Judged.{judged_reached, judged_step}
use Rattle.plain_store.proofs.store.Plain.take_under.Goals as goal

pub carry-requires : goal.carry-requires
carry-requires c =
    let s = c.args.self.now in
    let same = c.in-Ok.ensures.same ∙ c.in_ok-judged.ensures.same in
    let is : IsJudged s c.args.request c.args.key.now c.in_ok-judged.judged = record { write = c.requires.write; named = c.requires.key; judged = c.in_ok-judged.ensures.judged } in
    subst (λ (t : Store). IsReached (carried_judged t c.args.key.now c.in_ok-judged.judged).0) (sym same)
    (judged_reached s c.args.request c.args.key.now c.in_ok-judged.judged is c.in_ok-judged.ensures.reached)

pub returns-in-Ok-carry-clause-step : goal.returns-in-Ok-carry-clause-step
returns-in-Ok-carry-clause-step c =
    let s = c.args.self.now in
    let same = c.in-Ok.ensures.same ∙ c.in_ok-judged.ensures.same in
    let is : IsJudged s c.args.request c.args.key.now c.in_ok-judged.judged = record { write = c.requires.write; named = c.requires.key; judged = c.in_ok-judged.ensures.judged } in
    ap (λ (reply : Reply). (c.carry.new.self, reply)) c.with_object.ensures
    ∙ c.in-Ok-carry.ensures.step
    ∙ ap (λ (t : Store). carried_judged t c.args.key.now c.in_ok-judged.judged) same
    ∙ judged_step s c.args.request c.args.key.now c.in_ok-judged.judged is
