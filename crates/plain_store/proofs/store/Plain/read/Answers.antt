use Rattle.std.proofs.Common.{ap, sym, ◌∙◌, rules}
use Rattle.std.proofs.lemmas.Result.{IfOk-weaker}
use Rattle.requests.specs.declared.reply.Reply.{Reply}
use Rattle.plain_store.specs.Route.{route}
use Rattle.plain_store.specs.Store.{step}
use Rattle.plain_store.proofs.Steps.{list_at_step, list_step}
use Rattle.plain_store.proofs.store.Plain.read.Goals as goal

pub returns-in-Get : goal.returns-in-Get
unfolding step route
returns-in-Get c = search rules

pub returns-then-exact-eq0 : goal.returns-then-exact-eq0
returns-then-exact-eq0 c =
    let s = c.args.self.now in
    IfOk-weaker c.list_now.result _ _ (λ stored is.
    ap (λ (r : Reply). (s, r)) is ∙ list_step s c.in-List.kind c.in-List.namespace c.in-List.exact c.if-exact-eq0.true ∙ ap (step s) (sym c.in-List.is)) c.list_now.ensures

pub returns-else-exact-eq0 : goal.returns-else-exact-eq0
returns-else-exact-eq0 c =
    let s = c.args.self.now in
    IfOk-weaker c.list_exactly.result _ _ (λ stored is.
    ap (λ (r : Reply). (s, r)) is ∙ list_at_step s c.in-List.kind c.in-List.namespace c.in-List.exact c.if-exact-eq0.false ∙ ap (step s) (sym c.in-List.is)) c.list_exactly.ensures
