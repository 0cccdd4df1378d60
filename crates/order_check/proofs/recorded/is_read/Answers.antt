use Rattle.std.proofs.Common.{◌≡◌, ◌↔◌, IfOk, IsTrue, ap, rules, subst, sym, ◌∙◌}
use Rattle.plain_store.specs.Route.{route}
use Rattle.plain_store.specs.Store.{Store, step}
use Rattle.plain_store.proofs.Steps.{list_at_step, list_step}
use Rattle.requests.specs.declared.reply.Reply.{Reply}
use Rattle.requests.specs.declared.request.Request.{Request}
use Rattle.order_check.proofs.recorded.is_read.Goals as goal

pub returns-in-Get : goal.returns-in-Get
unfolding step route
returns-in-Get c = search rules

pub returns-then-exact-eq0 : goal.returns-then-exact-eq0
returns-then-exact-eq0 c =
    let s = c.args.store.now in
    let reply = ap (λ (p : Store × Reply). p.1) (list_step s c.in-List.kind c.in-List.namespace c.in-List.exact c.if-exact-eq0.true) ∙ ap (λ (r : Request). (step s r).1) (sym c.in-List.is) in
    subst (λ (r : Reply). IfOk c.is_listed_now.result (λ yes. IsTrue yes ↔ (c.args.recorded.now ≡ r))) reply c.is_listed_now.ensures

pub returns-else-exact-eq0 : goal.returns-else-exact-eq0
returns-else-exact-eq0 c =
    let s = c.args.store.now in
    let reply = ap (λ (p : Store × Reply). p.1) (list_at_step s c.in-List.kind c.in-List.namespace c.in-List.exact c.if-exact-eq0.false) ∙ ap (λ (r : Request). (step s r).1) (sym c.in-List.is) in
    subst (λ (r : Reply). IfOk c.is_listed_at.result (λ yes. IsTrue yes ↔ (c.args.recorded.now ≡ r))) reply c.is_listed_at.ensures
