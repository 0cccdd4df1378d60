use Rattle.std.proofs.Common.{OnOk, Ok, Err, Result, ap, rules, sym, ◌∙◌}
use Rattle.plain_store.specs.Store.{Store, step}
use Rattle.plain_store.proofs.Routes.{reads_stay}
use Rattle.requests.specs.declared.reply.Reply.{Reply}
use Rattle.requests.specs.declared.request.Request.{Request}
use Rattle.order_check.specs.Recorded.{is_to_read}
use Rattle.order_check.proofs.Changes.{change_is_no_read}
use Rattle.order_check.proofs.recorded.take.Goals as goal

on_any : {A E : Type 0} (r : Result A E) (P : Type 0) → P → OnOk r P
on_any (Ok x) P p = p
on_any (Err e) P p = tt

pub returns-in-Some-clause-stepped : goal.returns-in-Some-clause-stepped
returns-in-Some-clause-stepped c = on_any c.is_read.result _ (sym (reads_stay c.args.store.now c.args.request.now (search rules)))

pub returns-in-None-clause-stepped : goal.returns-in-None-clause-stepped
returns-in-None-clause-stepped c = sym (reads_stay c.args.store.now c.args.request.now (search rules))

pub is_change-is_the_one-requires : goal.is_change-is_the_one-requires
is_change-is_the_one-requires c =
    let s = c.args.store.now in
    let reply = ap (λ (p : Store × Reply). p.1) c.in_ok-reply-in-Compact.ensures.step ∙ ap (λ (r : Request). (step s r).1) c.in_ok-clone-in-Compact.ensures.cases in
    ap is_to_read reply ∙ change_is_no_read s c.args.request.now (search rules)
