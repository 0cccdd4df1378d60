use Rattle.std.proofs.lemmas.Result.{IfOk-weaker}
use Rattle.plain_store.specs.Store.{step}
use Rattle.order_check.proofs.ReplyMarks.{answered_by, none_answered, unasked}
use Rattle.order_check.proofs.walk.Walk.check_reply.Goals as goal

pub returns-in_default-clause-answer_fits : goal.returns-in_default-clause-answer_fits
returns-in_default-clause-answer_fits c =
    let w = c.args.self.now in
    IfOk-weaker c.take.result _ _ (unasked c.args.items.now c.args.answer w.latest (step w.store c.args.request.now).1 c.in_default.is) c.take.ensures.fits

pub returns-in_default-clause-stepped : goal.returns-in_default-clause-stepped
returns-in_default-clause-stepped c = IfOk-weaker c.take.result _ _ (λ yes is fits. is) c.take.ensures.stepped

pub returns-in-Some-reply_at-clause-stepped : goal.returns-in-Some-reply_at-clause-stepped
returns-in-Some-reply_at-clause-stepped c = IfOk-weaker c.take-in-Some-reply_at.result _ _ (λ yes is fits. is) c.take-in-Some-reply_at.ensures.stepped

pub returns-in-Some-reply_at-clause-answer_fits : goal.returns-in-Some-reply_at-clause-answer_fits
returns-in-Some-reply_at-clause-answer_fits c =
    let found = c.in-Some-reply_at in
    let w = c.args.self.now in
    IfOk-weaker _ _ _ (answered_by c.args.items.now c.args.answer c.in-Some.index w.latest found.recorded.now (step w.store c.args.request.now).1 c.in-Some.is found.ensures.answer_fits found.ensures.complete) c.take-in-Some-reply_at.ensures.fits

pub returns-in-None-clause-answer_fits : goal.returns-in-None-clause-answer_fits
returns-in-None-clause-answer_fits c =
    let w = c.args.self.now in
    none_answered c.args.items.now c.args.answer c.in-Some.index w.latest (step w.store c.args.request.now).1 c.in-Some.is c.in-None.ensures.complete
