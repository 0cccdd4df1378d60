use Rattle.std.proofs.Common.{◌≡◌, Some, sym, ap, ◌∙◌, subst, arith}
use Rattle.requests.specs.declared.reply.Reply.{Reply}
use Rattle.history.specs.Replayed.{IsDue}
use Rattle.history.proofs.Due.{due_now, due_read}
use Rattle.history.proofs.machine.Machine.deliverable_reply.Goals as goal

pub returns-in-Some : goal.returns-in-Some
returns-in-Some c =
    let m = c.args.self.now in
    subst (λ (r : Reply). IsDue c.args.caller (Some r) m) (sym c.in_ok-clone.ensures.cases) (due_now m c.args.caller c.in-Some.saw c.in-Some.reply.now (sym c.in-Some.ensures) c.if-self-saw.false)

pub returns : goal.returns
returns c =
    let m = c.args.self.now in
    let zero_left : c.in-Some-reading.left ≡ 0 = (let none = c.if-left-gt0.false in omega arith) in
    let at = sym c.in-Some-reading.ensures ∙ ap (λ l. Some (c.in-Some-reading.number, c.in-Some-reading.request.now, l)) zero_left in
    due_read m c.args.caller c.in-Some-reading.number c.in-Some-reading.request.now c.in_ok-answer.field-0 at c.in_ok-answer.ensures
