use Rattle.std.proofs.Common.{subst}
use Rattle.history.specs.Replayed.{IsDue}
use Rattle.history.proofs.Due.{reply_done, reply_nothing}
use Rattle.history.proofs.Pieces.{on_err, on_ok_by, stays_same}
use Rattle.history.proofs.machine.Machine.reply.Goals as goal

pub returns-in_err-reply-clause-memory : goal.returns-in_err-reply-clause-memory
returns-in_err-reply-clause-memory c = on_err _ _ (stays_same c.args.self.now)

pub returns-in-Some-clause-done : goal.returns-in-Some-clause-done
returns-in-Some-clause-done c =
    let m = c.args.self.now in
    on_ok_by _ _ c.give.result (λ tells. reply_done m c.args.caller c.give.new.self c.in-Some.reply (subst (λ d. IsDue c.args.caller d m) c.in-Some.is c.in_ok-reply.ensures) tells) c.give.ensures.delivered

pub returns-in-None-clause-done : goal.returns-in-None-clause-done
returns-in-None-clause-done c =
    let m = c.args.self.now in
    reply_nothing m c.args.caller (subst (λ d. IsDue c.args.caller d m) c.in-None.is c.in_ok-reply.ensures)
