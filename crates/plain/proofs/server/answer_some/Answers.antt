use Rattle.plain.proofs.Flows.{PutsPart-none}
use Rattle.plain.proofs.Servings.{on_err, PutsPart-replies}
use Rattle.plain.proofs.server.answer_some.Goals as goal

pub returns-in_err-paused-clause-fault : goal.returns-in_err-paused-clause-fault
returns-in_err-paused-clause-fault g c = on_err _ c.from_residual.result (PutsPart-none _ _)

pub returns-in_err-ok_or-clause-fault : goal.returns-in_err-ok_or-clause-fault
returns-in_err-ok_or-clause-fault g c =
    on_err _ c.from_residual-in_err-ok_or.result
    (PutsPart-replies _ _ _ c.args.splitter.replies.items _ c.in_ok-paused.paused.splitter.replies.items c.as_slice.result.now _ _ (g.W.Sink.written c.args.writer.now) _
    c.requires.written c.in_ok-paused.ensures.reaches c.as_slice.ensures.value c.write_all.ensures.part)
