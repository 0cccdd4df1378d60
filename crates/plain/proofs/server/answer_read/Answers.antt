use Rattle.std.proofs.Common.{◌∙◌, arith}
use Rattle.plain.proofs.Servings.{on_err, Answered-then, Answered-fault}
use Rattle.plain.proofs.server.answer_read.Goals as goal

pub returns-in_err-paused-clause-fault : goal.returns-in_err-paused-clause-fault
returns-in_err-paused-clause-fault g c =
    on_err _ c.from_residual.result (Answered-fault _ _ _ _ _ _ _ _ _ c.loop-rest.invariant.answered c.in_err-paused.ensures.fault)

pub loop-rest-preserved : goal.loop-rest-preserved
loop-rest-preserved g c = record {
  answered = Answered-then _ _ _ _ _ _ _ _ _ _ _ _ c.loop-rest.invariant.answered c.in_ok-paused.ensures.reaches;
  begun = c.in_ok-paused.ensures.begun;
  written = c.in_ok-paused.ensures.written;
  count = omega (arith, c.loop-rest.invariant.count, c.in_ok-paused.ensures.count);
  writes = c.in_ok-paused.ensures.writes ∙ c.loop-rest.invariant.writes;
}
