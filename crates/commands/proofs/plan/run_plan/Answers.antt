use Rattle.std.proofs.Common.{inl, inr}
use Rattle.commands.proofs.Halted.{read-fails, spared-read, spared-unwritten}
use Rattle.plain.specs.Streams.{Puts, PutsPart}
use Rattle.commands.proofs.Planned.{plans}
use Rattle.commands.proofs.Replayed.{named_and}
use Rattle.commands.specs.Halts.{Tells, name_of}
use Rattle.commands.specs.Planning.{IsPlanRefusedBy, planned_text}
use Rattle.commands.proofs.plan.run_plan.Goals as goal

pub returns-in-Ok-clause-planned : goal.returns-in-Ok-clause-planned
returns-in-Ok-clause-planned g c = λ is.
    plans Puts c.args.asked.now (g.R.Source.remaining c.args.reader.now) (g.R.Source.remaining c.plan_of_input.new.reader) (g.W.Sink.written c.args.writer.now)
    (g.W.Sink.written c.write_plan.new.writer) (planned_text c.in-Ok.planned) c.in-Ok.ensures.planned (c.write_plan.ensures.all is)

pub returns-in-Ok-clause-part : goal.returns-in-Ok-clause-part
returns-in-Ok-clause-part g c = λ is.
    inr (plans PutsPart c.args.asked.now (g.R.Source.remaining c.args.reader.now) (g.R.Source.remaining c.plan_of_input.new.reader)
    (g.W.Sink.written c.args.writer.now) (g.W.Sink.written c.write_plan.new.writer) (planned_text c.in-Ok.planned) c.in-Ok.ensures.planned c.write_plan.ensures.part)

pub returns-in-Ok-clause-spared : goal.returns-in-Ok-clause-spared
returns-in-Ok-clause-spared g c = spared-read _ _ _ _ c.in-Ok.ensures.reads c.write_plan.ensures.spared

pub returns-in-Ok-clause-cause : goal.returns-in-Ok-clause-cause
returns-in-Ok-clause-cause g c = λ is. inr (c.write_plan.ensures.cause is)

pub returns-in-Err-clause-spared : goal.returns-in-Err-clause-spared
returns-in-Err-clause-spared g c = spared-unwritten _ c.in-Err.halt _ _ _ c.in-Err.ensures.reads c.report_halt.ensures.spared

pub returns-in-Err-clause-named : goal.returns-in-Err-clause-named
returns-in-Err-clause-named g c = λ is.
    named_and (name_of c.in-Err.halt)
    (λ name. Tells name (g.F.Sink.written c.args.faults.now) (g.F.Sink.written c.report_halt.new.faults) (g.F.Sink.failures c.args.faults.now) (g.F.Sink.failures c.report_halt.new.faults))
    (IsPlanRefusedBy c.args.asked.now (g.R.Source.remaining c.args.reader.now) (g.R.Source.remaining c.plan_of_input.new.reader))
    (c.report_halt.ensures.named is) c.in-Err.ensures.refused

pub returns-in-Err-clause-cause : goal.returns-in-Err-clause-cause
returns-in-Err-clause-cause g c = λ is.
    elim (c.report_halt.ensures.cause is) [
      | inl read ↦ inl (read-fails c.in-Err.halt _ _ c.in-Err.ensures.reads read)
      | inr memory ↦ inr (inr memory)
    ]
