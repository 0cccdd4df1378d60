use Rattle.std.proofs.Common.{inl, inr, refl}
use Rattle.commands.proofs.Found.{notes_written}
use Rattle.commands.proofs.Halted.{read-fails, spared-unwritten}
use Rattle.commands.proofs.Replayed.{named_and, writes_by}
use Rattle.commands.specs.Finding.{IsOutcomesRefusal, IsOutcomesText}
use Rattle.commands.specs.Halts.{IsRefusedIn, Tells, name_of}
use Rattle.plain.specs.Streams.{Puts, PutsPart}
use Rattle.commands.proofs.ending.run_outcomes.Goals as goal

pub returns-in-Ok-clause-answered : goal.returns-in-Ok-clause-answered
returns-in-Ok-clause-answered g c = λ is.
    writes_by Puts (IsOutcomesText c.args.options) (g.R.Source.remaining c.args.reader.now) (g.R.Source.remaining c.found_in_all.new.reader) (g.W.Sink.written c.args.writer.now)
    (g.W.Sink.written c.write_found.new.writer) c.in-Ok.found.text.items c.as_slice.result.now c.in-Ok.ensures.answered (c.write_found.ensures.all is) c.as_slice.ensures.value

pub returns-in-Ok-clause-part : goal.returns-in-Ok-clause-part
returns-in-Ok-clause-part g c = λ is.
    inr (writes_by PutsPart (IsOutcomesText c.args.options) (g.R.Source.remaining c.args.reader.now) (g.R.Source.remaining c.found_in_all.new.reader)
    (g.W.Sink.written c.args.writer.now) (g.W.Sink.written c.write_found.new.writer) c.in-Ok.found.text.items c.as_slice.result.now c.in-Ok.ensures.answered c.write_found.ensures.part
    c.as_slice.ensures.value)

pub returns-in-Err-clause-part : goal.returns-in-Err-clause-part
returns-in-Err-clause-part g c = λ is. inl refl

pub returns-in-Err-clause-named : goal.returns-in-Err-clause-named
returns-in-Err-clause-named g c = λ is.
    named_and (name_of c.in-Err.halt)
    (λ name. Tells name (g.F.Sink.written c.args.faults.now) (g.F.Sink.written c.report_halt.new.faults) (g.F.Sink.failures c.args.faults.now) (g.F.Sink.failures c.report_halt.new.faults))
    (IsRefusedIn (IsOutcomesRefusal c.args.options) (g.R.Source.remaining c.args.reader.now) (g.R.Source.remaining c.found_in_all.new.reader)) (c.report_halt.ensures.named is) c.in-Err.ensures.refused

pub returns-in-Ok-clause-spared : goal.returns-in-Ok-clause-spared
returns-in-Ok-clause-spared g c = λ failed. refl

pub returns-in-Err-clause-spared : goal.returns-in-Err-clause-spared
returns-in-Err-clause-spared g c = spared-unwritten _ c.in-Err.halt _ _ _ c.in-Err.ensures.reads c.report_halt.ensures.spared

pub returns-in-Err-clause-cause : goal.returns-in-Err-clause-cause
returns-in-Err-clause-cause g c = λ is.
    elim (c.report_halt.ensures.cause is) [
      | inl read ↦ inl (read-fails c.in-Err.halt _ _ c.in-Err.ensures.reads read)
      | inr memory ↦ inr (inr memory)
    ]

pub returns-in-Ok-clause-noted : goal.returns-in-Ok-clause-noted
returns-in-Ok-clause-noted g c = λ is.
    notes_written c.args.options (g.R.Source.remaining c.args.reader.now) (g.F.Sink.written c.args.faults.now) (g.F.Sink.written c.write_found.new.faults)
    (g.F.Sink.failures c.args.faults.now) (g.F.Sink.failures c.write_found.new.faults) c.in-Ok.found.notes.items c.as_slice-in-Ok.result.now
    c.in-Ok.ensures.noted c.as_slice-in-Ok.ensures.value (c.write_found.ensures.noted is)
