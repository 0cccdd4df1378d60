use Rattle.std.proofs.Common.{subst}
use Rattle.std.specs.Option.{IfSome}
use Rattle.std.specs.Result.{OnOk, OnErr}
use Rattle.plain.specs.Lines.{ended_lines, lines}
use Rattle.plain.specs.Served.{answers, served, served_so_far}
use Rattle.plain.specs.Streams.{Puts, ServesEnded, ServesPart}
use Rattle.plain.proofs.Servings.{in_range, none_served}
use Rattle.plain.proofs.server.serve.Goals as goal

pub returns-in_err-plain-clause-fault : goal.returns-in_err-plain-clause-fault
returns-in_err-plain-clause-fault g c =
    none_served c.from_residual.result (served_so_far c.args.capacity) (served c.args.capacity) (g.R.Source.remaining c.args.reader.now) (g.W.Sink.written c.args.writer.now)

pub returns-clause-text : goal.returns-clause-text
returns-clause-text g c =
    subst
    (λ s. OnOk c.serve_store.result
    (IfSome (g.R.Source.remaining c.args.reader.now) (λ input. Puts (g.W.Sink.written c.args.writer.now) (answers s (lines input)) (g.W.Sink.written c.serve_store.new.writer))))
    c.in_ok-plain.ensures.opened c.serve_store.ensures.text

pub returns-clause-fault : goal.returns-clause-fault
returns-clause-fault g c =
    subst
    (λ s. OnErr c.serve_store.result
    (ServesPart (λ input. answers s (ended_lines input)) (λ input. answers s (lines input)) (g.R.Source.remaining c.args.reader.now) (g.R.Source.remaining c.serve_store.new.reader) (g.W.Sink.written c.args.writer.now)
    (g.W.Sink.written c.serve_store.new.writer)))
    c.in_ok-plain.ensures.opened c.serve_store.ensures.fault

pub returns-clause-unread : goal.returns-clause-unread
returns-clause-unread g c = λ is.
    subst
    (λ s. ServesEnded (λ input. answers s (ended_lines input)) (g.R.Source.remaining c.args.reader.now) (g.R.Source.remaining c.serve_store.new.reader) (g.W.Sink.written c.args.writer.now)
    (g.W.Sink.written c.serve_store.new.writer))
    c.in_ok-plain.ensures.opened (c.serve_store.ensures.unread is)

pub returns-clause-capacity : goal.returns-clause-capacity
returns-clause-capacity g c = (
  λ e. absurd (in_range c.serve_store.result c.serve_store.ensures.cause e),
  λ out. let no = c.in_ok-plain.ensures.refused.1 out in cc,
)
