use Rattle.std.proofs.Common.{◌≡◌, rules, subst}
use Rattle.plain.specs.Streams.{PutsPart}
use Rattle.scripts.specs.RaceHistory.{history_text}
use Rattle.commands.specs.Racing.{history_shown}
use Rattle.commands.proofs.race.write_calls.Goals as goal

pub returns-clause-part : goal.returns-clause-part
returns-clause-part g c =
    let race = c.args.history.now in
    let same : history_text c.args.asked.now.spec race.trace.items.items c.as_slice-order.result.now ≡ history_shown c.args.asked.now race = search rules in
    subst (λ text. PutsPart (g.W.Sink.written c.args.writer.now) text (g.W.Sink.written c.write_history.new.writer)) same c.write_history.ensures.part
