use Rattle.std.proofs.Common.{inr}
use Rattle.commands.proofs.race.run_race.Goals as goal

pub returns-in-Ok-clause-legal : goal.returns-in-Ok-clause-legal
returns-in-Ok-clause-legal g c = λ is.
    let said = c.write_report.ensures.legal is in
    (c.in-Ok.history, c.in-Ok.ensures.race, said.0, c.in-Ok.ensures.once, said.1)

pub returns-in-Ok-clause-illegal : goal.returns-in-Ok-clause-illegal
returns-in-Ok-clause-illegal g c = λ is.
    let said = c.write_report.ensures.illegal is in
    (c.in-Ok.history, c.in-Ok.ensures.race, said.0, c.in-Ok.ensures.once, said.1)

pub returns-in-Ok-clause-part : goal.returns-in-Ok-clause-part
returns-in-Ok-clause-part g c = λ is. inr (c.in-Ok.history, c.in-Ok.ensures.race, c.write_report.ensures.part)
