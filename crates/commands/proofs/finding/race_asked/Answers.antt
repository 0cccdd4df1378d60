use Rattle.commands.specs.Halts.{name_of}
use Rattle.commands.proofs.Found.{asks_same, refused_untold}
use Rattle.commands.proofs.finding.race_asked.Goals as goal

pub returns-in-Some-clause-refused : goal.returns-in-Some-clause-refused
returns-in-Some-clause-refused c =
    refused_untold (name_of c.untold.result) c.args.options c.args.input.now c.args.written c.in-Some.line c.question_of-question.result c.untold_line.result
    c.requires c.question_of-question.ensures c.untold_line.ensures c.in-Some.is c.untold.ensures.named

pub returns-in_ok-asked-in-None-clause-asked : goal.returns-in_ok-asked-in-None-clause-asked
returns-in_ok-asked-in-None-clause-asked c = (c.args.written, c.requires, asks_same _ _ _ _ c.question_of-question.ensures c.in_ok-asked-in-None.ensures)
