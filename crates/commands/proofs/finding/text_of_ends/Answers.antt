use Rattle.std.proofs.Common.{None, Some}
use Rattle.std.proofs.lemmas.Result.{IfErr-weaker}
use Rattle.commands.specs.Halts.{name_of}
use Rattle.commands.proofs.Found.{no_choice, no_lines}
use Rattle.commands.proofs.finding.text_of_ends.Goals as goal

pub returns-in-None-clause-refused : goal.returns-in-None-clause-refused
returns-in-None-clause-refused c =
    IfErr-weaker c.lines_of_all.result _ _ (λ halt made. no_lines (name_of halt) c.args.options.choice c.args.asked.now c.args.found.now made) c.lines_of_all.ensures.refused

pub returns-in-Some-clause-refused : goal.returns-in-Some-clause-refused
returns-in-Some-clause-refused c =
    IfErr-weaker c.script_of_number.result _ _
    (λ halt made. no_choice (name_of halt) (Some c.in-Some.number) c.args.options.choice c.args.asked.now c.args.found.now c.in-Some.is made) c.script_of_number.ensures.refused
