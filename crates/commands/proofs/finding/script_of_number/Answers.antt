use Rattle.std.proofs.Common.{sym}
use Rattle.commands.specs.Halts.{name_of}
use Rattle.commands.proofs.Found.{no_script, shows_same}
use Rattle.commands.proofs.Replayed.{error_has}
use Rattle.commands.proofs.finding.script_of_number.Goals as goal

pub returns-in_ok-script_text-in-Some-clause-chosen : goal.returns-in_ok-script_text-in-Some-clause-chosen
returns-in_ok-script_text-in-Some-clause-chosen c =
    (c.in-Some.end.now, sym c.in-Some.ensures, shows_same _ _ _ _ _ c.question_of-question.ensures c.in_ok-script_text-in-Some.ensures)

pub returns-in_err-script_text-in-Some-clause-refused : goal.returns-in_err-script_text-in-Some-clause-refused
returns-in_err-script_text-in-Some-clause-refused c =
    error_has c.from_residual.result _ _ c.from_residual.ensures.1
    (λ halt is. no_script c.in_err-script_text-in-Some.field-0.0 (name_of halt) c.args.number c.args.asked.now c.args.found.now c.in-Some.end.now (sym c.in-Some.ensures) is.1)
