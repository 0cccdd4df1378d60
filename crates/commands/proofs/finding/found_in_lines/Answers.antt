use Rattle.std.proofs.lemmas.Result.{IfErr-weaker, IfOk-weaker}
use Rattle.commands.specs.Halts.{name_of}
use Rattle.commands.proofs.Found.{refused_race}
use Rattle.commands.proofs.finding.found_in_lines.Goals as goal

pub returns-clause-found : goal.returns-clause-found
returns-clause-found c =
    IfOk-weaker c.found_of_race-found.result _ _ (λ found made. (c.in_ok-asked.asked, c.in_ok-asked.ensures.asked, made)) c.found_of_race-found.ensures.found

pub returns-clause-noted : goal.returns-clause-noted
returns-clause-noted c =
    IfOk-weaker c.found_of_race-found.result _ _ (λ found made. (c.in_ok-asked.asked, c.in_ok-asked.ensures.asked, made)) c.found_of_race-found.ensures.noted

pub returns-clause-refused : goal.returns-clause-refused
returns-clause-refused c =
    IfErr-weaker c.found_of_race-found.result _ _
    (λ halt made. refused_race (name_of halt) c.args.options c.args.input.now c.in_ok-asked.asked c.in_ok-asked.ensures.asked made)
    c.found_of_race-found.ensures.refused
