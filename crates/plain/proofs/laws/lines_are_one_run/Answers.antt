use Rattle.plain.proofs.RunsOfLines.{answers-of_run}
use Rattle.plain.proofs.laws.lines_are_one_run.Goals as goal

pub returns : goal.returns
returns c = answers-of_run
