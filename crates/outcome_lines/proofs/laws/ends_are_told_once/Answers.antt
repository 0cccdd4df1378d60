use Rattle.outcome_lines.proofs.ToldOnce.{told_once}
use Rattle.outcome_lines.proofs.laws.ends_are_told_once.Goals as goal

pub returns : goal.returns
returns c = told_once
