use Rattle.std.proofs.Common.{◌++◌, ◌≡◌, drop}
use Rattle.race_lines.specs.Questions.{told_lists}
use Rattle.outcome_lines.specs.Lined.{every_told}
use Rattle.outcome_lines.proofs.lined.every_told.Given as goal

abbrev pub invariant-loop-one : goal.invariant-loop-one
invariant-loop-one l = l.all.items ++ every_told (drop l.one-index l.sent) (told_lists l.told) ≡ every_told l.sent (told_lists l.told)
