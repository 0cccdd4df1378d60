use Rattle.std.proofs.Common.{◌++◌, ◌≡◌, length}
use Rattle.outcome_lines.specs.Lined.{asked_lines}
use Rattle.outcome_lines.proofs.lined.asked_lines.Given as goal

abbrev pub invariant-lines : goal.invariant-lines
invariant-lines l = l.asked.items ++ asked_lines l.lines_left l.told_left ≡ asked_lines l.lines l.told

abbrev pub decreases-lines : goal.decreases-lines
decreases-lines l = length l.lines_left
