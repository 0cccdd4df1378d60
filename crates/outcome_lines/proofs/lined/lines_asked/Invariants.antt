use Rattle.std.proofs.Common.{◌++◌, ◌≡◌, length}
use Rattle.race_lines.specs.Questions.{told_lists}
use Rattle.outcome_lines.specs.Lined.{lines_asked, lists_of}
use Rattle.outcome_lines.proofs.lined.lines_asked.Given as goal

abbrev pub invariant-participants : goal.invariant-participants
invariant-participants l = lists_of l.all.items ++ lines_asked (lists_of l.lines_left) (told_lists l.told_left) ≡ lines_asked (lists_of l.lines) (told_lists l.told)

abbrev pub decreases-participants : goal.decreases-participants
decreases-participants l = length l.lines_left
