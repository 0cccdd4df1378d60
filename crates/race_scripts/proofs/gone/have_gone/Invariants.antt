use Rattle.std.proofs.Common.{length}
use Rattle.race_lines.specs.Questions.{told_lists}
use Rattle.race_scripts.specs.Gone.{HaveGone}
use Rattle.race_scripts.proofs.gone.have_gone.Given as goal

abbrev pub invariant-participants : goal.invariant-participants
invariant-participants l = HaveGone l.left l.callers_left (told_lists l.told_left) l.items → HaveGone l.participants l.callers (told_lists l.told) l.items

abbrev pub decreases-participants : goal.decreases-participants
decreases-participants l = length l.left
