use Rattle.std.proofs.Common.{◌≡◌, length}
use Rattle.race_scripts.specs.Leading.{are_looks}
use Rattle.race_scripts.proofs.last_told.are_looks.Given as goal

abbrev pub invariant-looks : goal.invariant-looks
invariant-looks l = are_looks l.looker l.looks l.turns ≡ are_looks l.looker l.looks_left l.turns_left

abbrev pub decreases-looks : goal.decreases-looks
decreases-looks l = length l.looks_left
