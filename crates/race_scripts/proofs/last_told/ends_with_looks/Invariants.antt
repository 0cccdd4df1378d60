use Rattle.std.proofs.Common.{◌≡◌, length}
use Rattle.race_scripts.specs.Leading.{ends_with_looks}
use Rattle.race_scripts.proofs.last_told.ends_with_looks.Given as goal

abbrev pub invariant-turns : goal.invariant-turns
invariant-turns l = ends_with_looks l.looker l.looks l.turns ≡ ends_with_looks l.looker l.looks l.rest

abbrev pub decreases-turns : goal.decreases-turns
decreases-turns l = length l.rest
