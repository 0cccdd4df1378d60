use Rattle.std.proofs.Common.{◌≡◌, length}
use Rattle.race_scripts.specs.Callers.{are_apart}
use Rattle.race_scripts.proofs.callers.all_apart.Given as goal

abbrev pub invariant-callers : goal.invariant-callers
invariant-callers l = are_apart l.callers ≡ are_apart l.rest

abbrev pub decreases-callers : goal.decreases-callers
decreases-callers l = length l.rest
