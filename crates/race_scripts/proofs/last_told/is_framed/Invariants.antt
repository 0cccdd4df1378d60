use Rattle.std.proofs.Common.{◌≡◌, length}
use Rattle.race_scripts.specs.Leading.{is_framed}
use Rattle.race_scripts.proofs.last_told.is_framed.Given as goal

abbrev pub invariant-begun : goal.invariant-begun
invariant-begun l = is_framed l.looker l.beginning l.looks l.turns ≡ is_framed l.looker l.begun l.looks l.rest

abbrev pub decreases-begun : goal.decreases-begun
decreases-begun l = length l.begun
