use Rattle.std.proofs.Common.{◌≡◌, length}
use Rattle.outcomes.specs.Outcomes.{exchanges_by}
use Rattle.race_scripts.specs.Leading.{is_told_last}
use Rattle.race_scripts.proofs.last_told.is_told_last.Given as goal

abbrev pub invariant-begun : goal.invariant-begun
invariant-begun l = is_told_last l.beginning (exchanges_by l.looker l.items) l.looks l.shown ≡ is_told_last l.begun (exchanges_by l.looker l.rest) l.looks l.shown

abbrev pub decreases-begun : goal.decreases-begun
decreases-begun l = length l.begun
