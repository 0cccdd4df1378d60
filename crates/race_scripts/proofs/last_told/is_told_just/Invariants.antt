use Rattle.std.proofs.Common.{◌≡◌, length}
use Rattle.outcomes.specs.Outcomes.{exchanges_by}
use Rattle.race_scripts.specs.Leading.{is_told_just}
use Rattle.race_scripts.proofs.last_told.is_told_just.Given as goal

abbrev pub invariant-calls : goal.invariant-calls
invariant-calls l = is_told_just (exchanges_by l.looker l.items) l.looks l.shown ≡ is_told_just (exchanges_by l.looker l.rest) l.looks_left l.shown_left

abbrev pub decreases-calls : goal.decreases-calls
decreases-calls l = length l.rest
