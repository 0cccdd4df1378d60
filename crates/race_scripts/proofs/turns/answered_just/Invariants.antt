use Rattle.std.proofs.Common.{◌≡◌, length}
use Rattle.outcomes.specs.Outcomes.{exchanges_by}
use Rattle.race_scripts.specs.Shown.{answered_just}
use Rattle.race_scripts.proofs.turns.answered_just.Given as goal

abbrev pub invariant-calls : goal.invariant-calls
invariant-calls l = answered_just (exchanges_by l.caller l.items) l.requests ≡ answered_just (exchanges_by l.caller l.rest) l.wanted

abbrev pub decreases-calls : goal.decreases-calls
decreases-calls l = length l.rest
