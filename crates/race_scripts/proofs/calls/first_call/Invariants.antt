use Rattle.std.proofs.Common.{◌≡◌, ◌≤◌, length}
use Rattle.outcomes.specs.Outcomes.{exchanges_by}
use Rattle.race_scripts.proofs.calls.first_call.Given as goal

abbrev pub invariant-items : goal.invariant-items
invariant-items l = record {
  same : exchanges_by l.caller l.items ≡ exchanges_by l.caller l.rest;
  shorter : length l.rest ≤ length l.items;
}

abbrev pub decreases-items : goal.decreases-items
decreases-items l = length l.rest
