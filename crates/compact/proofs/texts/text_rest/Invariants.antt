use Rattle.std.proofs.Common.{◌≤◌, length}
use Rattle.compact.proofs.PlainRuns.{GoesOn}
use Rattle.compact.proofs.texts.text_rest.Given as goal

abbrev pub invariant-runs : goal.invariant-runs
invariant-runs l = record {
  goes_on : GoesOn l.text l.left;
  shorter : length l.left ≤ length l.text;
}

abbrev pub decreases-runs : goal.decreases-runs
decreases-runs l = length l.left
