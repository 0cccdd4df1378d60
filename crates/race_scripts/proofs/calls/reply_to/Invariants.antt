use Rattle.std.proofs.Common.{◌≡◌, length}
use Rattle.outcomes.specs.Outcomes.{reply_to}
use Rattle.race_scripts.proofs.calls.reply_to.Given as goal

abbrev pub invariant-items : goal.invariant-items
invariant-items l = reply_to l.caller l.items ≡ reply_to l.caller l.rest

abbrev pub decreases-items : goal.decreases-items
decreases-items l = length l.rest
