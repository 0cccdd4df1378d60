use Rattle.std.proofs.Common.{◌≡◌, drop}
use Rattle.reasons.specs.Lost.{claim_after}
use Rattle.reasons.proofs.lost.is_deleted_after.Given as goal

-- no action so far updates the claim
abbrev pub invariant-loop-action : goal.invariant-loop-action
invariant-loop-action l = claim_after (drop l.action-index l.actions) l.claim ≡ claim_after l.actions l.claim
