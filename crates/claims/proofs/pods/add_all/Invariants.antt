use Rattle.std.proofs.Common.{◌≡◌, ◌++◌, ℕ, List, take}
use Rattle.claims.specs.Pods.{claims_in, under, with_digits}
use Rattle.claims.proofs.pods.add_all.Given as goal

abbrev pub invariant-loop-claim : goal.invariant-loop-claim
invariant-loop-claim l = (digits : List ℕ) → claims_in (under l.pods digits) ≡ claims_in (under l.initial.pods digits) ++ with_digits digits (take l.claim-index l.claims)
