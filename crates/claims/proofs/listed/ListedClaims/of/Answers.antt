use Rattle.claims.specs.Listed.{IsFor, claim_named, claims_of}
use Rattle.claims.proofs.listed.ListedClaims.of.Goals as goal

pub returns-clause-named : goal.returns-clause-named
unfolding claim_named
returns-clause-named c = λ i name. c.in_ok-by_name.ensures name i

pub returns-clause-of_set : goal.returns-clause-of_set
unfolding IsFor claim_named claims_of
returns-clause-of_set c = c.in_ok-by_pod.ensures
