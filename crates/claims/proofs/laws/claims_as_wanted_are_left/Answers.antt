use Rattle.claims.proofs.OwnerLaws.{as_wanted, not_as_wanted}
use Rattle.claims.proofs.laws.claims_as_wanted_are_left.Goals as goal

pub returns-clause-same : goal.returns-clause-same
returns-clause-same c = as_wanted

pub returns-clause-others : goal.returns-clause-others
returns-clause-others c = not_as_wanted
