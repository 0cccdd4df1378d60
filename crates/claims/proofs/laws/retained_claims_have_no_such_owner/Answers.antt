use Rattle.claims.proofs.OwnerLaws.{retained_condemned, retained_in_range}
use Rattle.claims.proofs.laws.retained_claims_have_no_such_owner.Goals as goal

pub returns-clause-in_range : goal.returns-clause-in_range
returns-clause-in_range c = retained_in_range

pub returns-clause-condemned : goal.returns-clause-condemned
returns-clause-condemned c = retained_condemned
