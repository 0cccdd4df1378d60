use Rattle.sets.proofs.ClaimActions.{created_retained, updated_retained}
use Rattle.sets.proofs.laws.plans_retain_claims.Goals as goal

pub returns-clause-updated : goal.returns-clause-updated
returns-clause-updated c = updated_retained

pub returns-clause-created : goal.returns-clause-created
returns-clause-created c = created_retained
