use Rattle.sets.proofs.ClaimActions.{owners_alone}
use Rattle.sets.proofs.laws.plans_change_owners_alone.Goals as goal

pub returns : goal.returns
returns c = owners_alone
