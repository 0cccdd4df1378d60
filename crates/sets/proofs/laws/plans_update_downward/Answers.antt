use Rattle.sets.proofs.Updates.{updated_downward}
use Rattle.sets.proofs.laws.plans_update_downward.Goals as goal

pub returns : goal.returns
returns c = updated_downward
