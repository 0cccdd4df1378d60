use Rattle.sets.proofs.Origins.{deletes_owned}
use Rattle.sets.proofs.laws.plans_delete_owned_pods.Goals as goal

pub returns : goal.returns
returns c = deletes_owned
