use Rattle.sets.proofs.Origins.{kept_healthy}
use Rattle.sets.proofs.laws.plans_keep_healthy_pods_on_delete.Goals as goal

pub returns : goal.returns
returns c = kept_healthy
