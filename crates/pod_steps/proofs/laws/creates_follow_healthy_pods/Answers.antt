use Rattle.pod_steps.proofs.Causes.{created_in_turn}
use Rattle.pod_steps.proofs.laws.creates_follow_healthy_pods.Goals as goal

pub returns : goal.returns
returns c = created_in_turn
