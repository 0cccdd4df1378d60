use Rattle.pod_steps.proofs.ListedPlans.{deleted_is_owned}
use Rattle.pod_steps.proofs.laws.deletes_are_of_owned_pods.Goals as goal

pub returns : goal.returns
returns c = deleted_is_owned
