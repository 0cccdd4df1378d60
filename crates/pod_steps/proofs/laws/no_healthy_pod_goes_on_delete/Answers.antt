use Rattle.pod_steps.proofs.ListedPlans.{kept_of_list}
use Rattle.pod_steps.proofs.laws.no_healthy_pod_goes_on_delete.Goals as goal

pub returns : goal.returns
returns c = kept_of_list
