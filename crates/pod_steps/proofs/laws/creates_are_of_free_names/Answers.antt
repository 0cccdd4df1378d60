use Rattle.pod_steps.proofs.ListedPlans.{created_is_free}
use Rattle.pod_steps.proofs.laws.creates_are_of_free_names.Goals as goal

pub returns : goal.returns
returns c = created_is_free
