use Rattle.pod_steps.proofs.ListedPlans.{replaced_of_list}
use Rattle.pod_steps.proofs.laws.replacements_wait_for_all_in_order.Goals as goal

pub returns : goal.returns
returns c = replaced_of_list
