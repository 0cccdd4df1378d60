use Rattle.sets.proofs.Origins.{one_pod}
use Rattle.sets.proofs.laws.plans_touch_one_pod_in_order.Goals as goal

pub returns : goal.returns
returns c = one_pod
