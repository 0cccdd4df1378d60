use Rattle.resting.proofs.RoundsOnPods.{plan_acts}
use Rattle.resting.proofs.laws.plans_act_on_the_pods.Goals as goal

pub returns : goal.returns
returns c = λ set digits moment s plan next some may. plan_acts set digits moment s plan some may next
