use Rattle.resting.proofs.RoundsOnPods.{round_on_pods}
use Rattle.resting.proofs.laws.plans_and_turns_are_rounds_on_pods.Goals as goal

pub returns : goal.returns
returns c = λ set digits moment s plan next some may. round_on_pods set digits moment s plan some may next
