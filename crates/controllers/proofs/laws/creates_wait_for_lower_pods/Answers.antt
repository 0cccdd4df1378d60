use Rattle.controllers.proofs.InTurn.{created_in_turn}
use Rattle.controllers.proofs.laws.creates_wait_for_lower_pods.Goals as goal

pub returns : goal.returns
returns c = created_in_turn
