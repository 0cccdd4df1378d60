use Rattle.sets.proofs.Origins.{creates_in_turn}
use Rattle.sets.proofs.laws.plans_create_in_turn.Goals as goal

pub returns : goal.returns
returns c = creates_in_turn
