use Rattle.controllers.proofs.Turns.{pods_in_turn}
use Rattle.controllers.proofs.laws.pods_come_in_turn.Goals as goal

pub returns : goal.returns
returns c = pods_in_turn
