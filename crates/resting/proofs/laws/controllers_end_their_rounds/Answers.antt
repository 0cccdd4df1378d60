use Rattle.resting.proofs.AcceptedPlans.{all_are_accepted}
use Rattle.resting.proofs.AllAccepted.{unrefused_accepted}
use Rattle.resting.proofs.WholeRounds.{controller_round}
use Rattle.resting.proofs.laws.controllers_end_their_rounds.Goals as goal

pub returns-clause-in_place : goal.returns-clause-in_place
returns-clause-in_place c = λ set digits moment s plan some may read. controller_round set digits moment s read.there read.read (all_are_accepted set digits moment s plan some may read.there read.read)

pub returns-clause-unrefused : goal.returns-clause-unrefused
returns-clause-unrefused c = λ set digits moment s plan some may read whole given. controller_round set digits moment s read.there read.read (unrefused_accepted set digits moment s some may read whole given plan)
