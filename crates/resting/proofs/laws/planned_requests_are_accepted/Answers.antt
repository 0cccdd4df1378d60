use Rattle.resting.proofs.AcceptedPlans.{all_are_accepted, keys_differ}
use Rattle.resting.proofs.AllAccepted.{unrefused_accepted}
use Rattle.resting.proofs.laws.planned_requests_are_accepted.Goals as goal

pub returns-clause-apart : goal.returns-clause-apart
returns-clause-apart c = λ set digits moment s plan some may read. keys_differ set digits moment s plan some may read.there read.read

pub returns-clause-accepted : goal.returns-clause-accepted
returns-clause-accepted c = λ set digits moment s plan some may read. all_are_accepted set digits moment s plan some may read.there read.read

pub returns-clause-unrefused : goal.returns-clause-unrefused
returns-clause-unrefused c = λ set digits moment s plan some may read whole given. unrefused_accepted set digits moment s some may read whole given plan
