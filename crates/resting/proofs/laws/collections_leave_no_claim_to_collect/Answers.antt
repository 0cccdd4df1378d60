use Rattle.resting.proofs.CollectedOnce.{none_left}
use Rattle.resting.proofs.laws.collections_leave_no_claim_to_collect.Goals as goal

pub returns : goal.returns
returns c = λ key digits moment s filed room own. none_left key digits moment s filed room own
