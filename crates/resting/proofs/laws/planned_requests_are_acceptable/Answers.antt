use Rattle.resting.proofs.UpToDate.{all_acceptable}
use Rattle.resting.proofs.laws.planned_requests_are_acceptable.Goals as goal

pub returns : goal.returns
returns c = all_acceptable
