use Rattle.sets.proofs.ClaimsFirst.{claims_come_first}
use Rattle.sets.proofs.laws.plans_make_claims_before_their_pod.Goals as goal

pub returns : goal.returns
returns c = claims_come_first
