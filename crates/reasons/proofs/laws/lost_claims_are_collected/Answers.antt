use Rattle.reasons.proofs.Collected.{collected}
use Rattle.reasons.proofs.laws.lost_claims_are_collected.Goals as goal

pub returns : goal.returns
returns c = collected
