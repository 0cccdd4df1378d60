use Rattle.collector.proofs.Collected.{claim_of}
use Rattle.collector.proofs.laws.collected_claims_are_collectable.Goals as goal

pub returns : goal.returns
returns c = claim_of
