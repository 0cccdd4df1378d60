use Rattle.resting.proofs.Expired.{expired_gone}
use Rattle.resting.proofs.laws.plans_remove_expired_revisions.Goals as goal

pub returns : goal.returns
returns c = λ set digits moment s plan some may read none. expired_gone set digits moment s plan some may read.there read.read none
