use Rattle.reasons.proofs.Deletions.{explained}
use Rattle.reasons.proofs.laws.deletions_are_explained.Goals as goal

pub returns : goal.returns
returns c = explained
