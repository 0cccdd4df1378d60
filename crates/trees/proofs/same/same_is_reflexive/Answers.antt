use Rattle.trees.proofs.Sameness.{same-itself}
use Rattle.trees.proofs.same.same_is_reflexive.Goals as goal

pub returns : goal.returns
returns c = same-itself
