use Rattle.trees.proofs.Sameness.{same-equal}
use Rattle.trees.proofs.same.same_values_are_equal.Goals as goal

pub returns : goal.returns
returns c = same-equal
