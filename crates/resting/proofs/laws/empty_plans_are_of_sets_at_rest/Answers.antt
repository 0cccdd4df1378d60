use Rattle.resting.proofs.Empty.{empty_is_rest}
use Rattle.resting.proofs.Lists.{empty_over_lists}
use Rattle.resting.proofs.laws.empty_plans_are_of_sets_at_rest.Goals as goal

pub returns-clause-parts : goal.returns-clause-parts
returns-clause-parts c = empty_is_rest

pub returns-clause-lists : goal.returns-clause-lists
returns-clause-lists c = empty_over_lists
