use Rattle.sets.proofs.OnePlan.{not_both, one_list, one_refusal}
use Rattle.sets.proofs.laws.plans_are_equal.Goals as goal

pub returns-clause-actions : goal.returns-clause-actions
returns-clause-actions c = one_list

pub returns-clause-refusals : goal.returns-clause-refusals
returns-clause-refusals c = one_refusal

pub returns-clause-not_both : goal.returns-clause-not_both
returns-clause-not_both c = not_both
