use Rattle.sets.proofs.FirstObjects.{plan_of_other_claims, plan_of_other_pods}
use Rattle.sets.proofs.laws.plans_go_by_first_objects.Goals as goal

pub returns-clause-pods : goal.returns-clause-pods
returns-clause-pods c = plan_of_other_pods

pub returns-clause-claims : goal.returns-clause-claims
returns-clause-claims c = plan_of_other_claims
