use Rattle.sets.proofs.Updates.{updated_where_healthy}
use Rattle.sets.proofs.laws.plans_update_healthy_sets_in_order.Goals as goal

pub returns : goal.returns
returns c = updated_where_healthy
