use Rattle.set_views.specs.Set.{set_parts}
use Rattle.sets.proofs.OnePlan.{one_plan}
use Rattle.first_rounds.proofs.planning.planned.Goals as goal

pub returns : goal.returns
returns c = one_plan (set_parts c.args.set.now) c.args.pods.now c.args.claims.now c.args.revisions.now c.args.digits _ c.plan.ensures
