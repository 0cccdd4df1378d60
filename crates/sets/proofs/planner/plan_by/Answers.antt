use Rattle.std.proofs.Common.{Result, map, subst}
use Rattle.set_views.specs.declared.fault.PlanError.{PlanError}
use Rattle.set_views.specs.Pod.{pod_parts}
use Rattle.set_views.specs.Set.{set_parts}
use Rattle.set_views.specs.Steps.{Gives}
use Rattle.revisions.specs.declared.plan.RevisionPlan.{RevisionPlan}
use Rattle.revisions.specs.Plan.{plan_parts}
use Rattle.claims.specs.Listed.{claim_named}
use Rattle.sets.specs.declared.action.Plan.{Plan}
use Rattle.sets.proofs.Plans.{by_refusal}
use Rattle.sets.proofs.planner.plan_by.Goals as goal

pub returns-in-Err-clause-planned : goal.returns-in-Err-clause-planned
returns-in-Err-clause-planned c q h =
    by_refusal (λ (p : Plan). p.actions.items) (set_parts c.args.set.now) (claim_named c.args.claims.now) (map pod_parts c.args.views.now) c.in-Err.error q _ c.refusal.ensures.memory c.refusal.ensures.refused
    (subst (λ (f : Result RevisionPlan PlanError). Gives plan_parts f q) c.in-Err.is h)
