use Rattle.std.proofs.Common.{List, map, sym, subst}
use Rattle.set_views.specs.declared.pod.PodView.{PodView}
use Rattle.set_views.specs.Pod.{pod_parts}
use Rattle.set_views.specs.Set.{set_parts}
use Rattle.pod_steps.specs.Views.{AreViews, listed_pods}
use Rattle.claims.specs.Listed.{claim_named, listed_claim}
use Rattle.sets.proofs.Plans.{for_claims, is_plan}
use Rattle.sets.proofs.planner.plan.Goals as goal

pub returns : goal.returns
returns c =
    let set = set_parts c.args.set.now in
    is_plan set c.args.pods.now c.args.claims.now c.args.revisions.now c.args.digits c.deref.result.now c.revision_plan-found.result c.plan_by.result c.revision_plan-found.ensures
    (subst (λ (vs : List PodView). AreViews (listed_pods set c.args.pods.now) vs) (sym c.deref.ensures.value) c.in_ok-views.ensures)
    (for_claims set (claim_named c.in_ok-listed.listed) (listed_claim set c.args.claims.now) (map pod_parts c.deref.result.now) c.revision_plan-found.result c.plan_by.result c.in_ok-listed.ensures.named c.plan_by.ensures.planned)
    c.plan_by.ensures.memory
