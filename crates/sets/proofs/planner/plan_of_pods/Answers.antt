use Rattle.std.proofs.Common.{map}
use Rattle.set_views.specs.Pod.{pod_parts}
use Rattle.set_views.specs.Set.{set_parts}
use Rattle.revisions.specs.Plan.{objects_of}
use Rattle.claims.specs.Listed.{claim_named}
use Rattle.sets.proofs.Plans.{fitting_pods_fit, pods_planned, pods_refused}
use Rattle.sets.proofs.planner.plan_of_pods.Goals as goal

pub returns-in-Err : goal.returns-in-Err
returns-in-Err c =
    pods_refused (set_parts c.args.set.now) (claim_named c.args.claims.now) (map pod_parts c.args.views.now) (objects_of c.args.revisions.now.owned.items) c.args.revisions.now.current.object.now c.args.revisions.now.update.object.now
    c.args.revisions.now.update.name.now c.args.revisions.now.current.name.now c.in-Err.error c.args.revisions.now.update.named c.args.revisions.now.current.named c.in-Err.ensures

pub actions_over-requires-clause-fit : goal.actions_over-requires-clause-fit
actions_over-requires-clause-fit c =
    fitting_pods_fit (set_parts c.args.set.now) (map pod_parts c.args.views.now) c.args.revisions.now.update.name.now c.args.revisions.now.current.name.now c.in-Ok.pods.entries c.in-Ok.ensures

pub returns : goal.returns
returns c =
    pods_planned (set_parts c.args.set.now) (claim_named c.args.claims.now) (map pod_parts c.args.views.now) (objects_of c.args.revisions.now.owned.items) c.args.revisions.now.current.object.now c.args.revisions.now.update.object.now
    c.args.revisions.now.update.name.now c.args.revisions.now.current.name.now c.in-Ok.pods.entries c.in_ok-actions.actions.items c.args.revisions.now.update.named c.args.revisions.now.current.named c.in-Ok.ensures c.in_ok-actions.ensures
