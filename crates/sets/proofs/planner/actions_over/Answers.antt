use Rattle.std.proofs.Common.{map, take, ◌++◌, ap, ◌∙◌}
use Rattle.std.specs.List.{flat_map}
use Rattle.set_views.specs.Pod.{pod_parts}
use Rattle.set_views.specs.Set.{set_parts}
use Rattle.revisions.specs.Plan.{objects_of}
use Rattle.claims.specs.Listed.{claim_named}
use Rattle.sets.specs.Actions.{actions_of}
use Rattle.sets.proofs.Names.{nameable}
use Rattle.sets.proofs.Plans.{full_plan_by_name}
use Rattle.sets.proofs.planner.actions_over.Goals as goal

pub add_steps-requires-clause-nameable : goal.add_steps-requires-clause-nameable
add_steps-requires-clause-nameable c =
    nameable (set_parts c.args.set.now) c.args.pods.now.entries c.deref.result.now c.len-len.ensures.ordered c.args.set.now.in_limits c.requires.fit
    (c.deref.ensures.value ∙ c.in_ok-steps.ensures.first)

pub returns : goal.returns
returns c =
    let acts = actions_of (set_parts c.args.set.now) (claim_named c.args.claims.now) in
    let current = c.args.revisions.now.current.object.now in
    let update = c.in_ok-templates.templates.update.revision.now in
    let added = c.in_ok-add_steps.ensures
    ∙ (ap (λ r. take 1024 (c.new-actions.result.list.items ++ flat_map (acts r update) c.deref.result.now)) c.in_ok-templates.ensures.current
    ∙ ap (λ r. take 1024 (c.new-actions.result.list.items ++ flat_map (acts current r) c.deref.result.now)) c.in_ok-templates.ensures.update) in
    full_plan_by_name (set_parts c.args.set.now) (claim_named c.args.claims.now) (map pod_parts c.args.views.now) (objects_of c.args.revisions.now.owned.items) c.args.revisions.now.current.object.now c.args.revisions.now.update.object.now c.args.pods.now.entries
    c.current_name-current.result.now c.deref.result.now c.deref-2.result.now c.new-actions.result.list.items c.add_steps.new.actions.list.items c.add_history.new.actions.list.items c.add_status.new.actions.list.items
    c.new-actions.ensures (c.deref.ensures.value ∙ c.in_ok-steps.ensures.first) (c.deref-2.ensures.value ∙ c.in_ok-steps.ensures.first) c.current_name-current.ensures
    added c.in_ok-add_history.ensures c.in_ok-add_status.ensures
