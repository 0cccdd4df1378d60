use Rattle.std.proofs.Common.{List, ap, ◌∙◌}
use Rattle.objects.specs.declared.object.Object.{Object}
use Rattle.sets.specs.declared.action.Action.{Action}
use Rattle.set_views.specs.Set.{set_parts}
use Rattle.plan_lines.specs.Brief.{closing}
use Rattle.reasons.specs.Reasons.{grounds_of_lists}
use Rattle.reasons.specs.Why.{grounds}
use Rattle.commands.proofs.Planned.{words_of}
use Rattle.commands.proofs.plan.in_words.Goals as goal

pub returns : goal.returns
returns c =
    let set = set_parts c.args.set in
    let g = grounds c.in_ok-why.why in
    let listed = c.args.listed.now in
    words_of g (grounds_of_lists set c.args.digits listed.revisions.items listed.pods.items) c.args.plan.actions.items listed.claims.items c.in_ok-closing.closing.items
    (c.in_ok-why.ensures ∙ (ap (λ (revisions : List Object). grounds_of_lists set c.args.digits revisions c.as_slice-pods.result.now) c.as_slice.ensures.value
    ∙ ap (grounds_of_lists set c.args.digits listed.revisions.items) c.as_slice-pods.ensures.value))
    (c.in_ok-closing.ensures ∙ (ap (λ (actions : List Action). closing g actions c.as_slice-2.result.now) c.as_slice-actions.ensures.value
    ∙ ap (closing g c.args.plan.actions.items) c.as_slice-2.ensures.value))
