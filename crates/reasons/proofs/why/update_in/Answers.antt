use Rattle.std.proofs.Common.{◌∙◌}
use Rattle.set_views.specs.Set.{set_parts}
use Rattle.reasons.proofs.Grounds.{found_name}
use Rattle.reasons.proofs.why.update_in.Goals as goal

pub returns : goal.returns
returns c =
    c.in_ok-text.ensures ∙ (c.in_ok-name.ensures.name
    ∙ found_name (set_parts c.args.set.now) c.args.revisions.now c.args.digits c.revision_plan-found.result c.revision_plan-found.ensures c.in_ok-name.ensures.ample)
