use Rattle.std.proofs.Common.{ap, ◌∙◌}
use Rattle.set_views.specs.Set.{set_parts}
use Rattle.reasons.specs.Reasons.{grounds_with}
use Rattle.reasons.proofs.Grounds.{same_grounds}
use Rattle.reasons.proofs.why.Why.of.Goals as goal

pub returns : goal.returns
returns c =
    let set = set_parts c.args.set in
    same_grounds set c.args.digits c.args.revisions.now c.args.pods.now c.in_ok-update.update c.in_ok-found.found.entries c.in_ok-update.ensures
    (c.in_ok-found.ensures ∙ ap (λ u. (grounds_with set u c.args.pods.now).pods) c.as_str.ensures)
