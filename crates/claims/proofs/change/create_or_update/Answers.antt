use Rattle.std.proofs.Common.{sym, ap, ◌∙◌}
use Rattle.std.specs.Prelude.{option_map}
use Rattle.set_views.specs.Set.{set_parts}
use Rattle.claims.specs.Changes.{create_or_update, update}
use Rattle.claims.specs.Owners.{owner_in_range}
use Rattle.claims.proofs.change.create_or_update.Goals as goal

pub returns-in_ok-change-in-Some : goal.returns-in_ok-change-in-Some
returns-in_ok-change-in-Some c =
    let set = set_parts c.args.set.now in
    let claim = c.in-Some.claim.now in
    c.in_ok-change-in-Some.ensures ∙ (ap (λ o. update set c.args.pod.now o claim) c.owner_in_range-owner.ensures ∙ (ap (λ p. update set p (owner_in_range set) claim) c.requires.named
    ∙ ap (λ found. create_or_update set c.args.ordinal c.args.template.now (option_map (λ o. o.now) found)) (sym c.in-Some.is)))
