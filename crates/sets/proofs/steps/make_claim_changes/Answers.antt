use Rattle.std.proofs.Common.{◌≡◌, [], rules, sym, ap, ◌∙◌}
use Rattle.std.specs.Prelude.{length, nat_le}
use Rattle.objects.specs.Names.{most_label}
use Rattle.set_views.specs.Set.{set_parts}
use Rattle.claims.specs.Changes.{all_creates_and_updates, make_first_claims}
use Rattle.claims.specs.Listed.{claim_named}
use Rattle.sets.specs.Actions.{changes_in, name_at}
use Rattle.sets.proofs.Names.{first_changes, no_changes}
use Rattle.sets.proofs.steps.make_claim_changes.Goals as goal

pub returns-in-Ok : goal.returns-in-Ok
returns-in-Ok c =
    let set = set_parts c.args.set.now in
    let claims = claim_named c.args.claims.now in
    sym (ap changes_in c.in-Ok.ensures) ∙ first_changes (nat_le (length (name_at set c.args.ordinal)) most_label) c.args.most (all_creates_and_updates set claims c.args.ordinal set.claims)

pub returns-in_default : goal.returns-in_default
returns-in_default c =
    let set = set_parts c.args.set.now in
    let claims = claim_named c.args.claims.now in
    let empty : c.new.result.items ≡ [] = search rules in
    empty ∙ (no_changes _ (make_first_claims set claims c.args.ordinal c.args.most) c.in_default.not-Memory c.in-Err.ensures
    ∙ first_changes (nat_le (length (name_at set c.args.ordinal)) most_label) c.args.most (all_creates_and_updates set claims c.args.ordinal set.claims))
