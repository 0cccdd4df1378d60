use Rattle.set_views.specs.Set.{set_parts}
use Rattle.claims.specs.Changes.{make_claims}
use Rattle.claims.specs.Listed.{claim_named}
use Rattle.sets.specs.Actions.{changes_in}
use Rattle.sets.proofs.Truncation.{adds_make_claims}
use Rattle.sets.proofs.steps.add_make_claims.Goals as goal

pub returns : goal.returns
returns c =
    adds_make_claims c.args.actions.now.list.items c.add_changes.new.actions.list.items c.in_ok-changes.changes.items
    (changes_in (make_claims (set_parts c.args.set.now) (claim_named c.args.claims.now) c.args.ordinal)) c.room-most.result c.room-most.ensures c.in_ok-changes.ensures c.in_ok-add_changes.ensures
