use Rattle.std.proofs.Common.{map, sym, ap, ◌∙◌}
use Rattle.std.specs.List.{list_any}
use Rattle.objects.specs.Tree.{data_of}
use Rattle.set_views.specs.Set.{set_parts}
use Rattle.claims.specs.Owners.{is_of}
use Rattle.claims.proofs.OwnerEntries.{owned_already, owned_now}
use Rattle.claims.proofs.entries.with_owner.Goals as goal

pub returns-then-has_entry_of : goal.returns-then-has_entry_of
returns-then-has_entry_of c =
    let found = c.has_entry_of.ensures ∙ ap (list_any (λ t. is_of (set_parts c.args.set.now) c.args.owner.now (data_of t))) c.deref.ensures.value in
    owned_already (set_parts c.args.set.now) c.args.pod.now c.args.owner.now c.args.entries.items (sym found ∙ c.if-has_entry_of.true)

pub returns : goal.returns
returns c =
    let found = c.has_entry_of.ensures ∙ ap (list_any (λ t. is_of (set_parts c.args.set.now) c.args.owner.now (data_of t))) c.deref.ensures.value in
    ap (map data_of) c.in_ok-push.ensures.items
    ∙ owned_now (set_parts c.args.set.now) c.args.pod.now c.args.owner.now c.args.entries.items c.in_ok-reference_to.field-0 (sym found ∙ c.if-has_entry_of.false) c.in_ok-reference_to.ensures
