use Rattle.std.proofs.Common.{map, Some, sym, ap, ◌∙◌}
use Rattle.std.specs.List.{list_all}
use Rattle.objects.specs.MetadataShape.{is_owner}
use Rattle.objects.specs.Tree.{data_of}
use Rattle.set_views.specs.Set.{set_parts}
use Rattle.manifests.specs.Arrays.{list_of}
use Rattle.manifests.proofs.ItemLists.{listed_trees}
use Rattle.claims.specs.declared.change.ClaimChange.TheVariants.{Update}
use Rattle.claims.specs.Changes.{with_owner_entries}
use Rattle.claims.proofs.ChangeLists.{no_update, some_update}
use Rattle.claims.proofs.OwnerEntries.{fit_trees, wanted_fit}
use Rattle.claims.proofs.change.update.Goals as goal

pub returns-then-are_wanted : goal.returns-then-are_wanted
returns-then-are_wanted c =
    let entries = c.owners-entries.result.now in
    no_update (set_parts c.args.set.now) c.args.pod.now c.args.owner.now c.args.claim.now (map data_of entries)
    (sym (listed_trees entries) ∙ ap list_of c.owners-entries.ensures.items) (sym c.are_wanted.ensures ∙ c.if-are_wanted.true)

pub with_owner_entries-requires : goal.with_owner_entries-requires
with_owner_entries-requires c =
    let entries = c.owners-entries.result.now in
    fit_trees c.in_ok-others.others.items ∙ (ap (list_all is_owner) c.in_ok-others.ensures
    ∙ wanted_fit (set_parts c.args.set.now) c.args.pod.now c.args.owner.now (map data_of entries) (sym (fit_trees entries) ∙ c.owners-entries.ensures.fit))

pub returns : goal.returns
returns c =
    let entries = c.owners-entries.result.now in
    ap (λ o. Some (Update o)) (c.in_ok-object.ensures ∙ ap (with_owner_entries c.args.claim.now) c.in_ok-others.ensures)
    ∙ some_update (set_parts c.args.set.now) c.args.pod.now c.args.owner.now c.args.claim.now (map data_of entries)
    (sym (listed_trees entries) ∙ ap list_of c.owners-entries.ensures.items) (sym c.are_wanted.ensures ∙ c.if-are_wanted.false)
