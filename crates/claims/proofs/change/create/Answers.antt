use Rattle.std.proofs.Common.{[], ap, refl, ◌∙◌}
use Rattle.std.specs.List.{list_all}
use Rattle.serde_json.specs.View as view
use Rattle.objects.specs.MetadataShape.{are_owners, is_owner}
use Rattle.set_views.specs.Set.{set_parts}
use Rattle.manifests.specs.BuiltClaim.{built_claim}
use Rattle.manifests.proofs.ItemLists.{items_of_trees}
use Rattle.claims.specs.declared.change.ClaimChange.TheVariants.{Create}
use Rattle.claims.specs.Owners.{owner_in_range, wanted_entries}
use Rattle.claims.proofs.OwnerEntries.{fit_trees, wanted_fit}
use Rattle.claims.proofs.change.create.Goals as goal

pub claim_of-requires-clause-owners : goal.claim_of-requires-clause-owners
claim_of-requires-clause-owners c =
    ap are_owners c.in_ok-items.ensures ∙ (fit_trees c.in_ok-entries.entries.items ∙ (ap (list_all is_owner) c.in_ok-entries.ensures
    ∙ wanted_fit (set_parts c.args.set.now) c.args.pod.now c.owner_in_range-owner.result [] refl))

pub returns : goal.returns
returns c =
    let set = set_parts c.args.set.now in
    let owned = ap (λ o. wanted_entries set c.args.pod.now o []) c.owner_in_range-owner.ensures ∙ ap (λ p. wanted_entries set p (owner_in_range set) []) c.requires.named in
    let items = c.in_ok-items.ensures ∙ (items_of_trees c.in_ok-entries.entries.items ∙ ap view.items_of (c.in_ok-entries.ensures ∙ owned)) in
    ap Create (c.in_ok-claim.ensures ∙ (ap (λ n. built_claim set c.args.ordinal c.in_ok-items.items (n, c.args.template.now.1)) c.as_str.ensures
    ∙ ap (λ ds. built_claim set c.args.ordinal ds c.args.template.now) items))
