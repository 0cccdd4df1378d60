use Rattle.std.proofs.Common.{map, sym, ap, ◌∙◌}
use Rattle.std.specs.Prelude.{option_map}
use Rattle.serde_json.specs.Data.{array}
use Rattle.objects.specs.MetadataShape.{owners_fit}
use Rattle.objects.specs.Tree.{data_of}
use Rattle.claims.proofs.OwnerEntries.{fit_trees, items_if_any_fit}
use Rattle.claims.proofs.change.with_owner_entries.Goals as goal

pub with_owners-requires : goal.with_owners-requires
with_owners-requires c =
    ap (λ o. owners_fit (option_map array o)) c.in_ok-items.ensures ∙ items_if_any_fit (map data_of c.args.entries.items) (sym (fit_trees c.args.entries.items) ∙ c.requires)
