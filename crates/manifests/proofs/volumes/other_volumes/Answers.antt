use Rattle.std.proofs.Common.{not, map, ap, ◌∙◌}
use Rattle.serde_json.specs.View as view
use Rattle.objects.specs.Tree.{data_of}
use Rattle.set_views.specs.Set.{set_parts}
use Rattle.manifests.specs.Volumes.{is_replaced, volumes_in}
use Rattle.manifests.proofs.ItemLists.{items_of_trees, passing}
use Rattle.manifests.proofs.volumes.other_volumes.Goals as goal

pub returns : goal.returns
returns c =
    c.in_ok-items.ensures ∙ (items_of_trees c.in_ok-others.others.items
    ∙ ap view.items_of (passing (λ d. not (is_replaced (set_parts c.args.set.now) d)) c.volumes_in.result.now (volumes_in c.args.spec.now)
    (map data_of c.in_ok-others.others.items) c.volumes_in.ensures c.in_ok-others.ensures))
