use Rattle.std.proofs.Common.{◌≡◌, length, vec_len, sym, ap, ◌∙◌, codes, arith}
use Rattle.std.specs.Prelude.{◌==◌}
use Rattle.serde_json.specs.Data.{array, put}
use Rattle.set_views.specs.Set.{set_parts}
use Rattle.manifests.specs.Arrays.{list_of}
use Rattle.manifests.specs.Volumes.{volumes_with}
use Rattle.manifests.proofs.ItemLists.{listed_trees, volumes_put}
use Rattle.manifests.proofs.volumes.with_others.Goals as goal

pub returns : goal.returns
returns c =
    let set = set_parts c.args.set.now in
    let same : length c.args.set.now.claims.items ≡ vec_len c.args.set.now.claims = omega (arith, c.args.set.now.claims.ok) in
    let listed = sym (listed_trees c.as_slice.result.now) ∙ ap list_of c.as_slice.ensures in
    c.in_ok-whole.ensures ∙ (ap (λ ds. put (codes "volumes") (array ds) c.args.spec) c.in_ok-items.ensures
    ∙ volumes_put set c.args.ordinal c.args.spec c.in_ok-volumes.volumes.items (list_of c.args.others.now)
    (c.in_ok-volumes.ensures ∙ ap (volumes_with set c.args.ordinal) listed) (ap (λ n. n == 0) same ∙ (sym c.is_empty.ensures ∙ c.if-is_empty.false)))
