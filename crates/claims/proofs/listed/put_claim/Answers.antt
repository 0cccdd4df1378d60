use Rattle.std.proofs.Common.{Some, cond, ap, sym, ◌∙◌}
use Rattle.std.specs.Prelude.{bytes_eq, option_map}
use Rattle.std.specs.BTreeMap.{get_by}
use Rattle.std.specs.Cmp.Lexicographic.{slice_cmp}
use Rattle.std.specs.Ordering.{nat_cmp}
use Rattle.std.proofs.lemmas.Map.Text.{btree_map_updates_str}
use Rattle.objects.specs.declared.kind.Kind.TheVariants.{PersistentVolumeClaim}
use Rattle.set_views.specs.Set.{set_parts}
use Rattle.set_views.specs.Predicates.{in_namespace}
use Rattle.claims.proofs.NamedClaims.{put_near}
use Rattle.claims.proofs.listed.put_claim.Goals as goal

pub returns-in_ok-insert : goal.returns-in_ok-insert
returns-in_ok-insert c = λ name.
    let object = c.args.object in
    let before = get_by (λ k. slice_cmp nat_cmp name k.now) c.args.claims.now in
    ap (option_map (λ o. o.now)) (btree_map_updates_str c.name_of.result.now c.args.claims.now c.insert.new.self (Some object) c.in_ok-insert.ensures.updates name)
    ∙ ap (λ k. option_map (λ o. o.now) (cond (bytes_eq k name) (Some object) before)) c.name_of.ensures
    ∙ put_near (in_namespace (set_parts c.args.set.now) PersistentVolumeClaim object.now) (bytes_eq object.now.key.name name) object before (sym c.has_in_namespace.ensures ∙ c.if-has_in_namespace.true)
