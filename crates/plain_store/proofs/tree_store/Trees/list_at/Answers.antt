use Rattle.std.proofs.Common.{◌≤◌, ap, subst, sym, ◌∙◌}
use Rattle.std.proofs.lemmas.Result.{IfOk-weaker}
use Rattle.version_map.specs.Keyed.{collection}
use Rattle.plain_store.specs.Store.{Store, map_at}
use Rattle.plain_store.proofs.Held.{map_at_is}
use Rattle.plain_store.proofs.tree_store.Trees.list_at.Goals as goal

pub returns : goal.returns
returns c =
    let n = c.args.number in
    let from = subst (λ (t : Store). (t.floor ≤ n) × (n ≤ t.counter)) (sym c.self.view_is) c.requires in
    let there = sym (map_at_is c.self.inside.versions c.self.inside.counter c.self.inside.capacity n from.0 from.1) ∙ ap (λ (t : Store). map_at t n) c.self.view_is in
    IfOk-weaker c.list_at.result _ _ (λ objects is. is ∙ ap (λ m. collection m c.args.kind c.args.namespace.now) there) c.list_at.ensures
