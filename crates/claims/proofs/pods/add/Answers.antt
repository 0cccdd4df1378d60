use Rattle.std.proofs.Common.{Some, cond, ap, ◌∙◌}
use Rattle.std.specs.Prelude.{bytes_eq}
use Rattle.std.specs.BTreeMap.{get_by}
use Rattle.std.specs.Cmp.Lexicographic.{slice_cmp}
use Rattle.std.specs.Ordering.{nat_cmp}
use Rattle.std.proofs.lemmas.Map.Text.{btree_map_updates_str}
use Rattle.std.proofs.lemmas.Slice.Eq.{bytes_eq-Decides}
use Rattle.claims.proofs.PodClaims.{added, items_of}
use Rattle.claims.proofs.pods.add.Goals as goal

pub returns : goal.returns
returns c = λ key.
    let text = c.args.text.now in
    let groups = c.args.groups.now in
    let same = bytes_eq text key in
    let put = btree_map_updates_str text c.remove.new.self c.insert.new.self _ c.in_ok-insert.ensures.updates key in
    let taken = btree_map_updates_str text groups c.remove.new.self _ c.remove.ensures.updates key in
    ap items_of (put ∙ ap (cond same (Some c.push.new.self)) taken)
    ∙ added same (get_by (λ k. slice_cmp nat_cmp key k.now) groups) c.remove.result c.new.result c.unwrap_or-claims.result c.push.new.self c.args.claim
    (λ is. c.remove.ensures.value ∙ ap (λ t. get_by (λ k. slice_cmp nat_cmp t k.now) groups) ((bytes_eq-Decides text key).0 is))
    c.unwrap_or-claims.ensures c.new.ensures.items c.in_ok-push.ensures.items
