use Rattle.std.proofs.Common.{◌≡◌, Some, sym, ap, ◌∙◌}
use Rattle.serde_json.specs.Data.{object}
use Rattle.serde_json.specs.Find.{get_member}
use Rattle.trees.specs.Tree.{data_of}
use Rattle.trees.specs.declared.tree.Tree.{Tree}
use Rattle.trees.proofs.PutOrder.{put_found}
use Rattle.objects.specs.Status.{member_of}
use Rattle.objects.proofs.replace.with_same.Goals as goal

pub returns-in_ok-with-in-Map : goal.returns-in_ok-with-in-Map
returns-in_ok-with-in-Map c =
    let ms = c.in-Map.members in
    let found : get_member c.args.key.now ms ≡ Some (data_of c.args.value) = sym (ap (λ (b : Tree). member_of c.args.key.now (data_of b)) c.in-Map.is) ∙ c.requires in
    ap object (c.in_ok-with-in-Map.ensures ∙ put_found c.args.key.now (data_of c.args.value) ms c.entries.ensures.ascending found) ∙ ap data_of (sym c.in-Map.is)
