use Rattle.std.proofs.Common.{rules, ◌≡◌, codes, Some, sym, ap, ◌∙◌}
use Rattle.serde_json.specs.Data.{object, put}
use Rattle.serde_json.specs.Find.{get_member}
use Rattle.trees.specs.Tree.{data_of}
use Rattle.objects.specs.declared.object.Draft.{Draft}
use Rattle.scripts.specs.RequestLine.{draft_metadata}
use Rattle.scripts.proofs.DraftValues.{value_printed}
use Rattle.scripts.proofs.draft_value.printed_draft.Goals as goal

pub returns : goal.returns
returns c =
    let d = c.args.draft.now in
    let metadata = c.in-Some-Map.metadata in
    let body : d.object.body ≡ object c.in-Map.members = sym (ap (λ (x : Draft). x.object.body) c.draft.view_is) ∙ ap data_of c.in-Map.is in
    let found : get_member (codes "metadata") c.in-Map.members ≡ Some (object metadata) = search rules in
    let full : c.in_ok-full.full ≡ draft_metadata d metadata = c.in_ok-full.ensures ∙ ap (draft_metadata d) (search rules) in
    let all : c.in_ok-clone-2.field-0 ≡ c.in-Map.members = search rules in
    ap object (c.in_ok-whole.ensures ∙ (λ j. put (codes "metadata") (object (full j)) (all j))) ∙ value_printed d c.in-Map.members metadata body found
