use Rattle.std.proofs.Common.{◌≡◌, ap, ◌∙◌}
use Rattle.std.specs.Prelude.{codes, unwrap_or}
use Rattle.serde_json.specs.Data.{object, no_members, put}
use Rattle.serde_json.specs.Find.{as_object}
use Rattle.objects.specs.Object.{ObjectParts, object_at}
use Rattle.objects.specs.Text.{full_metadata, printed}
use Rattle.participants.proofs.printed.printed.Goals as goal

pub returns : goal.returns
unfolding printed
returns c =
    let o = c.args.object.now in
    let members : c.in_ok-members.members ≡ unwrap_or (as_object o.body) no_members =
    c.in_ok-members.ensures ∙ ap (λ (p : ObjectParts). unwrap_or (as_object p.body) no_members) c.object.view_is in
    let full : c.in_ok-full.full ≡ full_metadata o (unwrap_or (object_at (codes "metadata") (unwrap_or (as_object o.body) no_members)) no_members) =
    c.in_ok-full.ensures ∙ ap (full_metadata o) (c.in_ok-metadata.ensures ∙ ap (λ ms. unwrap_or (object_at (codes "metadata") ms) no_members) members) in
    ap object (c.in_ok-whole.ensures ∙ (λ j. put (codes "metadata") (object (full j)) (members j)))
