use Rattle.std.proofs.Common.{◌≡◌, subst, ap, ◌∙◌}
use Rattle.objects.specs.Kind.{kind_name, api_version}
use Rattle.objects.specs.Object.{IsBody}
use Rattle.objects.proofs.Bodies.{new_body_fits, new_body_is}
use Rattle.objects.proofs.object.Object.of.Goals as goal

pub invariant_of-result-2 : goal.invariant_of-result-2
invariant_of-result-2 c =
    let kind : c.key.inside.kind ≡ c.args.key.kind = cc in
    let same = new_body_is c.args.key.kind c.args.metadata c.args.members _ _ _ _ _
    (c.api_version.ensures ∙ ap api_version kind) (c.name.ensures ∙ ap kind_name kind)
    c.in_ok-versioned.ensures c.in_ok-named.ensures c.in_ok-whole.ensures in
    subst (IsBody c.args.key.kind) same (new_body_fits c.args.key.kind c.args.metadata c.args.members c.requires.unheld c.requires.fits)
