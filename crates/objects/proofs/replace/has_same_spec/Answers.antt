use Rattle.std.proofs.Common.{bytes_eq, ap₂, ◌∙◌}
use Rattle.objects.proofs.ReplacedTexts.{same_texts}
use Rattle.objects.proofs.replace.has_same_spec.Goals as goal

pub returns : goal.returns
returns c = λ o p left known right.
    let told = right.known c.if-right-eq0.false c.if-right-eq0-2.false in
    c.eq.ensures ∙ ap₂ bytes_eq (c.spec_bytes.ensures o left known) (c.spec_bytes-2.ensures p right told) ∙ same_texts o p c.args.left.now c.args.right.now known told
