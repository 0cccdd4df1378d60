use Rattle.std.proofs.Common.{◌≡◌, length, ap, ◌∙◌, ◌∷◌, arith}
use Rattle.compact_objects.proofs.Merging.{has_first}
use Rattle.compact_objects.proofs.merge.first_text.Goals as goal

pub returns-in-Some : goal.returns-in-Some
returns-in-Some c ms key value left entries is are f =
    let h = has_first ms key value c.args.fields.left.now left c.args.fields.entries.now entries c.in-Some.entry.now is are f c.in-Some.ensures.value in
    let ends : length h.text ≡ c.saturating_sub.result = omega (arith, h.size_is, c.saturating_sub.ensures) in
    ap (λ t. 44 ∷ t) (c.front_of.ensures h.text h.back h.is ends) ∙ h.text_is
