use Rattle.std.proofs.Common.{bytes_eq, ap, ◌∙◌}
use Rattle.objects.specs.Seams.{spec_text}
use Rattle.compact_objects.proofs.Specs.{same_as_given}
use Rattle.compact_objects.proofs.replacement.has_spec.Goals as goal

pub returns : goal.returns
returns c o value indexed known given canonical whole =
    c.is_spec.ensures value given ∙ ap (λ b. bytes_eq b (spec_text value)) (c.spec_bytes.ensures o indexed known) ∙ same_as_given o c.args.current.now value known canonical whole
