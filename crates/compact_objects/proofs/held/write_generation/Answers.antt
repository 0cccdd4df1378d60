use Rattle.std.proofs.Common.{◌++◌, codes, ap, ◌∙◌}
use Rattle.std.specs.Prelude.{decimal}
use Rattle.std.proofs.lemmas.Result.{on_ok_weaker}
use Rattle.compact_objects.proofs.Maps.{behind}
use Rattle.compact_objects.proofs.PlainTexts.{extended, generation_text}
use Rattle.compact_objects.proofs.held.write_generation.Goals as goal

pub returns : goal.returns
returns c =
    let old = c.args.out.now.items in
    let begun = c.extend_from_slice.new.self.items in
    on_ok_weaker c.extend_from_slice-2.result (λ last.
    behind old (codes ",\"generation\":") begun (decimal c.args.number) _ c.in_ok-extend_from_slice.ensures.items (last ∙ ap (λ t. begun ++ t) (c.as_bytes.ensures.value ∙ c.format.ensures.text))
    ∙ ap (λ t. old ++ t) (generation_text c.args.number c.if-number-eq0.false)) (extended c.extend_from_slice-2.result _ _ _ c.extend_from_slice-2.ensures.items)
