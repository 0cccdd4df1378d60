use Rattle.std.proofs.Common.{◌++◌, ◌∙◌, ◌∷◌, [], ap, refl}
use Rattle.outcome_lines.specs.ObjectWords.{all_named, lists_in, named}
use Rattle.outcome_lines.proofs.ByText.{adds_on}
use Rattle.outcome_lines.proofs.object_texts.add_named.Goals as goal

pub loop-text-preserved : goal.loop-text-preserved
loop-text-preserved c =
    adds_on (λ x. named c.args.name.now x.items ∷ []) (λ xs. all_named c.args.name.now (lists_in xs)) c.args.leaves.now c.loop-text.text-index (λ x ys. refl) c.text-item.result c.loop-text-test.true c.text-item.is
    (lists_in c.loop-text.texts.items) (lists_in c.add_text.new.texts.items) _ (c.in_ok-add_text.ensures ∙ ap (λ l. lists_in c.loop-text.texts.items ++ named c.args.name.now l ∷ []) c.as_slice.ensures.value)
    c.loop-text.invariant
