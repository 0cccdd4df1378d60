use Rattle.std.proofs.Common.{sym, subst, ap, ◌∙◌, List, ℕ}
use Rattle.objects.specs.Header.{IsHeader}
use Rattle.objects.specs.PrintedText.{object_of_text}
use Rattle.packed.proofs.packed.Packed.of.Goals as goal

pub invariant_of-result : goal.invariant_of-result
invariant_of-result c = record {
  header = subst (λ (t : List ℕ). IsHeader t c.parts.result.1) (c.parts.ensures.text ∙ sym c.requires.encoded) c.parts.ensures.header;
  base_length = rw c.requires.encoded c.requires.base;
  delta_length = rw c.requires.encoded c.requires.delta;
}

pub returns : goal.returns
returns c = ap object_of_text (c.requires.encoded ∙ sym c.parts.ensures.text) ∙ c.parts.ensures.object
