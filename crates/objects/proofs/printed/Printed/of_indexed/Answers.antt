use Rattle.std.proofs.Common.{◌≡◌, string_bytes, sym, subst}
use Rattle.objects.specs.declared.object.Object.{Object}
use Rattle.objects.specs.declared.printed.IndexedText.{IndexedText}
use Rattle.objects.specs.Seams.{IsIndexedText}
use Rattle.objects.specs.PrintedText.{object_of_text}
use Rattle.objects.proofs.PrintedTexts.{reads_as}
use Rattle.objects.proofs.printed.Printed.of_indexed.Goals as goal

moved : (o : Object) (s t : IndexedText) → t ≡ s → IsIndexedText o s → IsIndexedText o t
moved o s t same h = subst (IsIndexedText o) (sym same) h

again : (o : Object) (s : IndexedText) → IsIndexedText o s → IsIndexedText (object_of_text (string_bytes s.text)) s
again o s h = subst (λ x. IsIndexedText x s) (sym (reads_as o (string_bytes s.text) h.text)) h

pub invariant_of-result : goal.invariant_of-result
invariant_of-result c = again c.requires.0 _ (moved c.requires.0 _ _ c.in_ok-new.ensures.ok c.requires.1)

pub returns : goal.returns
returns c = λ o h. reads_as o _ (moved o _ _ c.in_ok-new.ensures.ok h).text
