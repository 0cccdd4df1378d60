use Rattle.std.proofs.Common.{◌≡◌, List, ℕ, string_bytes, sym, subst, ◌∙◌}
use Rattle.objects.specs.declared.object.Object.{Object}
use Rattle.objects.specs.declared.printed.IndexedText.{IndexedText}
use Rattle.objects.specs.Seams.{IsIndexedText}
use Rattle.objects.specs.PrintedText.{object_of_text}
use Rattle.objects.proofs.PrintedTexts.{reads_as}
use Rattle.objects.proofs.printed.Printed.parts.Goals as goal

read : (o : Object) (s : IndexedText) (t : List ℕ) → IsIndexedText o s → t ≡ string_bytes s.text → object_of_text t ≡ o
read o s t indexed is = subst (λ u. object_of_text u ≡ o) (sym is) (reads_as o (string_bytes s.text) indexed.text)

pub returns-clause-header : goal.returns-clause-header
returns-clause-header c =
    let indexed = c.indexed-indexed.ensures in
    let is : c.as_bytes.result.now ≡ string_bytes c.indexed-indexed.result.now.text = c.as_bytes.ensures.value ∙ c.as_str.ensures.value in
    record {
      indexed = c.indexed-indexed.result.now;
      is = subst (λ (o : Object). IsIndexedText o c.indexed-indexed.result.now) (sym (read c.args.self.now c.indexed-indexed.result.now c.as_bytes.result.now indexed is)) indexed;
      text = sym is;
      utf8 = c.as_bytes.ensures.utf8;
      numbers = c.header_of.ensures;
    }

pub returns-clause-object : goal.returns-clause-object
returns-clause-object c = read c.args.self.now c.indexed-indexed.result.now c.as_bytes.result.now c.indexed-indexed.ensures (c.as_bytes.ensures.value ∙ c.as_str.ensures.value)
