use Rattle.std.proofs.Common.{string_bytes, sym, subst}
use Rattle.objects.specs.declared.object.Object.{Object}
use Rattle.objects.specs.declared.printed.IndexedText.{IndexedText}
use Rattle.objects.specs.Seams.{IsIndexedText}
use Rattle.objects.specs.PrintedText.{object_of_text}
use Rattle.objects.proofs.printed.Printed.indexed.Goals as goal

pub returns : goal.returns
returns c = subst (λ (o : Object). IsIndexedText o c.deref.result.now) c.self.view_is (subst (λ (s : IndexedText). IsIndexedText (object_of_text (string_bytes c.self.inside.indexed.value.text)) s) (sym c.deref.ensures) c.self.invariant)
