-- The text of a spec determines the spec.
use Rattle.std.proofs.Common.{◌≡◌, ℕ, List, length, drop, Bool, true, false, bytes_eq, codes, Option, Some, None, IfSome, refl, sym, ap, ◌∙◌, subst}
use Rattle.std.proofs.lemmas.Slice.Eq.{bytes_eq-Decides}
use Rattle.json.specs.Print.{ArePrintableOrBad}
use Rattle.serde_json.specs.Data.{Data}
use Rattle.serde_json.specs.Written.{compact_text, has_float}
use Rattle.trees.specs.Canonical.{IsCanonical}
use Rattle.trees.specs.Reading.{read_within}
use Rattle.trees.proofs.CanonicalText.{read_back_within}
use Rattle.trees.proofs.TextDepth.{text_depth}
use Rattle.objects.specs.declared.object.Object.{Object}
use Rattle.objects.specs.declared.printed.IndexedText.{IndexedText}
use Rattle.objects.specs.Seams.{IsCanonicalStatus, IsOpen, spec_text, spec_tokens}
use Rattle.objects.specs.Status.{member_of, same_found}
use Rattle.objects.proofs.ReplacedTexts.{same_spec, spec_canonical}
use Rattle.objects.proofs.SeamTexts.{printable_text}
use Rattle.objects.proofs.SplicedTexts.{apart_by, found_equal}
use Rattle.compact_objects.proofs.KnownDrafts.{spec_printable}

read_again : (d : Data) (t : List ℕ) → IsCanonical d → ArePrintableOrBad (spec_tokens (Some d)) → t ≡ compact_text d → read_within (length t) t ≡ Some d
read_again d t canonical printable is =
    subst (λ u. read_within (length u) u ≡ Some d) (sym is) (read_back_within (length (compact_text d)) d (compact_text d) canonical (printable_text d printable.1) (text_depth d))

spec_by_text : (a b : Option Data) → IsCanonicalStatus a → IsCanonicalStatus b → ArePrintableOrBad (spec_tokens a) → ArePrintableOrBad (spec_tokens b) → spec_text a ≡ spec_text b → a ≡ b
spec_by_text None None p q g h same = refl
spec_by_text None (Some e) p q g h same = absurd cc
spec_by_text (Some d) None p q g h same = absurd cc
spec_by_text (Some d) (Some e) p q g h same =
    let texts : compact_text d ≡ compact_text e = ap (drop 8) same in
    sym (read_again d (compact_text d) p g refl) ∙ read_again e (compact_text d) q h texts

same_by : (same : Bool) (a b : Option Data) → IsCanonicalStatus a → IsCanonicalStatus b → ArePrintableOrBad (spec_tokens a) → ArePrintableOrBad (spec_tokens b) → bytes_eq (spec_text a) (spec_text b) ≡ same → same ≡ same_found a b
same_by true a b p q g h is =
    let equal : a ≡ b = spec_by_text a b p q g h ((bytes_eq-Decides (spec_text a) (spec_text b)).0 is) in
    sym (subst (λ x. same_found a x ≡ true) equal (same_spec a g))
same_by false a b p q g h is =
    sym (apart_by (same_found a b) (λ same. let both : true ≡ false = sym ((bytes_eq-Decides (spec_text a) (spec_text b)).1 (ap spec_text (found_equal a b same))) ∙ is in absurd cc))

-- the bytes of the spec are those of the other exactly if the specs are the same
pub same_as_given : (o : Object) (s : IndexedText) (value : Option Data) → IsOpen o s → IsCanonicalStatus value → IfSome value (λ d. has_float d ≡ false)
    → bytes_eq (spec_text (member_of (codes "spec") o.body)) (spec_text value) ≡ same_found (member_of (codes "spec") o.body) value
same_as_given o s value known canonical whole =
    same_by _ (member_of (codes "spec") o.body) value (spec_canonical o s.version s.status s.spec known.spec) canonical known.spec.printable (spec_printable value canonical whole) refl
