-- What an update makes of an object, found from texts.
use Rattle.std.proofs.Common.{◌≡◌, ◌≢◌, ℕ, ◌+◌, ◌-◌, ◌≤◌, ◌<◌, ◌^◌, List, ◌++◌, length, take, drop, Bool, true, false, bytes_eq, codes, Option, Some, None, IfSome, string_bytes, refl, sym, ap, ◌∙◌, subst, append_assoc, length-append, arith}
use Rattle.std.proofs.Math.Seq.{take-append_seam, drop-append_seam}
use Rattle.std.proofs.lemmas.Slice.Eq.{bytes_eq-Decides}
use Rattle.json.specs.Print.{ArePrintableOrBad}
use Rattle.serde_json.specs.Data.{Data}
use Rattle.serde_json.specs.Written.{compact_text}
use Rattle.trees.specs.Members.{set_member}
use Rattle.trees.specs.Canonical.{IsCanonical, AreCanonicalMembers}
use Rattle.trees.specs.Same.{same_data}
use Rattle.trees.specs.Reading.{read_within}
use Rattle.trees.specs.Tree.{AreAscending}
use Rattle.trees.proofs.CanonicalText.{read_back_within}
use Rattle.trees.proofs.Sameness.{same-itself, same-equal}
use Rattle.trees.proofs.TextDepth.{text_depth}
use Rattle.trees.proofs.IntegralTokens.{no_float_printable}
use Rattle.objects.specs.declared.object.Object.{Object}
use Rattle.objects.specs.declared.printed.IndexedText.{IndexedText}
use Rattle.objects.specs.Seams.{IsOpen, IsCanonicalStatus, IsIndexedText, IsSpecAt, IsSpliced, spec_text, spec_tokens, version_text}
use Rattle.objects.specs.Key.{KeyParts as Key}
use Rattle.objects.specs.Rewrites.{at_version, generation_after, meta_after, replaced, with_status}
use Rattle.objects.specs.Status.{member_of, same_found}
use Rattle.objects.specs.Text.{text}
use Rattle.objects.proofs.BodyMembers.{member_of-with_other}
use Rattle.objects.proofs.SeamTexts.{printable_text}
use Rattle.objects.proofs.SplicedTexts.{apart_by, found_equal, parts_at, canonical_member, indexed_parts, spliced_indexed, status_of_seams, status_canonical}

-- ---- the bytes of the spec

-- a list between others
pub between : (t lead part rest : List ℕ) (begin end : ℕ) → t ≡ lead ++ (part ++ rest) → begin ≡ length lead → end ≡ length lead + length part → take (end - begin) (drop begin t) ≡ part
between t lead part rest begin end is here there =
    let left : end - begin ≡ length part = omega (arith, here, there) in
    rw (left, here, is) (ap (take (length part)) (drop-append_seam lead (part ++ rest)) ∙ take-append_seam part rest)

-- where the spec is in the text of an indexed text
pub record IsSpecIn (o : Object) (s : IndexedText) : Type 0 where
  pub lead : List ℕ
  pub rest : List ℕ
  pub text : string_bytes s.text ≡ lead ++ (spec_text (member_of (codes "spec") o.body) ++ rest)
  pub size : s.spec ≡ length (spec_text (member_of (codes "spec") o.body))
  pub status : s.status ≡ length lead + length (spec_text (member_of (codes "spec") o.body))

pub spec_in : (o : Object) (s : IndexedText) → IsIndexedText o s → IsOpen o s → IsSpecIn o s
spec_in o s indexed known =
    let spec = known.spec in
    let parts = parts_at o s indexed spec.at in
    let bytes = spec_text (member_of (codes "spec") o.body) in
    let version = version_text s.revision in
    let lead = parts.front ++ (version ++ spec.before) in
    record {
      lead = lead;
      rest = parts.rest;
      text = parts.text ∙ ap (λ m. parts.front ++ (version ++ (m ++ parts.rest))) spec.middle
          ∙ ap (λ x. parts.front ++ (version ++ x)) (append_assoc spec.before bytes parts.rest)
          ∙ ap (λ x. parts.front ++ x) (sym (append_assoc version spec.before (bytes ++ parts.rest)))
          ∙ sym (append_assoc parts.front (version ++ spec.before) (bytes ++ parts.rest));
      size = spec.size;
      status = parts.status_at ∙ ap (λ m. length (parts.front ++ (version ++ m))) spec.middle
          ∙ ap (λ x. length (parts.front ++ x)) (sym (append_assoc version spec.before bytes))
          ∙ ap length (sym (append_assoc parts.front (version ++ spec.before) bytes))
          ∙ length-append lead bytes;
    }

pub spec_taken : (o : Object) (s : IndexedText) → IsSpecIn o s → take (s.status - (s.status - s.spec)) (drop (s.status - s.spec) (string_bytes s.text)) ≡ spec_text (member_of (codes "spec") o.body)
spec_taken o s h =
    let here : s.status - s.spec ≡ length h.lead = omega (arith, h.size, h.status) in
    between (string_bytes s.text) h.lead (spec_text (member_of (codes "spec") o.body)) h.rest (s.status - s.spec) s.status h.text here h.status

pub spec_fits : (o : Object) (s : IndexedText) → IsSpecIn o s → (s.spec ≤ s.status) × (s.status ≤ length (string_bytes s.text))
spec_fits o s h =
    let bytes = spec_text (member_of (codes "spec") o.body) in
    let whole : length (string_bytes s.text) ≡ length h.lead + (length bytes + length h.rest) =
    ap length h.text ∙ length-append h.lead (bytes ++ h.rest) ∙ ap (λ n. length h.lead + n) (length-append bytes h.rest) in
    (omega (arith, h.size, h.status), omega (arith, h.status, whole))

-- ---- the text of a spec determines it

read_again : (d : Data) (t : List ℕ) → IsCanonical d → ArePrintableOrBad (spec_tokens (Some d)) → t ≡ compact_text d → read_within (length t) t ≡ Some d
read_again d t canonical printable is =
    subst (λ u. read_within (length u) u ≡ Some d) (sym is) (read_back_within (length (compact_text d)) d (compact_text d) canonical (printable_text d printable.1) (text_depth d))

spec_by_text : (a b : Option Data) → IsCanonicalStatus a → IsCanonicalStatus b → ArePrintableOrBad (spec_tokens a) → ArePrintableOrBad (spec_tokens b) → spec_text a ≡ spec_text b → a ≡ b
spec_by_text None None p q g h same = refl
spec_by_text None (Some e) p q g h same = absurd cc
spec_by_text (Some d) None p q g h same = absurd cc
spec_by_text (Some d) (Some e) p q g h same =
    let texts : compact_text d ≡ compact_text e = ap (drop 8) same in
    sym (read_again d (compact_text d) p g refl) ∙ read_again e (compact_text d) q h texts

pub same_spec : (a : Option Data) → ArePrintableOrBad (spec_tokens a) → same_found a a ≡ true
same_spec None h = refl
same_spec (Some d) h = same-itself d (no_float_printable d h.1)

pub spec_canonical : (o : Object) (version status size : ℕ) → IsSpecAt o version status size → IsCanonicalStatus (member_of (codes "spec") o.body)
spec_canonical o version status size spec =
    let seams = spec.at.seams in
    let now = set_member (codes "status") seams.status seams.others in
    let canonical : AreAscending now × AreCanonicalMembers now = subst IsCanonical seams.body seams.canonical in
    canonical_member (codes "spec") now (member_of (codes "spec") o.body) canonical.1 (sym (ap (member_of (codes "spec")) seams.body))

same_texts_by : (same : Bool) (a b : Option Data) → IsCanonicalStatus a → IsCanonicalStatus b → ArePrintableOrBad (spec_tokens a) → ArePrintableOrBad (spec_tokens b) → bytes_eq (spec_text a) (spec_text b) ≡ same → same ≡ same_found a b
same_texts_by true a b p q g h is =
    let equal : a ≡ b = spec_by_text a b p q g h ((bytes_eq-Decides (spec_text a) (spec_text b)).0 is) in
    sym (subst (λ x. same_found a x ≡ true) equal (same_spec a g))
same_texts_by false a b p q g h is =
    sym (apart_by (same_found a b) (λ same. let both : true ≡ false = sym ((bytes_eq-Decides (spec_text a) (spec_text b)).1 (ap spec_text (found_equal a b same))) ∙ is in absurd cc))

-- the texts of two specs are the same exactly if the specs are
pub same_texts : (o p : Object) (s t : IndexedText) → IsOpen o s → IsOpen p t
    → bytes_eq (spec_text (member_of (codes "spec") o.body)) (spec_text (member_of (codes "spec") p.body)) ≡ same_found (member_of (codes "spec") o.body) (member_of (codes "spec") p.body)
same_texts o p s t left right =
    same_texts_by _ (member_of (codes "spec") o.body) (member_of (codes "spec") p.body) (spec_canonical o s.version s.status s.spec left.spec) (spec_canonical p t.version t.status t.spec right.spec) left.spec.printable right.spec.printable refl

-- ---- the object that replaces the other

-- the text with the status of the other is that of what the update makes, at another number
pub replaced_indexed : (o u p : Object) (found : Option Object) (s t new : IndexedText) (made : Option IndexedText) (end : List ℕ) (n : ℕ) (indexed : IsIndexedText o s) → IfSome found (λ (q : Object). q ≡ record { key = u.key; meta = meta_after o u; body = u.body }) → found ≡ Some p
    → IsIndexedText p t → (some : s.version ≢ 0) → n < 2 ^ 64 → end ≡ (indexed_parts o s indexed some).rest → IfSome made (IsSpliced t end n) → made ≡ Some new → IsIndexedText (at_version (replaced o u) n) new
replaced_indexed o u p found s t new made end n indexed told found_is printed some small ends spliced made_is =
    let at = indexed.seams some in
    let seams = at.seams in
    let own : Object = record { key = u.key; meta = meta_after o u; body = u.body } in
    let own_indexed : IsIndexedText own t = subst (λ q. IsIndexedText q t) (subst (λ f. IfSome f (λ q. q ≡ own)) found_is told) printed in
    let h : IsSpliced t end n new = subst (λ f. IfSome f (IsSpliced t end n)) made_is spliced in
    subst (λ v. IsIndexedText (at_version (with_status v own) n) new) (sym (status_of_seams o at.front at.middle seams))
    (spliced_indexed own t seams.status end n new own_indexed small seams.printable (status_canonical o at.front at.middle seams) ends h)

as_it_was : (o : Object) (k : Key) (g : ℕ) (b : Data) → o.key ≡ k → g ≡ o.meta.generation → o.body ≡ b
    → record { key = k; meta = record { uid = o.meta.uid; revision = o.meta.revision; generation = g; deletion = o.meta.deletion }; body = b } ≡ o
as_it_was o k g b key generation body = rw (generation, sym key, sym body) refl

-- with the same key and body, it is as it was
replaced_same : (o u : Object) (s : IndexedText) → IsOpen o s → o.key ≡ u.key → o.body ≡ (replaced o u).body → replaced o u ≡ o
replaced_same o u s known key body =
    let status = member_of (codes "status") o.body in
    let spec : member_of (codes "spec") o.body ≡ member_of (codes "spec") u.body = ap (member_of (codes "spec")) body ∙ member_of-with_other (codes "spec") (codes "status") status u.body (λ same. absurd cc) in
    let told : same_found (member_of (codes "spec") o.body) (member_of (codes "spec") u.body) ≡ true = subst (λ x. same_found (member_of (codes "spec") o.body) x ≡ true) spec (same_spec (member_of (codes "spec") o.body) known.spec.printable) in
    as_it_was o u.key _ _ key (ap (generation_after o.meta.generation) told) body

-- the text of an object at another number
text_at : (o : Object) (s : IndexedText) (indexed : IsIndexedText o s) (some : s.version ≢ 0) (n : ℕ) → n ≢ 0 → n < 2 ^ 64
    → text (at_version o n) ≡ (indexed_parts o s indexed some).front ++ (version_text n ++ ((indexed_parts o s indexed some).middle ++ (indexed_parts o s indexed some).rest))
text_at o s indexed some n written small =
    let seams = (indexed.seams some).seams in
    ap (λ b. text (at_version (record { key = o.key; meta = o.meta; body = b }) n)) seams.body ∙ seams.texts n seams.status written small

-- a text that is not the old one with another version is that of another body
pub replaced_apart : (o u : Object) (s new : IndexedText) (indexed : IsIndexedText o s) (some : s.version ≢ 0) (n : ℕ) → IsOpen o s → o.key ≡ u.key → n ≢ 0 → n < 2 ^ 64 → IsIndexedText (at_version (replaced o u) n) new
    → ((version : List ℕ) → string_bytes new.text ≡ (indexed_parts o s indexed some).front ++ (version ++ ((indexed_parts o s indexed some).middle ++ (indexed_parts o s indexed some).rest)) → ⊥)
    → same_data o.body (replaced o u).body ≡ false
replaced_apart o u s new indexed some n known key written small made differ = apart_by _ (λ same.
    let whole : replaced o u ≡ o = replaced_same o u s known key (same-equal o.body (replaced o u).body same) in
    differ (version_text n) (made.text.text ∙ ap (λ p. text (at_version p n)) whole ∙ text_at o s indexed some n written small))
