-- What an update leaves, found from its text at the next number.
use Rattle.std.proofs.Common.{◌≡◌, ◌≢◌, ℕ, ◌<◌, ◌^◌, List, ◌++◌, true, false, cond, codes, Option, Some, IfSome, option_map, string_bytes, sym, ap, ◌∙◌, subst}
use Rattle.json.specs.Print.{ArePrintableOrBad}
use Rattle.serde_json.specs.Data.{Data}
use Rattle.serde_json.specs.Written.{compact_text, has_float}
use Rattle.trees.specs.Same.{same_data}
use Rattle.objects.specs.declared.meta.Meta.{Meta}
use Rattle.objects.specs.declared.object.Draft.{Draft}
use Rattle.objects.specs.declared.object.Object.{Object}
use Rattle.objects.specs.declared.printed.IndexedText.{IndexedText}
use Rattle.objects.specs.Rewrites.{at_version, generation_after, meta_after, replaced, with_status}
use Rattle.objects.specs.Seams.{IsCanonicalStatus, IsIndexedText, IsOpen, status_text, status_tokens}
use Rattle.objects.specs.Status.{member_of, same_found, with_member}
use Rattle.objects.proofs.ReplacedTexts.{replaced_apart}
use Rattle.objects.proofs.SplicedTexts.{indexed_parts, status_canonical, status_of_seams}
use Rattle.compact_objects.specs.Drafts.{lent}
use Rattle.compact_objects.specs.declared.draft.CompactDraft.{CompactDraft}
use Rattle.compact_objects.specs.Texts.{with_meta}
use Rattle.requests.specs.Change.{stamp, updates}
use Rattle.requests.specs.Verdict.{has_status, updated}
use Rattle.requests.specs.declared.verdict.Verdict.TheVariants.{Same, Write}
use Rattle.compact_objects.specs.ReadFrom.{IsReadFrom}
use Rattle.compact_objects.specs.Writes.{IsUpdateOf}
use Rattle.compact_objects.proofs.KnownDrafts.{canonical_told, integral_told, spec_told, status_kind}

-- what an update makes of an object whose kind has a status
updated_is : (o : Object) (d : Draft) → has_status d.object.key.kind ≡ true → updated o d ≡ replaced o d.object
updated_is o d has =
    ap (λ h. record { key = d.object.key; meta = meta_after o d.object; body = cond h (with_member (codes "status") (member_of (codes "status") o.body) d.object.body) d.object.body }) has

-- the same at another number, as it is printed
pub printed_update : (o : Object) (d : Draft) (s : IndexedText) (indexed : IsIndexedText o s) (some : s.version ≢ 0) (meta : Meta) (n : ℕ) → has_status d.object.key.kind ≡ true
    → meta ≡ record { uid = o.meta.uid; revision = n; generation = generation_after o.meta.generation (same_found (member_of (codes "spec") o.body) (member_of (codes "spec") d.object.body)); deletion = o.meta.deletion }
    → with_status (indexed.seams some).seams.status (with_meta meta d.object) ≡ stamp (updates (updated o d)) n
printed_update o d s indexed some meta n has is =
    let at = indexed.seams some in
    ap (λ v. with_status v (with_meta meta d.object)) (sym (status_of_seams o at.front at.middle at.seams))
    ∙ ap (λ m. with_status (member_of (codes "status") o.body) (with_meta m d.object)) is
    ∙ ap (λ p. at_version p n) (sym (updated_is o d has))

-- a text that is not the old one with another version is that of another object
pub update_apart : (o : Object) (d : Draft) (s new : IndexedText) (indexed : IsIndexedText o s) (some : s.version ≢ 0) (n : ℕ) → IsOpen o s → has_status d.object.key.kind ≡ true → o.key ≡ d.object.key → n ≢ 0 → n < 2 ^ 64
    → IsIndexedText (stamp (updates (updated o d)) n) new
    → ((version : List ℕ) → string_bytes new.text ≡ (indexed_parts o s indexed some).front ++ (version ++ ((indexed_parts o s indexed some).middle ++ (indexed_parts o s indexed some).rest)) → ⊥)
    → same_data o.body (updated o d).body ≡ false
update_apart o d s new indexed some n known has key written small made differ =
    let is = updated_is o d has in
    ap (λ (p : Object). same_data o.body p.body) is
    ∙ replaced_apart o d.object s new indexed some n known key written small (subst (λ p. IsIndexedText (at_version p n) new) is made) differ

pub written_update : (o : Object) (d : Draft) (n : ℕ) (p : Object) → same_data o.body (updated o d).body ≡ false → p ≡ stamp (updates (updated o d)) n → IsUpdateOf o d n p
written_update o d n p apart is = (ap (λ b. cond b (Same o) (Write (updates (updated o d)))) apart, is)

-- the text of what an update with the draft makes, found from what was printed
pub update_indexed : (c : CompactDraft) (d : Draft) (told : IsReadFrom c d) (o : Object) (s new : IndexedText) (found : Option IndexedText) (indexed : IsIndexedText o s) (some : s.version ≢ 0) (meta : Meta) (n : ℕ) (end : List ℕ) → has_status c.key.kind ≡ true
    → ((value : Option Data) → lent c.spec ≡ option_map compact_text value → IsCanonicalStatus value → IfSome value (λ e. has_float e ≡ false)
    → meta ≡ record { uid = o.meta.uid; revision = n; generation = generation_after o.meta.generation (same_found (member_of (codes "spec") o.body) value); deletion = o.meta.deletion })
    → end ≡ (indexed_parts o s indexed some).rest
    → ((value : Option Data) → end ≡ status_text value → IsCanonicalStatus value → ArePrintableOrBad (status_tokens value) → IfSome found (λ t. IsIndexedText (with_status value (with_meta meta d.object)) t))
    → found ≡ Some new → IsIndexedText (stamp (updates (updated o d)) n) new
update_indexed c d told o s new found indexed some meta n end has knows ends made found_is =
    let at = indexed.seams some in
    let seams = at.seams in
    let spec = knows _ told.draft.spec_is (canonical_told (codes "spec") c d told) (integral_told (codes "spec") c d told) in
    let meta_is = spec
    ∙ ap (λ v. record { uid = o.meta.uid; revision = n; generation = generation_after o.meta.generation (same_found (member_of (codes "spec") o.body) v); deletion = o.meta.deletion }) (sym (spec_told c d told)) in
    let printed = made seams.status ends (status_canonical o at.front at.middle seams) seams.printable in
    subst (λ (p : Object). IsIndexedText p new) (printed_update o d s indexed some meta n (status_kind c d told has) meta_is)
    (subst (λ f. IfSome f (λ t. IsIndexedText (with_status seams.status (with_meta meta d.object)) t)) found_is printed)
