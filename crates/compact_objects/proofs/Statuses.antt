-- What a status request does, found from texts.
use Rattle.std.proofs.Common.{◌≡◌, ◌≢◌, ℕ, ◌<◌, ◌^◌, true, false, cond, bytes_eq, codes, List, ap}
use Rattle.objects.specs.declared.object.Draft.{Draft}
use Rattle.objects.specs.declared.object.Object.{Object}
use Rattle.objects.specs.declared.printed.IndexedText.{IndexedText}
use Rattle.objects.specs.Seams.{IsIndexedText, IsSpliced, status_text}
use Rattle.objects.specs.Status.{member_of, same_found}
use Rattle.objects.proofs.SplicedTexts.{ends_same, indexed_parts, spliced_indexed}
use Rattle.compact_objects.specs.declared.draft.CompactDraft.{CompactDraft}
use Rattle.requests.specs.Change.{stamp, updates}
use Rattle.requests.specs.Verdict.{status_unless_same, with_status_of}
use Rattle.requests.specs.declared.verdict.Verdict.TheVariants.{Same, Write}
use Rattle.compact_objects.specs.ReadFrom.{IsReadFrom}
use Rattle.compact_objects.specs.Writes.{IsWritten}
use Rattle.compact_objects.proofs.KnownDrafts.{canonical_told, integral_told, status_printable, status_told}

-- the text ends in the draft's status exactly if the object has it
pub same_status : (c : CompactDraft) (d : Draft) (o : Object) (s : IndexedText) (indexed : IsIndexedText o s) (some : s.version ≢ 0) (told : IsReadFrom c d) (end : List ℕ) → end ≡ status_text (member_of (codes "status") d.object.body)
    → bytes_eq (indexed_parts o s indexed some).rest end ≡ same_found (member_of (codes "status") o.body) (member_of (codes "status") d.object.body)
same_status c d o s indexed some told end is =
    let status = status_told c d told in
    let canonical = canonical_told (codes "status") c d told in
    let printable = status_printable _ canonical (integral_told (codes "status") c d told) in
    ends_same o s indexed some (member_of (codes "status") d.object.body) end (rw status printable) (rw status canonical) is

pub spliced_told : (c : CompactDraft) (d : Draft) (o : Object) (s new : IndexedText) (n : ℕ) (told : IsReadFrom c d) (end : List ℕ) → IsIndexedText o s → n < 2 ^ 64 → end ≡ status_text (member_of (codes "status") d.object.body) → IsSpliced s end n new
    → IsIndexedText (stamp (updates (with_status_of o d)) n) new
spliced_told c d o s new n told end indexed small is spliced =
    let status = status_told c d told in
    let canonical = canonical_told (codes "status") c d told in
    let printable = status_printable _ canonical (integral_told (codes "status") c d told) in
    spliced_indexed o s (member_of (codes "status") d.object.body) end n new indexed small (rw status printable) (rw status canonical) is spliced

pub status_unchanged : (o : Object) (d : Draft) → same_found (member_of (codes "status") o.body) (member_of (codes "status") d.object.body) ≡ true → status_unless_same o d ≡ Same o
status_unchanged o d same = ap (λ b. cond b (Same o) (Write (updates (with_status_of o d)))) same

pub written_status : (o : Object) (d : Draft) (n : ℕ) (p : Object) → same_found (member_of (codes "status") o.body) (member_of (codes "status") d.object.body) ≡ false → p ≡ stamp (updates (with_status_of o d)) n → IsWritten (status_unless_same o d) (with_status_of o d) n p
written_status o d n p apart is = (ap (λ b. cond b (Same o) (Write (updates (with_status_of o d)))) apart, is)
