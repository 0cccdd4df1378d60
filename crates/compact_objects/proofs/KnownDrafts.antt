-- What a draft says of the object that it was read from.
use Rattle.std.proofs.Common.{◌≡◌, ℕ, List, [], ◌∷◌, true, false, Option, Some, None, Ok, IfSome, codes, refl, sym, ap, ◌∙◌}
use Rattle.std.specs.Prelude.{Result, Err, option_and_then}
use Rattle.json.specs.Print.{ArePrintableOrBad}
use Rattle.json.specs.Token.{end_object}
use Rattle.json.specs.Tree.{json_tokens}
use Rattle.serde_json.specs.Data.{Data, Members, object, put}
use Rattle.serde_json.specs.Find.{as_object, get_member}
use Rattle.serde_json.specs.Written.{has_float, outline}
use Rattle.serde_json.proofs.Views.{get_member-put_other}
use Rattle.objects.specs.Key.{KeyParts}
use Rattle.objects.specs.Kind.{api_version}
use Rattle.objects.specs.MetadataShape.{metadata_fits}
use Rattle.objects.specs.Object.{is_missing_or, without_held}
use Rattle.objects.specs.Reading.{DraftMeta, draft_in, draft_meta_in, draft_parts, key_of, kind_in}
use Rattle.objects.specs.Seams.{IsCanonicalStatus, spec_tokens, status_tokens}
use Rattle.objects.specs.Status.{member_of}
use Rattle.objects.specs.Steps.{◌>>=◌, guarded, required}
use Rattle.objects.specs.declared.fault.ReadError.{ReadError}
use Rattle.objects.specs.declared.fault.ReadError.TheVariants.{BadMeta, BadName, UnknownKind}
use Rattle.objects.specs.declared.key.Key.{Key}
use Rattle.objects.specs.declared.object.Draft.{Draft}
use Rattle.objects.proofs.BodyMembers.{member_of-integral}
use Rattle.objects.proofs.SeamTexts.{printable-append}
use Rattle.objects.proofs.SplicedTexts.{canonical_member}
use Rattle.compact_objects.specs.Drafts.{lent}
use Rattle.compact_objects.specs.declared.draft.CompactDraft.{CompactDraft}
use Rattle.requests.specs.Verdict.{has_status}
use Rattle.compact_objects.specs.ReadFrom.{IsReadFrom}
use Rattle.compact_objects.proofs.Printable.{writable}

-- ---- the body

ok_then : {A B : Type 0} (r : Result A ReadError) (f : A → Result B ReadError) (b : B) → (r >>= f) ≡ Ok b → (a : A) × (r ≡ Ok a) × (f a ≡ Ok b)
ok_then (Ok a) f b is = (a, refl, is)
ok_then (Err e) f b is = absurd cc

abbrev drafted : KeyParts → DraftMeta → Members → Members → Result Draft ReadError
drafted key s ms os = Ok (draft_parts key s ms os)

made_is : (key : KeyParts) (s : DraftMeta) (ms os : Members) (d : Draft) → drafted key s ms os ≡ Ok d → (m : Data) × (d.object.body ≡ object (put (codes "metadata") m os))
made_is key s ms os d is = let same : draft_parts key s ms os ≡ d = cc in (object (without_held ms), ap (λ (x : Draft). x.object.body) (sym same))

body_is : (os : Members) (d : Draft) → draft_in os ≡ Ok d → (m : Data) × (d.object.body ≡ object (put (codes "metadata") m os))
unfolding draft_in
body_is os d is =
    let named = ok_then (kind_in os) _ d is in
    let kind = ok_then (guarded UnknownKind (is_missing_or (api_version named.0) (get_member (codes "apiVersion") os)) named.0) _ d named.2 in
    let meta = ok_then (required BadName (option_and_then as_object (get_member (codes "metadata") os))) _ d kind.2 in
    let key = ok_then (key_of kind.0 meta.0) _ d meta.2 in
    let fits = ok_then (guarded BadMeta (metadata_fits meta.0) meta.0) _ d key.2 in
    let store = ok_then (draft_meta_in fits.0) _ d fits.2 in
    made_is key.0 store.0 meta.0 os d store.2

-- each member but the metadata is in the body as it was read
pub member_told : (k : List ℕ) (c : CompactDraft) (d : Draft) (told : IsReadFrom c d) → (k ≡ codes "metadata" → ⊥) → member_of k d.object.body ≡ get_member k told.members
member_told k c d told other =
    let b = body_is told.members d told.reads in
    ap (member_of k) b.1 ∙ get_member-put_other k (codes "metadata") b.0 told.members other

pub spec_told : (c : CompactDraft) (d : Draft) (told : IsReadFrom c d) → member_of (codes "spec") d.object.body ≡ get_member (codes "spec") told.members
spec_told c d told = member_told (codes "spec") c d told (λ same. absurd cc)

pub status_told : (c : CompactDraft) (d : Draft) (told : IsReadFrom c d) → member_of (codes "status") d.object.body ≡ get_member (codes "status") told.members
status_told c d told = member_told (codes "status") c d told (λ same. absurd cc)

pub canonical_told : (k : List ℕ) (c : CompactDraft) (d : Draft) (told : IsReadFrom c d) → IsCanonicalStatus (get_member k told.members)
canonical_told k c d told = canonical_member k told.members (get_member k told.members) told.canonical.1 refl

pub integral_told : (k : List ℕ) (c : CompactDraft) (d : Draft) (told : IsReadFrom c d) → IfSome (get_member k told.members) (λ e. has_float e ≡ false)
integral_told k c d told = member_of-integral k (object told.members) told.integral

pub status_printable : (value : Option Data) → IsCanonicalStatus value → IfSome value (λ d. has_float d ≡ false) → ArePrintableOrBad (status_tokens value)
status_printable None canonical whole = (tt, tt)
status_printable (Some d) canonical whole = (tt, printable-append (json_tokens (outline d)) (end_object ∷ []) (writable d canonical whole) (tt, tt))

pub spec_printable : (value : Option Data) → IsCanonicalStatus value → IfSome value (λ d. has_float d ≡ false) → ArePrintableOrBad (spec_tokens value)
spec_printable None canonical whole = tt
spec_printable (Some d) canonical whole = (tt, writable d canonical whole)

-- ---- the key, the UID and the version

same_draft : (c : CompactDraft) (d : Draft) (told : IsReadFrom c d) → told.draft.read_as.draft ≡ d
same_draft c d told = let e = sym told.draft.read_as.reads ∙ told.reads in cc

pub key_told : (c : CompactDraft) (d : Draft) → IsReadFrom c d → d.object.key ≡ c.key
key_told c d told = ap (λ (x : Draft). x.object.key) (sym (same_draft c d told)) ∙ told.draft.read_as.key_is

pub uid_told : (c : CompactDraft) (d : Draft) → IsReadFrom c d → d.uid ≡ lent c.uid
uid_told c d told = ap (λ (x : Draft). x.uid) (sym (same_draft c d told)) ∙ told.draft.read_as.uid_is

pub version_told : (c : CompactDraft) (d : Draft) → IsReadFrom c d → d.version ≡ lent c.version
version_told c d told = ap (λ (x : Draft). x.version) (sym (same_draft c d told)) ∙ told.draft.read_as.version_is

-- the kind of the draft's key has a status
pub status_kind : (c : CompactDraft) (d : Draft) → IsReadFrom c d → has_status c.key.kind ≡ true → has_status d.object.key.kind ≡ true
status_kind c d told has = ap (λ (k : Key). has_status k.kind) (key_told c d told) ∙ has
