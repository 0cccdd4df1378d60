-- A request that is printed reads back as itself.
use Rattle.std.proofs.Common.{◌≡◌, ℕ, ◌<◌, ◌^◌, ◌==◌, List, codes, decimal, length, Bool, true, false, Option, Some, None, option_map, Ok, Ordering, Less, Equal, Greater, refl, sym, ap, ◌∙◌, cond, arith, lt-ltb}
use Rattle.std.specs.Prelude.{bytes_eq}
use Rattle.std.specs.Cmp.Lexicographic.{slice_cmp}
use Rattle.std.specs.Ordering.{match_ordering, nat_cmp}
use Rattle.std.proofs.lemmas.Bool.{eqb-true}
use Rattle.std.proofs.lemmas.Bool.Decides.{nat_tests}
use Rattle.std.proofs.lemmas.Slice.Eq.{bytes_eq-Decides}
use Rattle.serde_json.specs.Data.{Data, Members, member, no_members, object, string}
use Rattle.serde_json.specs.Find.{get_member}
use Rattle.objects.specs.declared.kind.Kind.{Kind}
use Rattle.objects.specs.declared.object.Draft.{Draft}
use Rattle.objects.specs.Again.{text_unless_zero}
use Rattle.objects.specs.Key.{KeyParts, is_key}
use Rattle.objects.specs.Kind.{kind_name}
use Rattle.objects.specs.Names.{is_dns_label}
use Rattle.objects.specs.Reading.{collection_in, key_in, namespace_in}
use Rattle.objects.specs.Uid.{version_number}
use Rattle.objects.proofs.DraftAgain.{key_again, kind_again, label_some}
use Rattle.objects.proofs.UidRound.{length-decimal, version_number-decimal}
use Rattle.requests.specs.declared.request.Request.{Request}
use Rattle.requests.specs.declared.request.Request.TheVariants as request
use Rattle.plain.specs.declared.lines.request_error.RequestError.TheVariants as errors
use Rattle.plain.specs.RequestParts.{◌>>=◌, required, exact_in, exact_number, field_text, named_in, named_number, stored_number}
use Rattle.plain.specs.Requests.{request_in}
use Rattle.plain.specs.Verbs.{request_by, verb_in, verb_named}
use Rattle.plain.proofs.Readings.{compaction_read, deletion_read, list_read, of_create, of_get, of_status, of_update, part_read}
use Rattle.scripts.specs.RequestLine.{IsNotEmpty, IsReadable, IsReadableDraft, compaction_data, deletion_data, get_data, key_members, list_data, member_if, printed_draft, request_data, with_draft}
use Rattle.scripts.proofs.DraftBack.{draft_read}

-- ---- members that may be left out

abbrev AreApart : List ℕ → List ℕ → Type 0
AreApart k l = match_ordering (slice_cmp nat_cmp k l) true false true ≡ true

passed_by : {A : Type 0} (o : Ordering) (x y : A) → match_ordering o true false true ≡ true → match_ordering o x y x ≡ x
passed_by Less x y h = refl
passed_by Equal x y h = absurd cc
passed_by Greater x y h = refl

-- another member is ignored, whether it is there or not
passed : (k l : List ℕ) (o : Option (List ℕ)) (ms : Members) → AreApart k l → get_member k (member_if l o ms) ≡ get_member k ms
passed k l None ms h = refl
passed k l (Some s) ms h = passed_by (slice_cmp nat_cmp k l) (get_member k ms) (Some (string s)) h

found : (k : List ℕ) (o : Option (List ℕ)) (ms : Members) → slice_cmp nat_cmp k k ≡ Equal → get_member k ms ≡ None → get_member k (member_if k o ms) ≡ option_map string o
found k None ms same none = none
found k (Some s) ms same none = ap (λ r. match_ordering r (get_member k ms) (Some (string s)) (get_member k ms)) same

-- ---- parts of a request

optional_text : (o : Option (List ℕ)) → IsNotEmpty o → field_text (option_map string o) ≡ Ok o
optional_text None h = refl
optional_text (Some s) h = rw (lt-ltb 0 (length s) h) refl

-- the given text is read
field_read : (k : List ℕ) (o : Option (List ℕ)) (ms : Members) → get_member k ms ≡ option_map string o → IsNotEmpty o → field_text (get_member k ms) ≡ Ok o
field_read k o ms is given = ap field_text is ∙ optional_text o given

key_read : (ms : Members) (key : KeyParts) → get_member (codes "kind") ms ≡ Some (string (kind_name key.kind)) → get_member (codes "name") ms ≡ Some (string key.name)
    → get_member (codes "namespace") ms ≡ Some (string key.namespace) → is_key key ≡ true → key_in ms ≡ Ok key
unfolding key_in
key_read ms key kind name namespace right = rw (kind_again ms key.kind kind) (key_again ms key namespace name right)

namespace_read : (ms : Members) (namespace : List ℕ) → get_member (codes "namespace") ms ≡ Some (string namespace) → is_dns_label namespace ≡ true → namespace_in ms ≡ Ok namespace
unfolding namespace_in
namespace_read ms namespace said label = rw (said, lt-ltb 0 (length namespace) (label_some namespace label)) refl

collection_read : (ms : Members) (kind : Kind) (namespace : List ℕ) → get_member (codes "kind") ms ≡ Some (string (kind_name kind))
    → get_member (codes "namespace") ms ≡ Some (string namespace) → is_dns_label namespace ≡ true → collection_in ms ≡ Ok (kind, namespace)
unfolding collection_in
collection_read ms kind namespace named said label = rw (kind_again ms kind named, namespace_read ms namespace said label, label) refl

verb_read : (ms : Members) (name : List ℕ) → get_member (codes "do") ms ≡ Some (string name)
    → request_in (object ms) ≡ (required errors.UnknownVerb (verb_named name) >>= λ v. request_by v ms)
unfolding request_in verb_in
verb_read ms name said = rw said refl

-- ---- numbers

stored_read : (n : ℕ) → 0 < n → n < 2 ^ 64 → stored_number (decimal n) ≡ Ok n
stored_read n some small =
    let other : (n == 0) ≡ false = grind (arith, nat_tests) in
    rw (version_number-decimal n some small, other) refl

zero_number : version_number (codes "0") ≡ 0
unfolding version_number
zero_number = refl

-- the text of a resource version is not "0"
not_zero : (same : Bool) (n : ℕ) → 0 < n → n < 2 ^ 64 → bytes_eq (decimal n) (codes "0") ≡ same → same ≡ false
not_zero false n some small is = refl
not_zero true n some small is =
    let e = sym (version_number-decimal n some small) ∙ ap version_number ((bytes_eq-Decides (decimal n) (codes "0")).0 is) ∙ zero_number in absurd (omega (arith, some, e))

exact_read : (n : ℕ) → 0 < n → n < 2 ^ 64 → exact_number (Some (decimal n)) ≡ Ok n
exact_read n some small = rw (not_zero (bytes_eq (decimal n) (codes "0")) n some small refl) (stored_read n some small)

positive : (n : ℕ) → (n == 0) ≡ false → 0 < n
positive n h = grind (arith, nat_tests)

exact_by : (none : Bool) (n : ℕ) → (n == 0) ≡ none → n < 2 ^ 64 → (field_text (option_map string (cond none None (Some (decimal n)))) >>= exact_number) ≡ Ok n
exact_by true n is small = ap Ok (sym (eqb-true n 0 is))
exact_by false n is small =
    let some = positive n is in
    ap (λ r. r >>= exact_number) (optional_text (Some (decimal n)) (length-decimal n some small)) ∙ exact_read n some small

-- ---- the requests

abbrev object_members : List ℕ → Data → Members
object_members name o = member (codes "do") (string name) (member (codes "object") o no_members)

create_read : (d : Draft) → IsReadableDraft d → request_in (with_draft (codes "create") d) ≡ Ok (request.Create d)
create_read d h =
    let ms = object_members (codes "create") (printed_draft d) in
    verb_read ms (codes "create") refl ∙ part_read _ _ ms _ request.Create d (of_create ms) refl (draft_read d h)

update_read : (d : Draft) → IsReadableDraft d → request_in (with_draft (codes "update") d) ≡ Ok (request.Update d)
update_read d h =
    let ms = object_members (codes "update") (printed_draft d) in
    verb_read ms (codes "update") refl ∙ part_read _ _ ms _ request.Update d (of_update ms) refl (draft_read d h)

status_read : (d : Draft) → IsReadableDraft d → request_in (with_draft (codes "status") d) ≡ Ok (request.UpdateStatus d)
status_read d h =
    let ms = object_members (codes "status") (printed_draft d) in
    verb_read ms (codes "status") refl ∙ part_read _ _ ms _ request.UpdateStatus d (of_status ms) refl (draft_read d h)

get_read : (key : KeyParts) → is_key key ≡ true → request_in (get_data key) ≡ Ok (request.Get key)
get_read key right =
    let ms = member (codes "do") (string (codes "get")) (key_members key no_members) in
    verb_read ms (codes "get") refl ∙ part_read _ _ ms _ request.Get key (of_get ms) refl (key_read ms key refl refl refl right)

listing_read : (kind : Kind) (namespace : List ℕ) (exact : ℕ) → is_dns_label namespace ≡ true → exact < 2 ^ 64
    → request_in (list_data kind namespace exact) ≡ Ok (request.List kind namespace exact)
unfolding request_by
listing_read kind namespace exact label small =
    let version = text_unless_zero exact (decimal exact) in
    let rest = member_if (codes "resourceVersion") version no_members in
    let ms = member (codes "do") (string (codes "list")) (member (codes "kind") (string (kind_name kind)) (member (codes "namespace") (string namespace) rest)) in
    let said : exact_in ms ≡ Ok exact =
    ap (λ o. field_text o >>= exact_number) (found (codes "resourceVersion") version no_members refl refl) ∙ exact_by (exact == 0) exact refl small in
    verb_read ms (codes "list") refl
    ∙ list_read ms (kind, namespace) exact (collection_read ms kind namespace refl refl label) (sym said)

removal_read : (key : KeyParts) (uid version at : Option (List ℕ)) → is_key key ≡ true → IsNotEmpty uid → IsNotEmpty version → IsNotEmpty at
    → request_in (deletion_data key uid version at) ≡ Ok (request.Delete key uid version at)
unfolding request_by
removal_read key uid version at right uid_not_empty version_not_empty at_not_empty =
    let last = member_if (codes "uid") uid no_members in
    let behind = member_if (codes "resourceVersion") version last in
    let named = member (codes "do") (string (codes "delete")) (key_members key behind) in
    let ms = member_if (codes "at") at named in
    let no_time = passed (codes "at") (codes "resourceVersion") version last refl ∙ passed (codes "at") (codes "uid") uid no_members refl in
    let no_version = passed (codes "resourceVersion") (codes "uid") uid no_members refl in
    let uid_there = passed (codes "uid") (codes "at") at named refl ∙ passed (codes "uid") (codes "resourceVersion") version last refl ∙ found (codes "uid") uid no_members refl refl in
    let version_there = passed (codes "resourceVersion") (codes "at") at named refl ∙ found (codes "resourceVersion") version last refl no_version in
    verb_read ms (codes "delete") (passed (codes "do") (codes "at") at named refl)
    ∙ deletion_read ms key uid version at
    (key_read ms key (passed (codes "kind") (codes "at") at named refl) (passed (codes "name") (codes "at") at named refl) (passed (codes "namespace") (codes "at") at named refl) right)
    (field_read (codes "uid") uid ms uid_there uid_not_empty) (field_read (codes "resourceVersion") version ms version_there version_not_empty)
    (field_read (codes "at") at ms (found (codes "at") at named refl no_time) at_not_empty)

compact_read : (to : ℕ) → 0 < to → to < 2 ^ 64 → request_in (compaction_data to) ≡ Ok (request.Compact to)
unfolding request_by
compact_read to some small =
    let ms = member (codes "do") (string (codes "compact")) (member (codes "resourceVersion") (string (decimal to)) no_members) in
    let said : named_in ms ≡ Ok to = ap (λ r. r >>= named_number) (optional_text (Some (decimal to)) (length-decimal to some small)) ∙ stored_read to some small in
    verb_read ms (codes "compact") refl ∙ compaction_read ms to (sym said)

pub reads_back : (r : Request) → IsReadable r → request_in (request_data r) ≡ Ok r
reads_back (request.Create d) h = create_read d h
reads_back (request.Get key) h = get_read key h
reads_back (request.List kind namespace exact) h = listing_read kind namespace exact h.0 h.1
reads_back (request.Update d) h = update_read d h
reads_back (request.UpdateStatus d) h = status_read d h
reads_back (request.Delete key uid version at) h = removal_read key uid version at h.0 h.1 h.2 h.3
reads_back (request.Compact to) h = compact_read to h.0 h.1
