-- A request that was read from a value is one that is printed so that it reads back.
use Rattle.std.proofs.Common.{◌≡◌, ℕ, ◌<◌, ◌^◌, ◌==◌, List, codes, Bool, true, false, Option, Some, None, Result, Ok, Err, refl, sym, ap, ◌∙◌, cond, arith, subst}
use Rattle.std.specs.Prelude.{bytes_eq, option_and_then}
use Rattle.std.proofs.lemmas.Bool.Decides.{nat_tests}
use Rattle.std.proofs.lemmas.Slice.Eq.{bytes_eq-Decides}
use Rattle.serde_json.specs.Data.{Data, null, boolean, number, string, array, object, Members}
use Rattle.serde_json.specs.Find.{as_object, as_str, get_member}
use Rattle.trees.specs.Canonical.{IsCanonical, AreCanonicalMembers}
use Rattle.trees.proofs.PutOrder.{canonical_found}
use Rattle.objects.specs.declared.fault.ReadError.{ReadError}
use Rattle.objects.specs.declared.fault.ReadError.TheVariants.{BadName}
use Rattle.objects.specs.declared.kind.Kind.{Kind}
use Rattle.objects.specs.declared.object.Draft.{Draft}
use Rattle.objects.specs.Key.{KeyParts, is_key}
use Rattle.objects.specs.Names.{is_dns_label}
use Rattle.objects.specs.Reading.{collection_in, key_in, key_of, kind_in, namespace_in, unless_empty}
use Rattle.objects.specs.Uid.{version_number}
use Rattle.objects.proofs.Bodies.{is_object}
use Rattle.requests.specs.declared.request.Request.{Request}
use Rattle.requests.specs.declared.request.Request.TheVariants as request
use Rattle.plain.specs.declared.lines.request_error.RequestError.{RequestError}
use Rattle.plain.specs.declared.lines.request_error.RequestError.TheVariants as errors
use Rattle.plain.specs.RequestParts.{◌>>=◌, compaction_in, deletion_in, exact_in, exact_number, field_text, lifted, list_in, named_in, named_number, object_draft, required, stored_number, version_field}
use Rattle.plain.specs.Requests.{request_in}
use Rattle.plain.specs.Verbs.{request_by, verb_in, verb_named}
use Rattle.scripts.specs.RequestLine.{IsNotEmpty, IsReadable, IsReadableDraft}
use Rattle.scripts.proofs.ReadDrafts.{gave, guard_held, key_is, not_empty, read_readable, version_below, was_there}

lifted_gave : {A : Type 0} (r : Result A ReadError) (x : A) → lifted r ≡ Ok x → r ≡ Ok x
lifted_gave (Ok y) x h = ap Ok cc
lifted_gave (Err e) x h = absurd cc

-- ---- the parts

key_given : (ms : Members) (key : KeyParts) → lifted (key_in ms) ≡ Ok key → is_key key ≡ true
unfolding key_in
key_given ms key h =
    let kind = gave (kind_in ms) (λ kind. key_of kind ms) key (lifted_gave (key_in ms) key h) in
    (key_is kind.0 ms key kind.2).1

collection_given : (ms : Members) (c : Kind × List ℕ) → lifted (collection_in ms) ≡ Ok c → is_dns_label c.1 ≡ true
unfolding collection_in
collection_given ms c h =
    let kind = gave (kind_in ms) _ c (lifted_gave (collection_in ms) c h) in
    let namespace = gave (namespace_in ms) _ c kind.2 in
    let held = guard_held BadName (is_dns_label namespace.0) (kind.0, namespace.0) c namespace.2 in
    subst (λ (x : Kind × List ℕ). is_dns_label x.1 ≡ true) held.1 held.0

field_given : (o : Option Data) (t : Option (List ℕ)) → field_text o ≡ Ok t → IsNotEmpty t
field_given None t h = let is : None ≡ t = cc in subst IsNotEmpty is tt
field_given (Some null) t h = let is : None ≡ t = cc in subst IsNotEmpty is tt
field_given (Some (string s)) t h = let is : unless_empty (Some s) ≡ t = cc in subst IsNotEmpty is (not_empty (Some s))
field_given (Some (boolean b)) t h = absurd cc
field_given (Some (number n)) t h = absurd cc
field_given (Some (array ds)) t h = absurd cc
field_given (Some (object ms)) t h = absurd cc

stored_at : (none : Bool) (m n : ℕ) → (m == 0) ≡ none → m < 2 ^ 64 → cond none (Err errors.BadField) (Ok m) ≡ Ok n → (0 < n) × (n < 2 ^ 64)
stored_at true m n is small h = absurd cc
stored_at false m n is small h =
    let same : m ≡ n = cc in
    let some : 0 < m = grind (arith, nat_tests) in
    subst (λ x. (0 < x) × (x < 2 ^ 64)) same (some, small)

stored_given : (s : List ℕ) (n : ℕ) → stored_number s ≡ Ok n → (0 < n) × (n < 2 ^ 64)
stored_given s n h = stored_at (version_number s == 0) (version_number s) n refl (version_below s) h

zero_given : (n : ℕ) (r : Result ℕ RequestError) → r ≡ Ok 0 → r ≡ Ok n → n < 2 ^ 64
zero_given n r zero h = let is : 0 ≡ n = cc in subst (λ x. x < 2 ^ 64) is (omega arith)

exact_at : (zero : Bool) (s : List ℕ) (n : ℕ) → cond zero (Ok 0) (stored_number s) ≡ Ok n → n < 2 ^ 64
exact_at true s n h = zero_given n _ refl h
exact_at false s n h = (stored_given s n h).1

exact_given : (t : Option (List ℕ)) (n : ℕ) → exact_number t ≡ Ok n → n < 2 ^ 64
exact_given None n h = zero_given n _ refl h
exact_given (Some s) n h = exact_at (bytes_eq s (codes "0")) s n h

named_given : (t : Option (List ℕ)) (n : ℕ) → named_number t ≡ Ok n → (0 < n) × (n < 2 ^ 64)
named_given None n h = absurd cc
named_given (Some s) n h = stored_given s n h

object_given : (o : Option Data) (d : Draft) → ((v : Data) → o ≡ Some v → IsCanonical v) → object_draft o ≡ Ok d → IsReadableDraft d
object_given None d canonical h = absurd cc
object_given (Some v) d canonical h = read_readable v d (canonical v refl) h

-- ---- the requests

draft_given : (make : Draft → Request) (ms : Members) (r : Request) → AreCanonicalMembers ms
    → (lifted (object_draft (get_member (codes "object") ms)) >>= λ d. Ok (make d)) ≡ Ok r → (d : Draft) × (make d ≡ r) × IsReadableDraft d
draft_given make ms r canonical h =
    let read = object_draft (get_member (codes "object") ms) in
    let draft = gave (lifted read) (λ d. Ok (make d)) r h in
    let is : make draft.0 ≡ r = cc in
    (draft.0, is, object_given (get_member (codes "object") ms) draft.0 (λ v there. canonical_found (codes "object") v ms canonical there) (lifted_gave read draft.0 draft.1))

listing_given : (ms : Members) (r : Request) → list_in ms ≡ Ok r → IsReadable r
unfolding list_in
listing_given ms r h =
    let collection = gave (lifted (collection_in ms)) _ r h in
    let exact = gave (exact_in ms) _ r collection.2 in
    let number = gave (version_field ms) exact_number exact.0 exact.1 in
    let is : request.List collection.0.0 collection.0.1 exact.0 ≡ r = cc in
    subst IsReadable is (collection_given ms collection.0 collection.1, exact_given number.0 exact.0 number.2)

removal_given : (ms : Members) (r : Request) → deletion_in ms ≡ Ok r → IsReadable r
unfolding deletion_in
removal_given ms r h =
    let key = gave (lifted (key_in ms)) _ r h in
    let uid = gave (field_text (get_member (codes "uid") ms)) _ r key.2 in
    let version = gave (version_field ms) _ r uid.2 in
    let at = gave (field_text (get_member (codes "at") ms)) _ r version.2 in
    let is : request.Delete key.0 uid.0 version.0 at.0 ≡ r = cc in
    subst IsReadable is (
      key_given ms key.0 key.1,
      field_given (get_member (codes "uid") ms) uid.0 uid.1,
      field_given (get_member (codes "resourceVersion") ms) version.0 version.1,
      field_given (get_member (codes "at") ms) at.0 at.1,
    )

compact_given : (ms : Members) (r : Request) → compaction_in ms ≡ Ok r → IsReadable r
unfolding compaction_in
compact_given ms r h =
    let to = gave (named_in ms) _ r h in
    let number = gave (version_field ms) named_number to.0 to.1 in
    let is : request.Compact to.0 ≡ r = cc in
    subst IsReadable is (named_given number.0 to.0 number.2)

-- the request of that name
abbrev named : List ℕ → Members → Result Request RequestError
named s ms = required errors.UnknownVerb (verb_named s) >>= λ v. request_by v ms

abbrev IsGivenBy : List ℕ → Type 0
IsGivenBy s = (ms : Members) (r : Request) → AreCanonicalMembers ms → named s ms ≡ Ok r → IsReadable r

create_given : IsGivenBy (codes "create")
unfolding request_by
create_given ms r canonical h = let d = draft_given request.Create ms r canonical h in subst IsReadable d.1 d.2

get_given : IsGivenBy (codes "get")
unfolding request_by
get_given ms r canonical h =
    let key = gave (lifted (key_in ms)) (λ k. Ok (request.Get k)) r h in
    let is : request.Get key.0 ≡ r = cc in subst IsReadable is (key_given ms key.0 key.1)

list_given : IsGivenBy (codes "list")
unfolding request_by
list_given ms r canonical h = listing_given ms r h

update_given : IsGivenBy (codes "update")
unfolding request_by
update_given ms r canonical h = let d = draft_given request.Update ms r canonical h in subst IsReadable d.1 d.2

status_given : IsGivenBy (codes "status")
unfolding request_by
status_given ms r canonical h = let d = draft_given request.UpdateStatus ms r canonical h in subst IsReadable d.1 d.2

delete_given : IsGivenBy (codes "delete")
unfolding request_by
delete_given ms r canonical h = removal_given ms r h

compaction_given : IsGivenBy (codes "compact")
unfolding request_by
compaction_given ms r canonical h = compact_given ms r h

given_as : (name s : List ℕ) → bytes_eq s name ≡ true → IsGivenBy name → IsGivenBy s
given_as name s is given = subst IsGivenBy (sym ((bytes_eq-Decides s name).0 is)) given

no_name : (s : List ℕ) (ms : Members) (r : Request) → verb_named s ≡ None → named s ms ≡ Ok r → ⊥
no_name s ms r none h = let e : Err errors.UnknownVerb ≡ Ok r = ap (λ o. required errors.UnknownVerb o >>= λ v. request_by v ms) (sym none) ∙ h in cc

given_by : (a b c d e f g : Bool) (s : List ℕ) → bytes_eq s (codes "create") ≡ a → bytes_eq s (codes "get") ≡ b → bytes_eq s (codes "list") ≡ c → bytes_eq s (codes "update") ≡ d → bytes_eq s (codes "status") ≡ e → bytes_eq s (codes "delete") ≡ f → bytes_eq s (codes "compact") ≡ g → IsGivenBy s
given_by true b c d e f g s h0 h1 h2 h3 h4 h5 h6 = given_as (codes "create") s h0 create_given
given_by false true c d e f g s h0 h1 h2 h3 h4 h5 h6 = given_as (codes "get") s h1 get_given
given_by false false true d e f g s h0 h1 h2 h3 h4 h5 h6 = given_as (codes "list") s h2 list_given
given_by false false false true e f g s h0 h1 h2 h3 h4 h5 h6 = given_as (codes "update") s h3 update_given
given_by false false false false true f g s h0 h1 h2 h3 h4 h5 h6 = given_as (codes "status") s h4 status_given
given_by false false false false false true g s h0 h1 h2 h3 h4 h5 h6 = given_as (codes "delete") s h5 delete_given
given_by false false false false false false true s h0 h1 h2 h3 h4 h5 h6 = given_as (codes "compact") s h6 compaction_given
given_by false false false false false false false s h0 h1 h2 h3 h4 h5 h6 = λ ms r canonical h. absurd (no_name s ms r (rw (h0, h1, h2, h3, h4, h5, h6) refl) h)

-- the request of a value is readable
pub read_is_readable : (v : Data) (r : Request) → IsCanonical v → request_in v ≡ Ok r → IsReadable r
unfolding request_in verb_in
read_is_readable v r canonical h =
    let map = gave (required errors.NoVerb (as_object v)) _ r h in
    let verb = gave (verb_in map.0) (λ v. request_by v map.0) r map.2 in
    let name = gave (required errors.NoVerb (option_and_then as_str (get_member (codes "do") map.0))) _ verb.0 verb.1 in
    let whole = subst IsCanonical (is_object v map.0 (sym (was_there errors.NoVerb (as_object v) map.0 map.1))) canonical in
    given_by _ _ _ _ _ _ _ name.0 refl refl refl refl refl refl refl map.0 r whole.1 (ap (λ x. x >>= λ v. request_by v map.0) name.2 ∙ verb.2)
