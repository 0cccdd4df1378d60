-- A draft that was read from a value is one that is printed so that it reads back.
use Rattle.std.proofs.Common.{◌≡◌, ℕ, ◌<◌, ◌^◌, List, length, Bool, true, false, Option, Some, None, Result, Ok, Err, refl, sym, ap, cond, arith, subst}
use Rattle.std.specs.Prelude.{codes, ◌&&◌, nat_lt, option_and_then, option_map, slice_index, unwrap_or}
use Rattle.std.specs.Str.{all_ascii_digits}
use Rattle.std.specs.Str.Parse.{digits_value}
use Rattle.std.proofs.lemmas.Bool.Decides.{nat_tests}
use Rattle.serde_json.specs.Data.{Data, null, boolean, number, string, array, object, Members, no_members, member}
use Rattle.serde_json.specs.Find.{as_object, as_u64, get_member}
use Rattle.trees.specs.Canonical.{IsCanonical, AreCanonicalMembers}
use Rattle.trees.proofs.EntryPositions.{ascending_put}
use Rattle.trees.proofs.PutOrder.{canonical_found, canonical_put}
use Rattle.objects.specs.declared.fault.ReadError.{ReadError}
use Rattle.objects.specs.declared.fault.ReadError.TheVariants.{BadMeta, BadName, NoKind, UnknownKind}
use Rattle.objects.specs.declared.kind.Kind.{Kind}
use Rattle.objects.specs.declared.object.Draft.{Draft}
use Rattle.objects.specs.Key.{KeyParts, is_key}
use Rattle.objects.specs.Kind.{api_version}
use Rattle.objects.specs.MetadataShape.{metadata_fits}
use Rattle.objects.specs.Object.{SaysKind, is_held, is_missing_or, without_held}
use Rattle.objects.specs.Reading.{DraftMeta, draft_in, draft_meta, draft_meta_in, draft_of, draft_parts, generation_of, key_of, kind_in, namespace_in, optional_text, unless_empty}
use Rattle.objects.specs.Steps.{◌>>=◌, guarded, required}
use Rattle.objects.specs.Uid.{uid_number, version_number}
use Rattle.objects.proofs.Bodies.{body_fits, is_object, says_kind}
use Rattle.objects.proofs.HeldMembers.{ascending_without}
use Rattle.objects.proofs.UidRound.{uid_text-uid_number}
use Rattle.scripts.specs.RequestLine.{IsNotEmpty, IsReadableDraft}

-- ---- steps that gave a value

pub gave : {E A B : Type 0} (r : Result A E) (f : A → Result B E) (y : B) → (r >>= f) ≡ Ok y → (x : A) × (r ≡ Ok x) × (f x ≡ Ok y)
gave (Ok x) f y h = (x, refl, h)
gave (Err e) f y h = absurd cc

pub guard_held : {E A : Type 0} (e : E) (b : Bool) (x y : A) → guarded e b x ≡ Ok y → (b ≡ true) × (x ≡ y)
guard_held e true x y h = (refl, cc)
guard_held e false x y h = absurd cc

pub was_there : {E A : Type 0} (e : E) (o : Option A) (x : A) → required e o ≡ Ok x → o ≡ Some x
was_there e None x h = absurd cc
was_there e (Some y) x h = ap Some cc

object_there : (o : Option Data) (ms : Members) → option_and_then as_object o ≡ Some ms → o ≡ Some (object ms)
object_there None ms h = absurd cc
object_there (Some v) ms h = ap Some (is_object v ms (sym h))

-- ---- the metadata

below : (m n : ℕ) → nat_lt m n ≡ true → m < n
below m n h = grind (arith, nat_tests)

small_by : (o : Option ℕ) (n : ℕ) → (required BadMeta o >>= λ g. guarded BadMeta (nat_lt g (2 ^ 63)) g) ≡ Ok n → n < 2 ^ 63
small_by None n h = absurd cc
small_by (Some g) n h =
    let held = guard_held BadMeta (nat_lt g (2 ^ 63)) g n h in
    subst (λ x. x < 2 ^ 63) held.1 (below g (2 ^ 63) held.0)

zero_small : (n : ℕ) (r : Result ℕ ReadError) → r ≡ Ok 0 → r ≡ Ok n → n < 2 ^ 63
zero_small n r zero h = let is : 0 ≡ n = cc in subst (λ x. x < 2 ^ 63) is (omega arith)

generation_small : (o : Option Data) (n : ℕ) → generation_of o ≡ Ok n → n < 2 ^ 63
generation_small None n h = zero_small n _ refl h
generation_small (Some null) n h = zero_small n _ refl h
generation_small (Some (number m)) n h = small_by (as_u64 m) n h
generation_small (Some (string s)) n h = absurd cc
generation_small (Some (boolean b)) n h = absurd cc
generation_small (Some (array ds)) n h = absurd cc
generation_small (Some (object ms)) n h = absurd cc

kept : (some : Bool) (s : List ℕ) → nat_lt 0 (length s) ≡ some → IsNotEmpty (cond some (Some s) None)
kept true s is = below 0 (length s) is
kept false s is = tt

pub not_empty : (o : Option (List ℕ)) → IsNotEmpty (unless_empty o)
not_empty None = tt
not_empty (Some s) = kept (nat_lt 0 (length s)) s refl

said_parts : (ms : Members) (s : DraftMeta) → draft_meta_in ms ≡ Ok s → IsNotEmpty s.uid × IsNotEmpty s.version × (s.generation < 2 ^ 63)
unfolding draft_meta_in
said_parts ms s h =
    let uid = gave (optional_text BadMeta (get_member (codes "uid") ms)) _ s h in
    let version = gave (optional_text BadMeta (get_member (codes "resourceVersion") ms)) _ s uid.2 in
    let deletion = gave (optional_text BadMeta (get_member (codes "deletionTimestamp") ms)) _ s version.2 in
    let generation = gave (generation_of (get_member (codes "generation") ms)) _ s deletion.2 in
    let is : draft_meta (unless_empty uid.0) (unless_empty version.0) generation.0 deletion.0 ≡ s = cc in
    subst (λ (x : DraftMeta). IsNotEmpty x.uid × IsNotEmpty x.version × (x.generation < 2 ^ 63)) is
    (not_empty uid.0, not_empty version.0, generation_small (get_member (codes "generation") ms) generation.0 generation.1)

uid_by : (o : Option ℕ) (s : List ℕ) → uid_number s ≡ o → unwrap_or o 0 < 2 ^ 48
uid_by None s is = omega arith
uid_by (Some n) s is = (uid_text-uid_number s n is).2

uid_small : (o : Option (List ℕ)) → unwrap_or (option_and_then uid_number o) 0 < 2 ^ 48
uid_small None = omega arith
uid_small (Some s) = uid_by (uid_number s) s refl

below_at : (fits : Bool) (n : ℕ) → nat_lt n (2 ^ 64) ≡ fits → cond fits n 0 < 2 ^ 64
below_at true n is = below n (2 ^ 64) is
below_at false n is = omega arith

below_by : (a b : Bool) (n : ℕ) → cond (a && b && nat_lt n (2 ^ 64)) n 0 < 2 ^ 64
below_by true true n = below_at (nat_lt n (2 ^ 64)) n refl
below_by true false n = omega arith
below_by false b n = omega arith

pub version_below : (s : List ℕ) → version_number s < 2 ^ 64
unfolding version_number
version_below s = below_by (nat_lt 48 (slice_index s 0)) (all_ascii_digits s) (digits_value 10 s)

version_small : (o : Option (List ℕ)) → unwrap_or (option_map version_number o) 0 < 2 ^ 64
version_small None = omega arith
version_small (Some s) = version_below s

-- ---- the key and the body

pub key_is : (kind : Kind) (ms : Members) (key : KeyParts) → key_of kind ms ≡ Ok key → (key.kind ≡ kind) × (is_key key ≡ true)
unfolding key_of
key_is kind ms key h =
    let namespace = gave (namespace_in ms) _ key h in
    let name = gave (optional_text BadName (get_member (codes "name") ms)) _ key namespace.2 in
    let held = guard_held BadName _ _ key name.2 in
    (ap (λ (k : KeyParts). k.kind) (sym held.1), subst (λ (k : KeyParts). is_key k ≡ true) held.1 held.0)

canonical_without_at : (held : Bool) (k : List ℕ) (d : Data) (ms : Members) → IsCanonical d → AreCanonicalMembers ms → AreCanonicalMembers (cond held ms (member k d ms))
canonical_without_at true k d ms first later = later
canonical_without_at false k d ms first later = (first, later)

canonical_without : (ms : Members) → AreCanonicalMembers ms → AreCanonicalMembers (without_held ms)
canonical_without no_members h = tt
canonical_without (member k d ms) h = canonical_without_at (is_held k) k d (without_held ms) h.0 (canonical_without ms h.1)

-- ---- the draft

parts_readable : (key : KeyParts) (s : DraftMeta) (metadata ms : Members) → is_key key ≡ true → SaysKind key.kind ms → metadata_fits metadata ≡ true
    → IsNotEmpty s.uid × IsNotEmpty s.version × (s.generation < 2 ^ 63) → IsCanonical (object metadata) → IsCanonical (object ms) → IsReadableDraft (draft_parts key s metadata ms)
parts_readable key s metadata ms right says fits parts inner canonical = record {
  uid = parts.0;
  version = parts.1;
  numbers = refl;
  rules = record {
    key = right;
    meta = record { uid = uid_small s.uid; revision = version_small s.version; generation = parts.2 };
    body = body_fits key.kind ms metadata says fits;
  };
  canonical = (
    ascending_put (codes "metadata") (object (without_held metadata)) ms canonical.0,
    canonical_put (codes "metadata") (object (without_held metadata)) ms (ascending_without metadata inner.0, canonical_without metadata inner.1) canonical.1,
  );
}

members_readable : (ms : Members) (d : Draft) → IsCanonical (object ms) → draft_in ms ≡ Ok d → IsReadableDraft d
unfolding draft_in
members_readable ms d canonical h =
    let named = gave (kind_in ms) _ d h in
    let kind = gave (guarded UnknownKind (is_missing_or (api_version named.0) (get_member (codes "apiVersion") ms)) named.0) _ d named.2 in
    let found = gave (required BadName (option_and_then as_object (get_member (codes "metadata") ms))) _ d kind.2 in
    let key = gave (key_of kind.0 found.0) _ d found.2 in
    let fitting = gave (guarded BadMeta (metadata_fits found.0) found.0) _ d key.2 in
    let said = gave (draft_meta_in fitting.0) _ d fitting.2 in
    let there = object_there (get_member (codes "metadata") ms) found.0 (was_there BadName (option_and_then as_object (get_member (codes "metadata") ms)) found.0 found.1) in
    let keyed = key_is kind.0 found.0 key.0 key.1 in
    let is : draft_parts key.0 said.0 found.0 ms ≡ d = cc in
    subst IsReadableDraft is
    (parts_readable key.0 said.0 found.0 ms keyed.1 (says_kind ms named.0 kind.0 key.0.kind named.1 kind.1 keyed.0)
    (guard_held BadMeta (metadata_fits found.0) found.0 fitting.0 fitting.1).0 (said_parts fitting.0 said.0 said.1)
    (canonical_found (codes "metadata") (object found.0) ms canonical.1 there) canonical)

pub read_readable : (v : Data) (d : Draft) → IsCanonical v → draft_of v ≡ Ok d → IsReadableDraft d
unfolding draft_of
read_readable v d canonical h =
    let map = gave (required NoKind (as_object v)) _ d h in
    members_readable map.0 d (subst IsCanonical (is_object v map.0 (sym (was_there NoKind (as_object v) map.0 map.1))) canonical) map.2
