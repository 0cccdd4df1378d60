-- An object that is printed reads back as itself.
use Rattle.std.proofs.Common.{◌≡◌, ℕ, ◌<◌, ◌^◌, List, [], ◌∷◌, length, Bool, true, false, Option, Some, None, option_map, Ok, decimal, refl, sym, ap, ◌∙◌, cond, arith, lt-ltb}
use Rattle.std.specs.Prelude.{codes, ◌==◌, option_and_then, unwrap_or}
use Rattle.std.proofs.lemmas.Bool.{and_parts, eqb-true}
use Rattle.std.proofs.lemmas.Bool.Decides.{nat_tests}
use Rattle.serde_json.specs.Data.{Data, unsigned, number, string, object, Members, put}
use Rattle.serde_json.specs.Find.{get_member}
use Rattle.serde_json.proofs.Views.{get_member-put, get_member-put_other}
use Rattle.objects.specs.declared.kind.Kind.{Kind}
use Rattle.objects.specs.declared.kind.Kind.TheVariants.{StatefulSet, Pod, PersistentVolumeClaim, ControllerRevision}
use Rattle.objects.specs.declared.fault.ReadError.{ReadError}
use Rattle.objects.specs.declared.fault.ReadError.TheVariants.{BadMeta}
use Rattle.objects.specs.declared.object.Object.{Object}
use Rattle.objects.specs.declared.object.Draft.{Draft}
use Rattle.objects.specs.Names.{is_dns_label}
use Rattle.objects.specs.Kind.{kind_name, kind_named, api_version, is_name}
use Rattle.objects.specs.Key.{KeyParts, is_key}
use Rattle.objects.specs.Meta.{MetaParts, IsMeta}
use Rattle.objects.specs.MetadataShape.{labels_fit, owners_fit, metadata_fits}
use Rattle.objects.specs.Object.{IsBody, is_missing_or, without_held}
use Rattle.trees.specs.Tree.{AreAscending}
use Rattle.trees.specs.Canonical.{IsCanonical}
use Rattle.objects.specs.Reading.{kind_in, namespace_in, key_of, draft_meta_in, draft_in, draft_of, draft_parts, DraftMeta, draft_meta, meta_of, optional_text, unless_empty, generation_of}
use Rattle.objects.specs.Text.{unless_zero, full_metadata, printed}
use Rattle.objects.specs.Uid.{uid_text, uid_number, version_number}
use Rattle.objects.specs.Again.{text_unless_zero, draft_again_of}
use Rattle.trees.proofs.PutOrder.{apart, put_back}
use Rattle.objects.proofs.HeldMembers.{full_without, full_name, full_namespace, full_uid, full_version, full_generation, full_deletion, full_unheld}
use Rattle.objects.proofs.UidRound.{version_number-decimal, uid_number-uid_text, length-decimal, length-uid}
use Rattle.objects.proofs.PrintedObjects.{printed_members, printed_is, body_canonical}

pub kind_named-kind_name : (k : Kind) → kind_named (kind_name k) ≡ Some k
kind_named-kind_name StatefulSet = refl
kind_named-kind_name Pod = refl
kind_named-kind_name PersistentVolumeClaim = refl
kind_named-kind_name ControllerRevision = refl

pub kind_again : (ms : Members) (kind : Kind) → get_member (codes "kind") ms ≡ Some (string (kind_name kind)) → kind_in ms ≡ Ok kind
unfolding kind_in
kind_again ms kind said = rw (said, kind_named-kind_name kind) refl

-- a label is not empty
pub label_some : (s : List ℕ) → is_dns_label s ≡ true → 0 < length s
unfolding is_dns_label
label_some [] h = absurd cc
label_some (b ∷ s) h = omega arith

pub key_again : (ms : Members) (key : KeyParts) → get_member (codes "namespace") ms ≡ Some (string key.namespace) → get_member (codes "name") ms ≡ Some (string key.name) → is_key key ≡ true
    → key_of key.kind ms ≡ Ok key
unfolding key_of namespace_in
key_again ms key namespace name right =
    let some = lt-ltb 0 (length key.namespace) (label_some key.namespace (and_parts (is_dns_label key.namespace) (is_name key.kind key.name) right).0) in
    rw (namespace, name, some, right) refl

optional_string : (e : ReadError) (o : Option (List ℕ)) → optional_text e (option_map string o) ≡ Ok o
optional_string e None = refl
optional_string e (Some s) = refl

text_by : (none : Bool) (s : List ℕ) → cond none None (Some (string s)) ≡ option_map string (cond none None (Some s))
text_by true s = refl
text_by false s = refl

-- a text that is put only if its number is not 0
optional_unless : (e : ReadError) (n : ℕ) (s : List ℕ) → optional_text e (unless_zero n (string s)) ≡ Ok (text_unless_zero n s)
optional_unless e n s = ap (optional_text e) (text_by (n == 0) s) ∙ optional_string e (text_unless_zero n s)

some_by : (none : Bool) (s : List ℕ) → (none ≡ false → 0 < length s) → unless_empty (cond none None (Some s)) ≡ cond none None (Some s)
some_by true s some = refl
some_by false s some = rw (lt-ltb 0 (length s) (some refl)) refl

not_zero : (n : ℕ) → (n == 0) ≡ false → 0 < n
not_zero n h = grind (arith, nat_tests)

is_zero : (n : ℕ) → (n == 0) ≡ true → n ≡ 0
is_zero n h = eqb-true n 0 h

generation_by : (n : ℕ) (none : Bool) → (n == 0) ≡ none → n < 2 ^ 63 → generation_of (cond none None (Some (number (unsigned n)))) ≡ Ok n
generation_by n true is small = ap Ok (sym (is_zero n is))
generation_by n false is small = rw (lt-ltb n (2 ^ 63) small) refl

uid_by : (n : ℕ) (none : Bool) → (n == 0) ≡ none → n < 2 ^ 48 → unwrap_or (option_and_then uid_number (cond none None (Some (uid_text n)))) 0 ≡ n
uid_by n true is small = sym (is_zero n is)
uid_by n false is small = rw (uid_number-uid_text n (not_zero n is) small) refl

version_by : (n : ℕ) (none : Bool) → (n == 0) ≡ none → n < 2 ^ 64 → unwrap_or (option_map version_number (cond none None (Some (decimal n)))) 0 ≡ n
version_by n true is small = sym (is_zero n is)
version_by n false is small = version_number-decimal n (not_zero n is) small

pub draft_meta_read : (ms : Members) (uid version : Option (List ℕ)) (generation : ℕ) (deletion : Option (List ℕ))
    → optional_text BadMeta (get_member (codes "uid") ms) ≡ Ok uid → optional_text BadMeta (get_member (codes "resourceVersion") ms) ≡ Ok version
    → optional_text BadMeta (get_member (codes "deletionTimestamp") ms) ≡ Ok deletion → generation_of (get_member (codes "generation") ms) ≡ Ok generation
    → unless_empty uid ≡ uid → unless_empty version ≡ version → draft_meta_in ms ≡ Ok (draft_meta uid version generation deletion)
unfolding draft_meta_in
draft_meta_read ms uid version generation deletion u v d g some_uid some_version = rw (u, v, d, g, some_uid, some_version) refl

pub draft_steps : (ms metadata : Members) (kind : Kind) (key : KeyParts) (s : DraftMeta) → kind_in ms ≡ Ok kind → is_missing_or (api_version kind) (get_member (codes "apiVersion") ms) ≡ true
    → get_member (codes "metadata") ms ≡ Some (object metadata) → key_of kind metadata ≡ Ok key → metadata_fits metadata ≡ true → draft_meta_in metadata ≡ Ok s → draft_in ms ≡ Ok (draft_parts key s metadata ms)
unfolding draft_in
draft_steps ms metadata kind key s read tested found keyed fits said = rw (read, tested, found, keyed, fits, said) refl

-- the labels and the owners fit as before
pub fits_again : (o : Object) (b : IsBody o.key.kind o.body) → metadata_fits (full_metadata o b.metadata) ≡ true
unfolding metadata_fits
fits_again o b =
    let labels = ap labels_fit (full_unheld (codes "labels") o b.metadata refl b.none_held) ∙ b.labels_member in
    let owners = ap owners_fit (full_unheld (codes "ownerReferences") o b.metadata refl b.none_held) ∙ b.owners_member in
    rw (labels, owners) refl

abbrev pub draft_meta_of : Object → DraftMeta
draft_meta_of o = draft_meta (text_unless_zero o.meta.uid (uid_text o.meta.uid)) (text_unless_zero o.meta.revision (decimal o.meta.revision)) o.meta.generation o.meta.deletion

-- what the metadata says of an object is what the store knows of it
pub draft_meta_again : (o : Object) (b : IsBody o.key.kind o.body) → IsMeta o.meta → draft_meta_in (full_metadata o b.metadata) ≡ Ok (draft_meta_of o)
draft_meta_again o b meta =
    draft_meta_read (full_metadata o b.metadata) _ _ _ _
    (ap (optional_text BadMeta) (full_uid o b.metadata b.none_held) ∙ optional_unless BadMeta o.meta.uid (uid_text o.meta.uid))
    (ap (optional_text BadMeta) (full_version o b.metadata b.none_held) ∙ optional_unless BadMeta o.meta.revision (decimal o.meta.revision))
    (ap (optional_text BadMeta) (full_deletion o b.metadata b.none_held) ∙ optional_string BadMeta o.meta.deletion)
    (ap generation_of (full_generation o b.metadata b.none_held) ∙ generation_by o.meta.generation (o.meta.generation == 0) refl meta.generation)
    (some_by (o.meta.uid == 0) (uid_text o.meta.uid) (λ h. length-uid o.meta.uid (not_zero o.meta.uid h)))
    (some_by (o.meta.revision == 0) (decimal o.meta.revision) (λ h. length-decimal o.meta.revision (not_zero o.meta.revision h) meta.revision))

abbrev meta_parts : ℕ → ℕ → ℕ → Option (List ℕ) → MetaParts
meta_parts uid revision generation deletion = record { uid = uid; revision = revision; generation = generation; deletion = deletion }

pub meta_again : (o : Object) → IsMeta o.meta → meta_of (draft_meta_of o) ≡ o.meta
meta_again o meta = λ i. meta_parts
    (uid_by o.meta.uid (o.meta.uid == 0) refl meta.uid i)
    (version_by o.meta.revision (o.meta.revision == 0) refl meta.revision i)
    o.meta.generation o.meta.deletion

abbrev draft_from : Object → MetaParts → Data → Draft
draft_from o meta body = record {
  object = record { key = o.key; meta = meta; body = body };
  uid = text_unless_zero o.meta.uid (uid_text o.meta.uid);
  version = text_unless_zero o.meta.revision (decimal o.meta.revision);
}

-- the body gets back the metadata that it had
pub body_again : (o : Object) (b : IsBody o.key.kind o.body) → AreAscending b.members
    → object (put (codes "metadata") (object (without_held (full_metadata o b.metadata))) (printed_members o b.metadata b.members)) ≡ o.body
body_again o b ascending =
    ap (λ mm. object (put (codes "metadata") (object mm) (printed_members o b.metadata b.members))) (full_without o b.metadata b.none_held)
    ∙ ap object (put_back (codes "metadata") (object b.metadata) (object (full_metadata o b.metadata)) b.members ascending b.metadata_member)
    ∙ sym b.made_of

pub members_again : (o : Object) (b : IsBody o.key.kind o.body) → is_key o.key ≡ true → IsMeta o.meta → AreAscending b.members
    → draft_in (printed_members o b.metadata b.members) ≡ Ok (draft_again_of o)
members_again o b right meta ascending =
    let full = printed_members o b.metadata b.members in
    let w = full_metadata o b.metadata in
    draft_steps full w o.key.kind o.key (draft_meta_of o)
    (kind_again full o.key.kind (get_member-put_other (codes "kind") (codes "metadata") (object w) b.members (apart _ _ refl) ∙ b.kind_member))
    (ap (is_missing_or (api_version o.key.kind)) (get_member-put_other (codes "apiVersion") (codes "metadata") (object w) b.members (apart _ _ refl)) ∙ b.version_member)
    (get_member-put (codes "metadata") (object w) b.members)
    (key_again w o.key (full_namespace o b.metadata) (full_name o b.metadata) right)
    (fits_again o b)
    (draft_meta_again o b meta)
    ∙ (λ i. Ok (draft_from o (meta_again o meta i) (body_again o b ascending i)))

-- an object that is printed reads back as itself, with the texts of its UID and its resource version
pub draft_again : (o : Object) → IsBody o.key.kind o.body → is_key o.key ≡ true → IsMeta o.meta → IsCanonical o.body → draft_of (printed o) ≡ Ok (draft_again_of o)
unfolding draft_of
draft_again o b right meta canonical = ap draft_of (printed_is o.key.kind o b) ∙ members_again o b right meta (body_canonical o b canonical).0
