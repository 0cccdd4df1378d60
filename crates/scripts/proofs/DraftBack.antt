-- A draft that is printed reads back as itself, whatever texts it gives.
use Rattle.std.proofs.Common.{◌≡◌, ℕ, ◌<◌, ◌^◌, List, length, Bool, true, false, Option, Some, None, option_map, Ok, decimal, refl, sym, ap, ◌∙◌, cond, arith, lt-ltb, subst}
use Rattle.std.specs.Prelude.{codes, ◌==◌}
use Rattle.std.proofs.lemmas.Bool.{eqb-true}
use Rattle.std.proofs.lemmas.Bool.Decides.{nat_tests}
use Rattle.serde_json.specs.Data.{Data, unsigned, number, string, object, Members, put}
use Rattle.serde_json.specs.Find.{get_member}
use Rattle.serde_json.proofs.Views.{get_member-put, get_member-put_other}
use Rattle.trees.specs.Building.{put_some}
use Rattle.trees.proofs.PutOrder.{apart, put_back}
use Rattle.objects.specs.declared.fault.ReadError.TheVariants.{BadMeta}
use Rattle.objects.specs.declared.object.Draft.{Draft}
use Rattle.objects.specs.Kind.{api_version}
use Rattle.objects.specs.Meta.{MetaParts}
use Rattle.objects.specs.MetadataShape.{labels_fit, metadata_fits, owners_fit}
use Rattle.objects.specs.Object.{IsBody, has_held, is_held, is_missing_or, without_held}
use Rattle.objects.specs.Reading.{draft_in, draft_meta, draft_meta_in, draft_of, generation_of, meta_of, optional_text, unless_empty}
use Rattle.objects.specs.Uid.{uid_text}
use Rattle.objects.proofs.DraftAgain.{draft_meta_read, draft_steps, key_again, kind_again, meta_again}
use Rattle.objects.proofs.HeldMembers.{deletion_put, generation_put, held_missing, unheld_found, with_all, with_key, with_uid, with_version, without_none, without_put}
use Rattle.objects.proofs.PrintedObjects.{body_canonical}
use Rattle.objects.proofs.UidRound.{length-decimal, length-uid}
use Rattle.scripts.specs.RequestLine.{IsNotEmpty, IsOfItsObject, IsReadableDraft, draft_metadata, printed_draft}
use Rattle.scripts.proofs.DraftValues.{value_printed}

-- ---- what is put only if it is there

found_some : (k : List ℕ) (o : Option Data) (ms : Members) → get_member k ms ≡ None → get_member k (put_some k o ms) ≡ o
found_some k None ms missing = missing
found_some k (Some d) ms missing = get_member-put k d ms

other_some : (q k : List ℕ) (o : Option Data) (ms : Members) → (q ≡ k → ⊥) → get_member q (put_some k o ms) ≡ get_member q ms
other_some q k None ms other = refl
other_some q k (Some d) ms other = get_member-put_other q k d ms other

without_some : (k : List ℕ) (o : Option Data) (ms : Members) → is_held k ≡ true → without_held (put_some k o ms) ≡ without_held ms
without_some k None ms held = refl
without_some k (Some d) ms held = without_put k d ms held

-- ---- the metadata with any texts

module _ (t g : Option Data) (name namespace : Data) (v u : Option Data) (mm : Members) (none : has_held mm ≡ false) where
  abbrev last : Members
  last = put_some (codes "generation") g (with_key name namespace (with_version v u mm))

  -- past the key
  past_key : (q : List ℕ) → (q ≡ codes "name" → ⊥) → (q ≡ codes "namespace" → ⊥) → get_member q (with_key name namespace (with_version v u mm)) ≡ get_member q (with_version v u mm)
  past_key q not_name not_namespace =
      get_member-put_other q (codes "name") name (put (codes "namespace") namespace (with_version v u mm)) not_name
      ∙ get_member-put_other q (codes "namespace") namespace (with_version v u mm) not_namespace

  -- past the members put last
  past_last : (q : List ℕ) → (q ≡ codes "deletionTimestamp" → ⊥) → (q ≡ codes "generation" → ⊥)
      → get_member q (with_all t g name namespace v u mm) ≡ get_member q (with_key name namespace (with_version v u mm))
  past_last q not_deletion not_generation =
      other_some q (codes "deletionTimestamp") t last not_deletion ∙ other_some q (codes "generation") g (with_key name namespace (with_version v u mm)) not_generation

  -- neither the key nor a text
  missing : (q : List ℕ) → is_held q ≡ true → (q ≡ codes "name" → ⊥) → (q ≡ codes "namespace" → ⊥) → (q ≡ codes "resourceVersion" → ⊥) → (q ≡ codes "uid" → ⊥)
      → get_member q (with_key name namespace (with_version v u mm)) ≡ None
  missing q held not_name not_namespace not_version not_uid =
      past_key q not_name not_namespace ∙ other_some q (codes "resourceVersion") v (with_uid u mm) not_version ∙ other_some q (codes "uid") u mm not_uid ∙ held_missing q mm held none

  name_there : get_member (codes "name") (with_all t g name namespace v u mm) ≡ Some name
  name_there = past_last (codes "name") (apart _ _ refl) (apart _ _ refl) ∙ get_member-put (codes "name") name (put (codes "namespace") namespace (with_version v u mm))

  namespace_there : get_member (codes "namespace") (with_all t g name namespace v u mm) ≡ Some namespace
  namespace_there =
      past_last (codes "namespace") (apart _ _ refl) (apart _ _ refl)
      ∙ get_member-put_other (codes "namespace") (codes "name") name (put (codes "namespace") namespace (with_version v u mm)) (apart _ _ refl)
      ∙ get_member-put (codes "namespace") namespace (with_version v u mm)

  version_there : get_member (codes "resourceVersion") (with_all t g name namespace v u mm) ≡ v
  version_there =
      past_last (codes "resourceVersion") (apart _ _ refl) (apart _ _ refl) ∙ past_key (codes "resourceVersion") (apart _ _ refl) (apart _ _ refl)
      ∙ found_some (codes "resourceVersion") v (with_uid u mm)
      (other_some (codes "resourceVersion") (codes "uid") u mm (apart _ _ refl) ∙ held_missing (codes "resourceVersion") mm refl none)

  uid_there : get_member (codes "uid") (with_all t g name namespace v u mm) ≡ u
  uid_there =
      past_last (codes "uid") (apart _ _ refl) (apart _ _ refl) ∙ past_key (codes "uid") (apart _ _ refl) (apart _ _ refl)
      ∙ other_some (codes "uid") (codes "resourceVersion") v (with_uid u mm) (apart _ _ refl) ∙ found_some (codes "uid") u mm (held_missing (codes "uid") mm refl none)

  generation_there : get_member (codes "generation") (with_all t g name namespace v u mm) ≡ g
  generation_there =
      other_some (codes "generation") (codes "deletionTimestamp") t last (apart _ _ refl)
      ∙ found_some (codes "generation") g (with_key name namespace (with_version v u mm))
      (missing (codes "generation") refl (apart _ _ refl) (apart _ _ refl) (apart _ _ refl) (apart _ _ refl))

  deletion_there : get_member (codes "deletionTimestamp") (with_all t g name namespace v u mm) ≡ t
  deletion_there =
      found_some (codes "deletionTimestamp") t last
      (other_some (codes "deletionTimestamp") (codes "generation") g (with_key name namespace (with_version v u mm)) (apart _ _ refl)
      ∙ missing (codes "deletionTimestamp") refl (apart _ _ refl) (apart _ _ refl) (apart _ _ refl) (apart _ _ refl))

  -- the held members leave what was there before
  all_without : without_held (with_all t g name namespace v u mm) ≡ mm
  all_without =
      without_some (codes "deletionTimestamp") t last refl ∙ without_some (codes "generation") g (with_key name namespace (with_version v u mm)) refl
      ∙ without_put (codes "name") name (put (codes "namespace") namespace (with_version v u mm)) refl ∙ without_put (codes "namespace") namespace (with_version v u mm) refl
      ∙ without_some (codes "resourceVersion") v (with_uid u mm) refl ∙ without_some (codes "uid") u mm refl ∙ without_none mm none

  unheld_there : (q : List ℕ) → is_held q ≡ false → get_member q (with_all t g name namespace v u mm) ≡ get_member q mm
  unheld_there q other = sym (unheld_found q (with_all t g name namespace v u mm) other) ∙ ap (get_member q) all_without

-- ---- texts and numbers

text_read : (o : Option (List ℕ)) → optional_text BadMeta (option_map string o) ≡ Ok o
text_read None = refl
text_read (Some s) = refl

given : (o : Option (List ℕ)) → IsNotEmpty o → unless_empty o ≡ o
given None h = refl
given (Some s) h = rw (lt-ltb 0 (length s) h) refl

generation_by : (n : ℕ) (none : Bool) → (n == 0) ≡ none → n < 2 ^ 63 → generation_of (cond none None (Some (number (unsigned n)))) ≡ Ok n
generation_by n true is small = ap Ok (sym (eqb-true n 0 is))
generation_by n false is small = rw (lt-ltb n (2 ^ 63) small) refl

-- ---- the draft

abbrev draft_from : Draft → MetaParts → Data → Draft
draft_from d meta body = record { object = record { key = d.object.key; meta = meta; body = body }; uid = d.uid; version = d.version }

module _ (d : Draft) (h : IsReadableDraft d) where
  abbrev b : IsBody d.object.key.kind d.object.body
  b = h.rules.body

  abbrev t : Option Data
  t = deletion_put d.object

  abbrev g : Option Data
  g = generation_put d.object

  abbrev name : Data
  name = string d.object.key.name

  abbrev namespace : Data
  namespace = string d.object.key.namespace

  abbrev v : Option Data
  v = option_map string d.version

  abbrev u : Option Data
  u = option_map string d.uid

  abbrev metadata : Members
  metadata = draft_metadata d b.metadata

  abbrev all : Members
  all = put (codes "metadata") (object metadata) b.members

  fits : metadata_fits metadata ≡ true
  unfolding metadata_fits
  fits =
      let labels = ap labels_fit (unheld_there t g name namespace v u b.metadata b.none_held (codes "labels") refl) ∙ b.labels_member in
      let owners = ap owners_fit (unheld_there t g name namespace v u b.metadata b.none_held (codes "ownerReferences") refl) ∙ b.owners_member in
      rw (labels, owners) refl

  said : draft_meta_in metadata ≡ Ok (draft_meta d.uid d.version d.object.meta.generation d.object.meta.deletion)
  said =
      draft_meta_read metadata d.uid d.version d.object.meta.generation d.object.meta.deletion
      (ap (optional_text BadMeta) (uid_there t g name namespace v u b.metadata b.none_held) ∙ text_read d.uid)
      (ap (optional_text BadMeta) (version_there t g name namespace v u b.metadata b.none_held) ∙ text_read d.version)
      (ap (optional_text BadMeta) (deletion_there t g name namespace v u b.metadata b.none_held) ∙ text_read d.object.meta.deletion)
      (ap generation_of (generation_there t g name namespace v u b.metadata b.none_held) ∙ generation_by d.object.meta.generation (d.object.meta.generation == 0) refl h.rules.meta.generation)
      (given d.uid h.uid) (given d.version h.version)

  body : object (put (codes "metadata") (object (without_held metadata)) all) ≡ d.object.body
  body =
      ap (λ mm. object (put (codes "metadata") (object mm) all)) (all_without t g name namespace v u b.metadata b.none_held)
      ∙ ap object (put_back (codes "metadata") (object b.metadata) (object metadata) b.members (body_canonical d.object b h.canonical).0 b.metadata_member)
      ∙ sym b.made_of

  members_read : draft_in all ≡ Ok d
  members_read =
      draft_steps all metadata d.object.key.kind d.object.key (draft_meta d.uid d.version d.object.meta.generation d.object.meta.deletion)
      (kind_again all d.object.key.kind (get_member-put_other (codes "kind") (codes "metadata") (object metadata) b.members (apart _ _ refl) ∙ b.kind_member))
      (ap (is_missing_or (api_version d.object.key.kind)) (get_member-put_other (codes "apiVersion") (codes "metadata") (object metadata) b.members (apart _ _ refl)) ∙ b.version_member)
      (get_member-put (codes "metadata") (object metadata) b.members)
      (key_again metadata d.object.key (namespace_there t g name namespace v u b.metadata b.none_held) (name_there t g name namespace v u b.metadata b.none_held) h.rules.key)
      fits said
      ∙ (λ i. Ok (draft_from d (h.numbers i) (body i)))

pub draft_read : (d : Draft) → IsReadableDraft d → draft_of (printed_draft d) ≡ Ok d
unfolding draft_of
draft_read d h = ap draft_of (sym (value_printed d h.rules.body.members h.rules.body.metadata h.rules.body.made_of h.rules.body.metadata_member)) ∙ members_read d h

-- ---- texts that are the object's own

own_given : (none : Bool) (s : List ℕ) → (none ≡ false → 0 < length s) → IsNotEmpty (cond none None (Some s))
own_given true s some = tt
own_given false s some = some refl

not_zero : (n : ℕ) → (n == 0) ≡ false → 0 < n
not_zero n h = grind (arith, nat_tests)

-- the texts of an object's own numbers are given, and are read as those
pub own_readable : (d : Draft) → IsOfItsObject d → IsReadableDraft d
own_readable d h =
    let o = d.object in
    let uid = ap (λ (x : Draft). x.uid) h.again in
    let version = ap (λ (x : Draft). x.version) h.again in
    record {
      uid = subst IsNotEmpty (sym uid) (own_given (o.meta.uid == 0) (uid_text o.meta.uid) (λ other. length-uid o.meta.uid (not_zero o.meta.uid other)));
      version = subst IsNotEmpty (sym version)
          (own_given (o.meta.revision == 0) (decimal o.meta.revision) (λ other. length-decimal o.meta.revision (not_zero o.meta.revision other) h.rules.meta.revision));
      numbers = (λ i. meta_of (draft_meta (uid i) (version i) o.meta.generation o.meta.deletion)) ∙ meta_again o h.rules.meta;
      rules = h.rules;
      canonical = h.canonical;
    }
