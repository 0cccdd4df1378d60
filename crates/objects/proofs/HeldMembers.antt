-- The metadata with the members that the key and the meta hold.
use Rattle.std.proofs.Common.{◌≡◌, ℕ, ◌<◌, ◌^◌, List, Option, Some, None, option_map, decimal, refl, sym, ap, ◌∙◌, subst, cond, Bool, true, false, arith}
use Rattle.std.specs.Prelude.{⊤, codes, ◌==◌}
use Rattle.std.specs.Ordering.{nat_cmp, match_ordering}
use Rattle.std.specs.declared.cmp.Ordering.{Ordering}
use Rattle.std.specs.declared.cmp.Ordering.TheVariants.{Less, Equal, Greater}
use Rattle.std.specs.Cmp.Lexicographic.{slice_cmp}
use Rattle.std.proofs.lemmas.Bool.{or_parts}
use Rattle.serde_json.specs.Data.{Data, unsigned, number, string, Members, no_members, member, put}
use Rattle.serde_json.specs.Find.{get_member}
use Rattle.serde_json.proofs.Views.{get_member-put, get_member-put_other}
use Rattle.serde_json.proofs.Numbers.{number_of-decimal}
use Rattle.objects.specs.declared.object.Object.{Object}
use Rattle.objects.specs.Meta.{IsMeta}
use Rattle.objects.specs.Object.{is_held, without_held, has_held}
use Rattle.trees.specs.Tree.{ComesBefore, AreAscending}
use Rattle.trees.specs.Canonical.{IsCanonical, AreCanonicalMembers}
use Rattle.trees.specs.Building.{put_some}
use Rattle.objects.specs.Text.{unless_zero, full_metadata}
use Rattle.objects.specs.Uid.{uid_text}
use Rattle.trees.proofs.EntryPositions.{ascending_put}
use Rattle.trees.proofs.PutOrder.{apart, before_next, equal_texts, canonical_put}

without_put_at : (o : Ordering) (k l : List ℕ) (d e : Data) (ms : Members) → slice_cmp nat_cmp k l ≡ o → is_held k ≡ true → without_held (put k d ms) ≡ without_held ms
    → without_held (match_ordering o (member k d (member l e ms)) (member l d ms) (member l e (put k d ms))) ≡ without_held (member l e ms)
without_put_at Less k l d e ms is held later = ap (λ h. cond h (without_held (member l e ms)) (member k d (without_held (member l e ms)))) held
without_put_at Equal k l d e ms is held later =
    let l_held : is_held l ≡ true = subst (λ t. is_held t ≡ true) (equal_texts k l is) held in
    ap (λ h. cond h (without_held ms) (member l d (without_held ms))) l_held ∙ sym (ap (λ h. cond h (without_held ms) (member l e (without_held ms))) l_held)
without_put_at Greater k l d e ms is held later = ap (λ w. cond (is_held l) w (member l e w)) later

-- a held member that is put is removed again
pub without_put : (k : List ℕ) (d : Data) (ms : Members) → is_held k ≡ true → without_held (put k d ms) ≡ without_held ms
without_put k d no_members held = ap (λ h. cond h no_members (member k d no_members)) held
without_put k d (member l e ms) held = without_put_at (slice_cmp nat_cmp k l) k l d e ms refl held (without_put k d ms held)

-- if none is held, none is removed
pub without_none : (ms : Members) → has_held ms ≡ false → without_held ms ≡ ms
without_none no_members h = refl
without_none (member k d ms) h =
    let both = or_parts (is_held k) (has_held ms) h in
    ap (λ b. cond b (without_held ms) (member k d (without_held ms))) both.0 ∙ ap (member k d) (without_none ms both.1)

held_missing_at : (o : Ordering) (q l : List ℕ) (e : Data) (ms : Members) → slice_cmp nat_cmp q l ≡ o → is_held q ≡ true → is_held l ≡ false → get_member q ms ≡ None
    → match_ordering o (get_member q ms) (Some e) (get_member q ms) ≡ None
held_missing_at Less q l e ms is held other later = later
held_missing_at Equal q l e ms is held other later = absurd (let l_held : is_held l ≡ true = subst (λ t. is_held t ≡ true) (equal_texts q l is) held in let clash : true ≡ false = sym l_held ∙ other in cc)
held_missing_at Greater q l e ms is held other later = later

-- if none is held, a held name is not found
pub held_missing : (q : List ℕ) (ms : Members) → is_held q ≡ true → has_held ms ≡ false → get_member q ms ≡ None
held_missing q no_members held h = refl
held_missing q (member l e ms) held h =
    let both = or_parts (is_held l) (has_held ms) h in
    held_missing_at (slice_cmp nat_cmp q l) q l e ms refl held both.0 (held_missing q ms held both.1)

kept_past : (o : Ordering) (q l : List ℕ) (e : Data) (ms : Members) → slice_cmp nat_cmp q l ≡ o → is_held q ≡ false → is_held l ≡ true → get_member q (without_held ms) ≡ get_member q ms
    → get_member q (without_held ms) ≡ match_ordering o (get_member q ms) (Some e) (get_member q ms)
kept_past Less q l e ms is other held later = later
kept_past Equal q l e ms is other held later = absurd (let q_held : is_held q ≡ true = subst (λ t. is_held t ≡ true) (sym (equal_texts q l is)) held in let clash : true ≡ false = sym q_held ∙ other in cc)
kept_past Greater q l e ms is other held later = later

kept_at : (held : Bool) (q l : List ℕ) (e : Data) (ms : Members) → is_held l ≡ held → is_held q ≡ false → get_member q (without_held ms) ≡ get_member q ms
    → get_member q (cond held (without_held ms) (member l e (without_held ms))) ≡ get_member q (member l e ms)
kept_at true q l e ms is other later = kept_past (slice_cmp nat_cmp q l) q l e ms refl other is later
kept_at false q l e ms is other later = ap (λ found. match_ordering (slice_cmp nat_cmp q l) found (Some e) found) later

-- a name that is not held is found as before once the held ones are removed
pub unheld_found : (q : List ℕ) (ms : Members) → is_held q ≡ false → get_member q (without_held ms) ≡ get_member q ms
unheld_found q no_members other = refl
unheld_found q (member l e ms) other = kept_at (is_held l) q l e ms refl other (unheld_found q ms other)

before_without_at : (held : Bool) (k l : List ℕ) (d : Data) (ms : Members) → slice_cmp nat_cmp k l ≡ Less → ComesBefore k (without_held ms) → ComesBefore k (cond held (without_held ms) (member l d (without_held ms)))
before_without_at true k l d ms first later = later
before_without_at false k l d ms first later = first

before_without : (k : List ℕ) (ms : Members) → ComesBefore k ms → AreAscending ms → ComesBefore k (without_held ms)
before_without k no_members h ascending = tt
before_without k (member l d ms) h ascending = before_without_at (is_held l) k l d ms h (before_without k ms (before_next k l ms h ascending.0) ascending.1)

ascending_without_at : (held : Bool) (l : List ℕ) (d : Data) (ms : Members) → ComesBefore l (without_held ms) → AreAscending (without_held ms) → AreAscending (cond held (without_held ms) (member l d (without_held ms)))
ascending_without_at true l d ms before later = later
ascending_without_at false l d ms before later = (before, later)

-- removing members keeps the order
pub ascending_without : (ms : Members) → AreAscending ms → AreAscending (without_held ms)
ascending_without no_members h = tt
ascending_without (member l d ms) h = ascending_without_at (is_held l) l d ms (before_without l ms h.0 h.1) (ascending_without ms h.1)

-- ---- what is put only if it is there

without_put_some : (k : List ℕ) (o : Option Data) (ms : Members) → is_held k ≡ true → without_held (put_some k o ms) ≡ without_held ms
without_put_some k None ms held = refl
without_put_some k (Some d) ms held = without_put k d ms held

ascending_put_some : (k : List ℕ) (o : Option Data) (ms : Members) → AreAscending ms → AreAscending (put_some k o ms)
ascending_put_some k None ms h = h
ascending_put_some k (Some d) ms h = ascending_put k d ms h

abbrev IsCanonicalIfThere : Option Data → Type 0
IsCanonicalIfThere None = ⊤
IsCanonicalIfThere (Some d) = IsCanonical d

canonical_put_some : (k : List ℕ) (o : Option Data) (ms : Members) → IsCanonicalIfThere o → AreCanonicalMembers ms → AreCanonicalMembers (put_some k o ms)
canonical_put_some k None ms canonical h = h
canonical_put_some k (Some d) ms canonical h = canonical_put k d ms canonical h

found_put_some : (k : List ℕ) (o : Option Data) (ms : Members) → get_member k ms ≡ None → get_member k (put_some k o ms) ≡ o
found_put_some k None ms missing = missing
found_put_some k (Some d) ms missing = get_member-put k d ms

other_put_some : (q k : List ℕ) (o : Option Data) (ms : Members) → (q ≡ k → ⊥) → get_member q (put_some k o ms) ≡ get_member q ms
other_put_some q k None ms other = refl
other_put_some q k (Some d) ms other = get_member-put_other q k d ms other

canonical_unless_at : (zero : Bool) (d : Data) → IsCanonical d → IsCanonicalIfThere (cond zero None (Some d))
canonical_unless_at true d h = tt
canonical_unless_at false d h = h

canonical_text : (o : Option (List ℕ)) → IsCanonicalIfThere (option_map string o)
canonical_text None = tt
canonical_text (Some s) = tt

-- ---- the six

abbrev pub with_uid : Option Data → Members → Members
with_uid u mm = put_some (codes "uid") u mm

abbrev pub with_version : Option Data → Option Data → Members → Members
with_version v u mm = put_some (codes "resourceVersion") v (with_uid u mm)

abbrev pub with_key : Data → Data → Members → Members
with_key name namespace ms = put (codes "name") name (put (codes "namespace") namespace ms)

abbrev pub with_all : Option Data → Option Data → Data → Data → Option Data → Option Data → Members → Members
with_all t g name namespace v u mm = put_some (codes "deletionTimestamp") t (put_some (codes "generation") g (with_key name namespace (with_version v u mm)))

module _ (t g : Option Data) (name namespace : Data) (v u : Option Data) (mm : Members) where
  without_all : has_held mm ≡ false → without_held (with_all t g name namespace v u mm) ≡ mm
  without_all none =
      without_put_some (codes "deletionTimestamp") t (put_some (codes "generation") g (with_key name namespace (with_version v u mm))) refl
      ∙ without_put_some (codes "generation") g (with_key name namespace (with_version v u mm)) refl
      ∙ without_put (codes "name") name (put (codes "namespace") namespace (with_version v u mm)) refl
      ∙ without_put (codes "namespace") namespace (with_version v u mm) refl
      ∙ without_put_some (codes "resourceVersion") v (with_uid u mm) refl
      ∙ without_put_some (codes "uid") u mm refl
      ∙ without_none mm none

  ascending_all : AreAscending mm → AreAscending (with_all t g name namespace v u mm)
  ascending_all h =
      ascending_put_some (codes "deletionTimestamp") t (put_some (codes "generation") g (with_key name namespace (with_version v u mm)))
      (ascending_put_some (codes "generation") g (with_key name namespace (with_version v u mm))
      (ascending_put (codes "name") name (put (codes "namespace") namespace (with_version v u mm))
      (ascending_put (codes "namespace") namespace (with_version v u mm)
      (ascending_put_some (codes "resourceVersion") v (with_uid u mm)
      (ascending_put_some (codes "uid") u mm h)))))

  canonical_all : IsCanonicalIfThere t → IsCanonicalIfThere g → IsCanonical name → IsCanonical namespace → IsCanonicalIfThere v → IsCanonicalIfThere u → AreCanonicalMembers mm → AreCanonicalMembers (with_all t g name namespace v u mm)
  canonical_all pt pg pn ps pv pu h =
      canonical_put_some (codes "deletionTimestamp") t (put_some (codes "generation") g (with_key name namespace (with_version v u mm))) pt
      (canonical_put_some (codes "generation") g (with_key name namespace (with_version v u mm)) pg
      (canonical_put (codes "name") name (put (codes "namespace") namespace (with_version v u mm)) pn
      (canonical_put (codes "namespace") namespace (with_version v u mm) ps
      (canonical_put_some (codes "resourceVersion") v (with_uid u mm) pv
      (canonical_put_some (codes "uid") u mm pu h)))))

  -- past the members put last
  past_last : (q : List ℕ) → (q ≡ codes "deletionTimestamp" → ⊥) → (q ≡ codes "generation" → ⊥) → get_member q (with_all t g name namespace v u mm) ≡ get_member q (with_key name namespace (with_version v u mm))
  past_last q not_deletion not_generation =
      other_put_some q (codes "deletionTimestamp") t (put_some (codes "generation") g (with_key name namespace (with_version v u mm))) not_deletion
      ∙ other_put_some q (codes "generation") g (with_key name namespace (with_version v u mm)) not_generation

  past_key : (q : List ℕ) → (q ≡ codes "name" → ⊥) → (q ≡ codes "namespace" → ⊥) → get_member q (with_key name namespace (with_version v u mm)) ≡ get_member q (with_version v u mm)
  past_key q not_name not_namespace =
      get_member-put_other q (codes "name") name (put (codes "namespace") namespace (with_version v u mm)) not_name
      ∙ get_member-put_other q (codes "namespace") namespace (with_version v u mm) not_namespace

  all_name : get_member (codes "name") (with_all t g name namespace v u mm) ≡ Some name
  all_name = past_last (codes "name") (apart _ _ refl) (apart _ _ refl) ∙ get_member-put (codes "name") name (put (codes "namespace") namespace (with_version v u mm))

  all_namespace : get_member (codes "namespace") (with_all t g name namespace v u mm) ≡ Some namespace
  all_namespace =
      past_last (codes "namespace") (apart _ _ refl) (apart _ _ refl)
      ∙ get_member-put_other (codes "namespace") (codes "name") name (put (codes "namespace") namespace (with_version v u mm)) (apart _ _ refl)
      ∙ get_member-put (codes "namespace") namespace (with_version v u mm)

  all_version : has_held mm ≡ false → get_member (codes "resourceVersion") (with_all t g name namespace v u mm) ≡ v
  all_version none =
      past_last (codes "resourceVersion") (apart _ _ refl) (apart _ _ refl)
      ∙ past_key (codes "resourceVersion") (apart _ _ refl) (apart _ _ refl)
      ∙ found_put_some (codes "resourceVersion") v (with_uid u mm)
      (other_put_some (codes "resourceVersion") (codes "uid") u mm (apart _ _ refl) ∙ held_missing (codes "resourceVersion") mm refl none)

  all_uid : has_held mm ≡ false → get_member (codes "uid") (with_all t g name namespace v u mm) ≡ u
  all_uid none =
      past_last (codes "uid") (apart _ _ refl) (apart _ _ refl)
      ∙ past_key (codes "uid") (apart _ _ refl) (apart _ _ refl)
      ∙ other_put_some (codes "uid") (codes "resourceVersion") v (with_uid u mm) (apart _ _ refl)
      ∙ found_put_some (codes "uid") u mm (held_missing (codes "uid") mm refl none)

  -- what is not among the key, the version and the uid
  missing_below : (q : List ℕ) → is_held q ≡ true → (q ≡ codes "name" → ⊥) → (q ≡ codes "namespace" → ⊥) → (q ≡ codes "resourceVersion" → ⊥) → (q ≡ codes "uid" → ⊥) → has_held mm ≡ false
      → get_member q (with_key name namespace (with_version v u mm)) ≡ None
  missing_below q held not_name not_namespace not_version not_uid none =
      past_key q not_name not_namespace
      ∙ other_put_some q (codes "resourceVersion") v (with_uid u mm) not_version
      ∙ other_put_some q (codes "uid") u mm not_uid
      ∙ held_missing q mm held none

  all_generation : has_held mm ≡ false → get_member (codes "generation") (with_all t g name namespace v u mm) ≡ g
  all_generation none =
      other_put_some (codes "generation") (codes "deletionTimestamp") t (put_some (codes "generation") g (with_key name namespace (with_version v u mm))) (apart _ _ refl)
      ∙ found_put_some (codes "generation") g (with_key name namespace (with_version v u mm))
      (missing_below (codes "generation") refl (apart _ _ refl) (apart _ _ refl) (apart _ _ refl) (apart _ _ refl) none)

  all_deletion : has_held mm ≡ false → get_member (codes "deletionTimestamp") (with_all t g name namespace v u mm) ≡ t
  all_deletion none =
      found_put_some (codes "deletionTimestamp") t (put_some (codes "generation") g (with_key name namespace (with_version v u mm)))
      (other_put_some (codes "deletionTimestamp") (codes "generation") g (with_key name namespace (with_version v u mm)) (apart _ _ refl)
      ∙ missing_below (codes "deletionTimestamp") refl (apart _ _ refl) (apart _ _ refl) (apart _ _ refl) (apart _ _ refl) none)

-- ---- those of an object

abbrev pub deletion_put : Object → Option Data
deletion_put o = option_map string o.meta.deletion

abbrev pub generation_put : Object → Option Data
generation_put o = unless_zero o.meta.generation (number (unsigned o.meta.generation))

abbrev pub version_put : Object → Option Data
version_put o = unless_zero o.meta.revision (string (decimal o.meta.revision))

abbrev pub uid_put : Object → Option Data
uid_put o = unless_zero o.meta.uid (string (uid_text o.meta.uid))

-- the held members leave what was there before
pub full_without : (o : Object) (mm : Members) → has_held mm ≡ false → without_held (full_metadata o mm) ≡ mm
full_without o mm none = without_all (deletion_put o) (generation_put o) (string o.key.name) (string o.key.namespace) (version_put o) (uid_put o) mm none

-- a member that is not held is as it was
pub full_unheld : (q : List ℕ) (o : Object) (mm : Members) → is_held q ≡ false → has_held mm ≡ false → get_member q (full_metadata o mm) ≡ get_member q mm
full_unheld q o mm other none = sym (unheld_found q (full_metadata o mm) other) ∙ ap (get_member q) (full_without o mm none)

pub full_ascending : (o : Object) (mm : Members) → AreAscending mm → AreAscending (full_metadata o mm)
full_ascending o mm h = ascending_all (deletion_put o) (generation_put o) (string o.key.name) (string o.key.namespace) (version_put o) (uid_put o) mm h

pub full_canonical : (o : Object) (mm : Members) → IsMeta o.meta → AreCanonicalMembers mm → AreCanonicalMembers (full_metadata o mm)
full_canonical o mm meta h =
    let small : o.meta.generation < 2 ^ 64 = omega (arith, meta.generation) in
    canonical_all (deletion_put o) (generation_put o) (string o.key.name) (string o.key.namespace) (version_put o) (uid_put o) mm
    (canonical_text o.meta.deletion) (canonical_unless_at (o.meta.generation == 0) (number (unsigned o.meta.generation)) (number_of-decimal o.meta.generation small)) tt tt
    (canonical_unless_at (o.meta.revision == 0) (string (decimal o.meta.revision)) tt) (canonical_unless_at (o.meta.uid == 0) (string (uid_text o.meta.uid)) tt) h

pub full_name : (o : Object) (mm : Members) → get_member (codes "name") (full_metadata o mm) ≡ Some (string o.key.name)
full_name o mm = all_name (deletion_put o) (generation_put o) (string o.key.name) (string o.key.namespace) (version_put o) (uid_put o) mm

pub full_namespace : (o : Object) (mm : Members) → get_member (codes "namespace") (full_metadata o mm) ≡ Some (string o.key.namespace)
full_namespace o mm = all_namespace (deletion_put o) (generation_put o) (string o.key.name) (string o.key.namespace) (version_put o) (uid_put o) mm

pub full_version : (o : Object) (mm : Members) → has_held mm ≡ false → get_member (codes "resourceVersion") (full_metadata o mm) ≡ unless_zero o.meta.revision (string (decimal o.meta.revision))
full_version o mm none = all_version (deletion_put o) (generation_put o) (string o.key.name) (string o.key.namespace) (version_put o) (uid_put o) mm none

pub full_uid : (o : Object) (mm : Members) → has_held mm ≡ false → get_member (codes "uid") (full_metadata o mm) ≡ unless_zero o.meta.uid (string (uid_text o.meta.uid))
full_uid o mm none = all_uid (deletion_put o) (generation_put o) (string o.key.name) (string o.key.namespace) (version_put o) (uid_put o) mm none

pub full_generation : (o : Object) (mm : Members) → has_held mm ≡ false → get_member (codes "generation") (full_metadata o mm) ≡ unless_zero o.meta.generation (number (unsigned o.meta.generation))
full_generation o mm none = all_generation (deletion_put o) (generation_put o) (string o.key.name) (string o.key.namespace) (version_put o) (uid_put o) mm none

pub full_deletion : (o : Object) (mm : Members) → has_held mm ≡ false → get_member (codes "deletionTimestamp") (full_metadata o mm) ≡ option_map string o.meta.deletion
full_deletion o mm none = all_deletion (deletion_put o) (generation_put o) (string o.key.name) (string o.key.namespace) (version_put o) (uid_put o) mm none
