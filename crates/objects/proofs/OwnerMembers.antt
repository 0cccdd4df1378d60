-- A body whose owner references are set or removed.
use Rattle.std.proofs.Common.{◌≡◌, ℕ, List, Bool, true, false, cond, Option, Some, None, refl, sym, ap, ◌∙◌, subst}
use Rattle.std.specs.Prelude.{codes, bytes_eq, option_map, option_and_then, unwrap_or}
use Rattle.std.specs.Ordering.{nat_cmp, match_ordering}
use Rattle.std.specs.declared.cmp.Ordering.{Ordering}
use Rattle.std.specs.declared.cmp.Ordering.TheVariants.{Less, Equal, Greater}
use Rattle.std.specs.Cmp.Lexicographic.{slice_cmp}
use Rattle.std.proofs.lemmas.Bool.{or_parts}
use Rattle.serde_json.specs.Data.{Data, array, object, Items, no_items, Members, no_members, member, put}
use Rattle.serde_json.specs.Find.{get_member, as_array, as_object}
use Rattle.serde_json.proofs.Views.{get_member-put}
use Rattle.trees.specs.Members.{without_member, set_member}
use Rattle.trees.proofs.SetMembers.{get_member-set_member}
use Rattle.objects.specs.declared.kind.Kind.{Kind}
use Rattle.objects.specs.MetadataShape.{labels_fit, owners_fit}
use Rattle.objects.specs.Metadata.{metadata_of, owners_of, with_owners}
use Rattle.objects.specs.Object.{is_held, has_held, IsBody}
use Rattle.objects.specs.Status.{with_member}
use Rattle.objects.proofs.Bodies.{body_of_metadata}
use Rattle.objects.proofs.BodyMembers.{set_found}

unheld_put_at : (o : Ordering) (k l : List ℕ) (d e : Data) (ms : Members) → is_held k ≡ false → is_held l ≡ false → has_held ms ≡ false → has_held (put k d ms) ≡ false
    → has_held (match_ordering o (member k d (member l e ms)) (member l d ms) (member l e (put k d ms))) ≡ false
unheld_put_at Less k l d e ms free here rest later = rw (free, here, rest) refl
unheld_put_at Equal k l d e ms free here rest later = rw (here, rest) refl
unheld_put_at Greater k l d e ms free here rest later = rw (here, later) refl

unheld_put : (k : List ℕ) (d : Data) (ms : Members) → is_held k ≡ false → has_held ms ≡ false → has_held (put k d ms) ≡ false
unheld_put k d no_members free h = rw free refl
unheld_put k d (member l e ms) free h =
    let parts = or_parts (is_held l) (has_held ms) h in
    unheld_put_at (slice_cmp nat_cmp k l) k l d e ms free parts.0 parts.1 (unheld_put k d ms free parts.1)

unheld_without_at : (b : Bool) (l : List ℕ) (e : Data) (ms : Members) → is_held l ≡ false → has_held ms ≡ false → has_held (cond b ms (member l e ms)) ≡ false
unheld_without_at true l e ms here rest = rest
unheld_without_at false l e ms here rest = rw (here, rest) refl

unheld_without : (k : List ℕ) (ms : Members) → has_held ms ≡ false → has_held (without_member k ms) ≡ false
unheld_without k no_members h = refl
unheld_without k (member l e ms) h =
    let parts = or_parts (is_held l) (has_held ms) h in
    unheld_without_at (bytes_eq k l) l e (without_member k ms) parts.0 (unheld_without k ms parts.1)

unheld_set : (k : List ℕ) (value : Option Data) (ms : Members) → is_held k ≡ false → has_held ms ≡ false → has_held (set_member k value ms) ≡ false
unheld_set k None ms free h = unheld_without k ms h
unheld_set k (Some d) ms free h = unheld_put k d ms free h

-- the metadata is there
pub metadata_there : (kind : Kind) (body : Data) (h : IsBody kind body) → metadata_of body ≡ Some h.metadata
metadata_there kind body h = ap metadata_of h.made_of ∙ ap (option_and_then as_object) h.metadata_member

pub body_with_owners : (kind : Kind) (owners : Option Items) (body : Data) → owners_fit (option_map array owners) ≡ true → IsBody kind body → IsBody kind (with_owners owners body)
body_with_owners kind owners body fit h =
    let value = option_map array owners in
    let owned = set_member (codes "ownerReferences") value h.metadata in
    let same : with_owners owners body ≡ object (put (codes "metadata") (object owned) h.members) =
    ap (λ found. with_member (codes "metadata") (Some (object (set_member (codes "ownerReferences") value (unwrap_or found no_members)))) body) (metadata_there kind body h)
    ∙ ap (with_member (codes "metadata") (Some (object owned))) h.made_of in
    subst (IsBody kind) (sym same) (body_of_metadata kind h.members owned (record { kind_member = h.kind_member; version_member = h.version_member })
    (unheld_set (codes "ownerReferences") value h.metadata refl h.none_held)
    (ap labels_fit (get_member-set_member (codes "labels") (codes "ownerReferences") value h.metadata (λ e. absurd cc)) ∙ h.labels_member)
    (ap owners_fit (set_found (codes "ownerReferences") value h.metadata) ∙ fit))

-- the metadata once the owners are set or removed
metadata_of-with_owners : (owners : Option Items) (ms : Members)
    → metadata_of (with_owners owners (object ms)) ≡ Some (set_member (codes "ownerReferences") (option_map array owners) (unwrap_or (metadata_of (object ms)) no_members))
metadata_of-with_owners owners ms =
    ap (option_and_then as_object) (get_member-put (codes "metadata") (object (set_member (codes "ownerReferences") (option_map array owners) (unwrap_or (metadata_of (object ms)) no_members))) ms)

listed_back : (owners : Option Items) → unwrap_or (option_and_then as_array (option_map array owners)) no_items ≡ unwrap_or owners no_items
listed_back None = refl
listed_back (Some ds) = refl

pub owners_of-with_owners : (owners : Option Items) (ms : Members) → owners_of (with_owners owners (object ms)) ≡ unwrap_or owners no_items
owners_of-with_owners owners ms =
    ap (λ found. unwrap_or (option_and_then (λ metadata. option_and_then as_array (get_member (codes "ownerReferences") metadata)) found) no_items) (metadata_of-with_owners owners ms)
    ∙ (ap (λ found. unwrap_or (option_and_then as_array found) no_items) (set_found (codes "ownerReferences") (option_map array owners) (unwrap_or (metadata_of (object ms)) no_members)) ∙ listed_back owners)

inside_at : (q : List ℕ) (value : Option Data) (found : Option Members) → (q ≡ codes "ownerReferences" → ⊥)
    → get_member q (set_member (codes "ownerReferences") value (unwrap_or found no_members)) ≡ option_and_then (get_member q) found
inside_at q value None other = get_member-set_member q (codes "ownerReferences") value no_members other
inside_at q value (Some ms) other = get_member-set_member q (codes "ownerReferences") value ms other

pub metadata_with_owners : (q : List ℕ) (owners : Option Items) (ms : Members) → (q ≡ codes "ownerReferences" → ⊥)
    → option_and_then (get_member q) (metadata_of (with_owners owners (object ms))) ≡ option_and_then (get_member q) (metadata_of (object ms))
metadata_with_owners q owners ms other =
    ap (option_and_then (get_member q)) (metadata_of-with_owners owners ms) ∙ inside_at q (option_map array owners) (metadata_of (object ms)) other
