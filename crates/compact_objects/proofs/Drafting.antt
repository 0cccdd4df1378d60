-- The steps of reading an object, put together.
use Rattle.std.proofs.Common.{◌≡◌, ℕ, List, true, Some, None, Ok, codes, refl}
use Rattle.std.specs.Prelude.{Option, Result, Err, IfOk, IfSome}
use Rattle.trees.specs.Canonical.{AreCanonicalMembers}
use Rattle.trees.proofs.PutOrder.{canonical_found}
use Rattle.serde_json.specs.Data.{Members, object}
use Rattle.serde_json.specs.Find.{get_member}
use Rattle.objects.specs.declared.kind.Kind.{Kind}
use Rattle.objects.specs.Key.{KeyParts}
use Rattle.objects.specs.Kind.{api_version}
use Rattle.objects.specs.MetadataShape.{labels_fit, metadata_fits, owners_fit}
use Rattle.objects.specs.Object.{is_missing_or}
use Rattle.objects.specs.Reading.{draft_in, draft_meta, draft_meta_in, draft_parts, key_of, kind_in}
use Rattle.compact_objects.specs.Drafts.{IsReadAs}

fits : (ms : Members) → labels_fit (get_member (codes "labels") ms) ≡ true → owners_fit (get_member (codes "ownerReferences") ms) ≡ true → metadata_fits ms ≡ true
unfolding metadata_fits
fits ms labels owners = rw (labels, owners) refl

drafted : (os ms : Members) (kind : Kind) (key : KeyParts) (uid version : Option (List ℕ)) (n : ℕ) → kind_in os ≡ Ok kind → is_missing_or (api_version kind) (get_member (codes "apiVersion") os) ≡ true
    → get_member (codes "metadata") os ≡ Some (object ms) → key_of kind ms ≡ Ok key → metadata_fits ms ≡ true → draft_meta_in ms ≡ Ok (draft_meta uid version n None)
    → draft_in os ≡ Ok (draft_parts key (draft_meta uid version n None) ms os)
unfolding draft_in
drafted os ms kind key uid version n a b c d e f = rw (a, b, c, d, e, f) refl

pub read_as : (os ms : Members) (kind : Kind) (key : KeyParts) (uid version : Option (List ℕ)) (n : ℕ) → kind_in os ≡ Ok kind → is_missing_or (api_version kind) (get_member (codes "apiVersion") os) ≡ true
    → get_member (codes "metadata") os ≡ Some (object ms) → key_of kind ms ≡ Ok key → labels_fit (get_member (codes "labels") ms) ≡ true → owners_fit (get_member (codes "ownerReferences") ms) ≡ true
    → draft_meta_in ms ≡ Ok (draft_meta uid version n None) → IsReadAs key uid version os
read_as os ms kind key uid version n a b c d labels owners f = record {
  draft = draft_parts key (draft_meta uid version n None) ms os;
  reads = drafted os ms kind key uid version n a b c d (fits ms labels owners) f;
  key_is = refl;
  uid_is = refl;
  version_is = refl;
}

pub told_weaker : {A E : Type 0} (P Q : A → Type 0) (r : Result (Option A) E) → ((x : A) → P x → Q x) → IfOk r (λ f. IfSome f P) → IfOk r (λ f. IfSome f Q)
told_weaker P Q (Err e) weaker h = tt
told_weaker P Q (Ok None) weaker h = tt
told_weaker P Q (Ok (Some x)) weaker h = weaker x h

canonical_map : (k : List ℕ) (ls os : Members) → AreCanonicalMembers ls → get_member k ls ≡ Some (object os) → AreCanonicalMembers os
canonical_map k ls os canonical found = (canonical_found k (object os) ls canonical found).1

pub canonical_within : (ls os ms : Members) → AreCanonicalMembers ls → get_member (codes "object") ls ≡ Some (object os) → get_member (codes "metadata") os ≡ Some (object ms) → AreCanonicalMembers ms
canonical_within ls os ms canonical one other = canonical_map (codes "metadata") os ms (canonical_map (codes "object") ls os canonical one) other
