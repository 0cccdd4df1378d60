-- The metadata of a pod has its shape.
use Rattle.std.proofs.Common.{◌≡◌, ℕ, List, Bool, true, false, Option, Some, None, cond, refl}
use Rattle.std.specs.Prelude.{codes, decimal, option_map}
use Rattle.std.specs.Ordering.{nat_cmp, match_ordering}
use Rattle.std.specs.declared.cmp.Ordering.{Ordering}
use Rattle.std.specs.declared.cmp.Ordering.TheVariants.{Less, Equal, Greater}
use Rattle.std.specs.Cmp.Lexicographic.{slice_cmp}
use Rattle.std.specs.Option.{is_some}
use Rattle.std.proofs.lemmas.Bool.{and_parts}
use Rattle.serde_json.specs.Data.{Data, string, object, Members, no_members, member, put}
use Rattle.serde_json.specs.Find.{as_str}
use Rattle.objects.specs.MetadataShape.{are_texts, metadata_fits}
use Rattle.objects.specs.Object.{has_held, object_at}
use Rattle.objects.specs.Building.{put_some}
use Rattle.set_views.specs.Set.{SetParts}
use Rattle.revisions.specs.Built.{owned_metadata}
use Rattle.manifests.specs.BuiltPod.{pod_labels, pod_metadata}
use Rattle.manifests.specs.Template.{labels_in, part}

texts_put_at : (o : Ordering) (k s l : List ℕ) (e : Data) (ms : Members) → are_texts (member l e ms) ≡ true → are_texts (put k (string s) ms) ≡ true
    → are_texts (match_ordering o (member k (string s) (member l e ms)) (member l (string s) ms) (member l e (put k (string s) ms))) ≡ true
texts_put_at Less k s l e ms h later = h
texts_put_at Equal k s l e ms h later = (and_parts (is_some (as_str e)) (are_texts ms) h).1
texts_put_at Greater k s l e ms h later = rw ((and_parts (is_some (as_str e)) (are_texts ms) h).0, later) refl

-- a text that is put among texts
texts_put : (k s : List ℕ) (ms : Members) → are_texts ms ≡ true → are_texts (put k (string s) ms) ≡ true
texts_put k s no_members h = refl
texts_put k s (member l e ms) h = texts_put_at (slice_cmp nat_cmp k l) k s l e ms h (texts_put k s ms (and_parts (is_some (as_str e)) (are_texts ms) h).1)

pub texts_if : (b : Bool) (ms : Members) → are_texts ms ≡ b → are_texts (cond b ms no_members) ≡ true
texts_if true ms h = h
texts_if false ms h = refl

labels_are_texts : (name revision : List ℕ) (ordinal : ℕ) (metadata : Members) → are_texts (pod_labels name revision ordinal (labels_in metadata)) ≡ true
labels_are_texts name revision ordinal metadata =
    let found = part (codes "labels") metadata in
    let named = put (codes "statefulset.kubernetes.io/pod-name") (string name) (labels_in metadata) in
    let versioned = put (codes "controller-revision-hash") (string revision) named in
    texts_put (codes "apps.kubernetes.io/pod-index") (decimal ordinal) versioned
    (texts_put (codes "controller-revision-hash") revision named
    (texts_put (codes "statefulset.kubernetes.io/pod-name") name (labels_in metadata) (texts_if (are_texts found) found refl)))

unheld_with : (set : SetParts) (annotations : Option Members) (labels : Members) → has_held (put (codes "labels") (object labels) (put_some (codes "annotations") (option_map object annotations) (owned_metadata set))) ≡ false
unheld_with set None labels = refl
unheld_with set (Some annotations) labels = refl

fits_with : (set : SetParts) (annotations : Option Members) (labels : Members) → are_texts labels ≡ true
    → metadata_fits (put (codes "labels") (object labels) (put_some (codes "annotations") (option_map object annotations) (owned_metadata set))) ≡ true
unfolding metadata_fits
fits_with set None labels h = rw h refl
fits_with set (Some annotations) labels h = rw h refl

module _ (set : SetParts) (name revision : List ℕ) (ordinal : ℕ) (metadata : Members) where
  pub metadata_unheld : has_held (pod_metadata set name revision ordinal metadata) ≡ false
  metadata_unheld = unheld_with set (object_at (codes "annotations") metadata) (pod_labels name revision ordinal (labels_in metadata))

  pub pod_metadata_fits : metadata_fits (pod_metadata set name revision ordinal metadata) ≡ true
  pod_metadata_fits = fits_with set (object_at (codes "annotations") metadata) (pod_labels name revision ordinal (labels_in metadata)) (labels_are_texts name revision ordinal metadata)
