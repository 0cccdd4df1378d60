-- The metadata of a claim has its shape.
use Rattle.std.proofs.Common.{◌≡◌, ℕ, List, true, false, Option, Some, None, refl}
use Rattle.std.specs.Prelude.{codes, option_map}
use Rattle.std.specs.Option.{is_some, option_map_or}
use Rattle.std.specs.Ordering.{nat_cmp, match_ordering}
use Rattle.std.specs.declared.cmp.Ordering.{Ordering}
use Rattle.std.specs.declared.cmp.Ordering.TheVariants.{Less, Equal, Greater}
use Rattle.std.specs.Cmp.Lexicographic.{slice_cmp}
use Rattle.std.proofs.lemmas.Bool.{and_from, and_parts}
use Rattle.serde_json.specs.Data.{Data, object, Items, no_items, item, Members, no_members, member, put}
use Rattle.serde_json.specs.Find.{as_str}
use Rattle.objects.specs.MetadataShape.{are_owners, are_texts, labels_fit, metadata_fits, owners_fit}
use Rattle.objects.specs.Object.{has_held, object_at}
use Rattle.objects.specs.Building.{put_some}
use Rattle.set_views.specs.Set.{SetParts}
use Rattle.manifests.specs.BuiltClaim.{claim_metadata, labels_if_any, match_labels, owners_if_any, selector_of}
use Rattle.manifests.specs.Template.{labels_in, part, texts_in, with_all}
use Rattle.manifests.proofs.PodMetadata.{texts_if}

text_put_at : (o : Ordering) (k l : List ℕ) (d e : Data) (ms : Members) → is_some (as_str d) ≡ true → are_texts (member l e ms) ≡ true → are_texts (put k d ms) ≡ true
    → are_texts (match_ordering o (member k d (member l e ms)) (member l d ms) (member l e (put k d ms))) ≡ true
text_put_at Less k l d e ms text h later = rw text h
text_put_at Equal k l d e ms text h later = rw text (and_parts (is_some (as_str e)) (are_texts ms) h).1
text_put_at Greater k l d e ms text h later = rw ((and_parts (is_some (as_str e)) (are_texts ms) h).0, later) refl

text_put : (k : List ℕ) (d : Data) (ms : Members) → is_some (as_str d) ≡ true → are_texts ms ≡ true → are_texts (put k d ms) ≡ true
text_put k d no_members text h = rw text refl
text_put k d (member l e ms) text h = text_put_at (slice_cmp nat_cmp k l) k l d e ms text h (text_put k d ms text (and_parts (is_some (as_str e)) (are_texts ms) h).1)

-- texts that are put over texts
texts_over : (more ms : Members) → are_texts more ≡ true → are_texts ms ≡ true → are_texts (with_all more ms) ≡ true
texts_over no_members ms h here = here
texts_over (member k d more) ms h here =
    let parts = and_parts (is_some (as_str d)) (are_texts more) h in
    texts_over more (put k d ms) parts.1 (text_put k d ms parts.0 here)

texts_found : (k : List ℕ) (ms : Members) → are_texts (texts_in k ms) ≡ true
texts_found k ms = texts_if (are_texts (part k ms)) (part k ms) refl

matched : (found : Option Members) → are_texts (option_map_or (texts_in (codes "matchLabels")) found no_members) ≡ true
matched None = refl
matched (Some selector) = texts_found (codes "matchLabels") selector

labels_if_any_fit : (ms : Members) → are_texts ms ≡ true → labels_fit (labels_if_any ms) ≡ true
labels_if_any_fit no_members h = refl
labels_if_any_fit (member k d ms) h = h

owners_if_any_fit : (ds : Items) → are_owners ds ≡ true → owners_fit (owners_if_any ds) ≡ true
owners_if_any_fit no_items h = refl
owners_if_any_fit (item d ds) h = h

-- annotations, labels and owners, each if it is there
abbrev metadata_with : Option Members → Option Data → Option Data → Members
metadata_with annotations labels owners =
    put_some (codes "annotations") (option_map object annotations) (put_some (codes "labels") labels (put_some (codes "ownerReferences") owners no_members))

unheld_with : (annotations : Option Members) (labels owners : Option Data) → has_held (metadata_with annotations labels owners) ≡ false
unheld_with None None None = refl
unheld_with None None (Some o) = refl
unheld_with None (Some l) None = refl
unheld_with None (Some l) (Some o) = refl
unheld_with (Some a) None None = refl
unheld_with (Some a) None (Some o) = refl
unheld_with (Some a) (Some l) None = refl
unheld_with (Some a) (Some l) (Some o) = refl

fits_with : (annotations : Option Members) (labels owners : Option Data) → labels_fit labels ≡ true → owners_fit owners ≡ true → metadata_fits (metadata_with annotations labels owners) ≡ true
unfolding metadata_fits
fits_with None None None hl ho = and_from _ _ hl ho
fits_with None None (Some o) hl ho = and_from _ _ hl ho
fits_with None (Some l) None hl ho = and_from _ _ hl ho
fits_with None (Some l) (Some o) hl ho = and_from _ _ hl ho
fits_with (Some a) None None hl ho = and_from _ _ hl ho
fits_with (Some a) None (Some o) hl ho = and_from _ _ hl ho
fits_with (Some a) (Some l) None hl ho = and_from _ _ hl ho
fits_with (Some a) (Some l) (Some o) hl ho = and_from _ _ hl ho

module _ (set : SetParts) (owners : Items) (metadata : Members) where
  pub claim_metadata_unheld : has_held (claim_metadata set owners metadata) ≡ false
  claim_metadata_unheld = unheld_with (object_at (codes "annotations") metadata) (labels_if_any (with_all (match_labels set) (labels_in metadata))) (owners_if_any owners)

  pub claim_metadata_fits : are_owners owners ≡ true → metadata_fits (claim_metadata set owners metadata) ≡ true
  claim_metadata_fits h =
      fits_with (object_at (codes "annotations") metadata) (labels_if_any (with_all (match_labels set) (labels_in metadata))) (owners_if_any owners)
      (labels_if_any_fit (with_all (match_labels set) (labels_in metadata)) (texts_over (match_labels set) (labels_in metadata) (matched (selector_of set)) (texts_found (codes "labels") metadata)))
      (owners_if_any_fit owners h)
