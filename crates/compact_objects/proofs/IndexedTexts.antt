-- The indexed text of a draft's object.
use Rattle.std.proofs.Common.{◌≡◌, ◌≢◌, ℕ, List, [], ◌∷◌, ◌++◌, length, false, codes, decimal, Option, Some, None, Ok, string_bytes, refl, sym, ap, ◌∙◌, subst}
use Rattle.std.specs.Prelude.{IfSome}
use Rattle.std.specs.Ordering.{nat_cmp, match_ordering}
use Rattle.std.specs.declared.cmp.Ordering.{Ordering}
use Rattle.std.specs.declared.cmp.Ordering.TheVariants.{Less, Equal, Greater}
use Rattle.std.specs.Cmp.Lexicographic.{slice_cmp}
use Rattle.json.specs.Print.{ArePrintableOrBad}
use Rattle.serde_json.specs.Data.{Data, object, string, Members, no_members, member, put}
use Rattle.serde_json.specs.Find.{get_member}
use Rattle.serde_json.specs.Written.{compact_text, has_float}
use Rattle.serde_json.proofs.Views.{get_member-put_other}
use Rattle.trees.specs.Building.{put_some}
use Rattle.trees.specs.Canonical.{IsCanonical}
use Rattle.trees.proofs.PutOrder.{canonical_found}
use Rattle.trees.proofs.SetMembers.{get_member-set_member}
use Rattle.objects.specs.Key.{KeyParts}
use Rattle.objects.specs.Meta.{IsMeta}
use Rattle.objects.specs.Object.{without_held}
use Rattle.objects.specs.PrintedText.{IsTextOf}
use Rattle.objects.specs.Reading.{draft_in}
use Rattle.objects.specs.Rewrites.{with_status}
use Rattle.objects.specs.Seams.{AreBelowStatus, HasSeams, HasSeamsAt, IsCanonicalStatus, IsIndexedText, IsSpecAt, spec_text, status_text, status_tokens, version_text}
use Rattle.objects.specs.Status.{member_of, with_member}
use Rattle.objects.specs.declared.meta.Meta.{Meta}
use Rattle.objects.specs.declared.object.Draft.{Draft}
use Rattle.objects.specs.declared.object.Object.{Object}
use Rattle.objects.specs.declared.printed.IndexedText.{IndexedText}
use Rattle.objects.proofs.Bodies.{body_with_status}
use Rattle.objects.proofs.BodyMembers.{member_of-integral}
use Rattle.objects.proofs.PlainDigits.{plain_decimal}
use Rattle.objects.proofs.SeamTexts.{printable_text}
use Rattle.objects.proofs.SplicedTexts.{spliced_text, status_kept}
use Rattle.compact_objects.specs.Drafts.{IsReadAs}
use Rattle.compact_objects.specs.Merging.{AreBelow, object_with, uid_data, without}
use Rattle.compact_objects.specs.Seaming.{HasSpecAtEnd, WritesObject, metadata_with}
use Rattle.compact_objects.specs.Texts.{with_meta}
use Rattle.compact_objects.specs.declared.merge.MapKind.TheVariants.{Object as ObjectPart}
use Rattle.compact_objects.proofs.Drafts.{body_canonical, body_with, body_without, held_writable_left, metadata, printed_with, status}
use Rattle.compact_objects.proofs.Printable.{AreWritable, IsWritable, IsWritableIfSome, all_writable, held_writable, map_writable, spec_printable, status_writable, writable_found, writable_some, writable_without}
use Rattle.compact_objects.proofs.Rules.{KeepsBody, keeps_body}

below_put_at : (o : Ordering) (l : List ℕ) (d e : Data) (ms : Members) → AreBelowStatus (member l e ms) → AreBelowStatus (put metadata d ms)
    → AreBelowStatus (match_ordering o (member metadata d (member l e ms)) (member l d ms) (member l e (put metadata d ms)))
below_put_at Less l d e ms all later = (refl, all)
below_put_at Equal l d e ms all later = all
below_put_at Greater l d e ms all later = (all.0, later)

below_put : (d : Data) (ms : Members) → AreBelowStatus ms → AreBelowStatus (put metadata d ms)
below_put d no_members all = (refl, tt)
below_put d (member l e ms) all = below_put_at (slice_cmp nat_cmp metadata l) l d e ms all (below_put d ms all.1)

below_status : (ms : Members) → AreBelow status ms → AreBelowStatus ms
below_status no_members all = tt
below_status (member k d ms) all = (all.0, below_status ms all.1)

-- what the draft and the store say of the object
pub record IsKnown (meta : Meta) (os ms : Members) (d : Draft) (s : Option Data) : Type 0 where
  pub keeps : KeepsBody os ms d
  pub canonical : IsCanonical (object os)
  pub metadata_canonical : IsCanonical (object ms)
  pub others_writable : AreWritable os
  pub metadata_writable : AreWritable ms
  pub fits : IsMeta meta
  pub some : meta.revision ≢ 0
  pub status_canonical : IsCanonicalStatus s
  pub status_printable : ArePrintableOrBad (status_tokens s)

known_of : (meta : Meta) (os ms : Members) (d : Draft) (s : Option Data) → get_member metadata os ≡ Some (object ms) → IsCanonical (object os) → has_float (object os) ≡ false → draft_in os ≡ Ok d → IsMeta meta
    → meta.revision ≢ 0 → IsCanonicalStatus s → ArePrintableOrBad (status_tokens s) → IsKnown meta os ms d s
known_of meta os ms d s found canonical whole reads fits some one printable =
    let metadata_canonical = canonical_found metadata (object ms) os canonical.1 found in
    let metadata_whole : has_float (object ms) ≡ false = subst (λ f. IfSome f (λ v. has_float v ≡ false)) found (member_of-integral metadata (object os) whole) in
    record {
      keeps = keeps_body os ms d found reads;
      canonical = canonical;
      metadata_canonical = metadata_canonical;
      others_writable = all_writable os canonical.1 whole;
      metadata_writable = all_writable ms metadata_canonical.1 metadata_whole;
      fits = fits;
      some = some;
      status_canonical = one;
      status_printable = printable;
    }

-- the object with what the store knows of it
abbrev pub known_object : Meta → Draft → Option Data → Object
known_object meta d s = with_status s (with_meta meta d.object)

body_of : (meta : Meta) (os ms : Members) (d : Draft) (s : Option Data) → IsKnown meta os ms d s → (known_object meta d s).body ≡ object (body_with s (object (without_held ms)) os)
body_of meta os ms d s k = ap (with_member status s) k.keeps.body_is

writable_with : (meta : Meta) (os ms : Members) (d : Draft) (s value : Option Data) (n : ℕ) → IsKnown meta os ms d s → ArePrintableOrBad (status_tokens value)
    → IsWritable (object (object_with (metadata_with d.object.key meta ms (string (decimal n)) (uid_data meta.uid)) value (without ObjectPart os)))
writable_with meta os ms d s value n k printable =
    let full = metadata_with d.object.key meta ms (string (decimal n)) (uid_data meta.uid) in
    map_writable (object_with full value (without ObjectPart os))
    (writable_some metadata (Some (object full)) (put_some status value (without ObjectPart os))
    (map_writable full (held_writable d.object.key meta (decimal n) (without_held ms) k.fits (held_writable_left ms k.metadata_writable)))
    (writable_some status value (without ObjectPart os) (status_writable value printable) (writable_without ObjectPart os k.others_writable)))

abbrev seams_of : (meta : Meta) (os ms : Members) (d : Draft) (s : Option Data) (end : List ℕ) (version status_at : ℕ) (spec : Option ℕ) (bytes : List ℕ) → IsKnown meta os ms d s
    → (w : WritesObject d.object.key meta os ms end version status_at spec bytes) → HasSeams (known_object meta d s) w.front w.middle
seams_of meta os ms d s end version status_at spec bytes k w =
    let o = known_object meta d s in
    let x = object (without_held ms) in
    record {
      others = put metadata x (without ObjectPart os);
      status = s;
      below = below_put x (without ObjectPart os) (below_status (without ObjectPart os) w.below);
      body = body_of meta os ms d s k ∙ ap object (body_without s x os k.canonical.0);
      texts = λ n value some small.
          ap compact_text (printed_with o os ms n value k.canonical.0 some) ∙ w.written (string (decimal n)) value
          ∙ ap (λ (e : List ℕ). w.front ++ ((34 ∷ (e ++ 34 ∷ [])) ++ (w.middle ++ status_text value))) (plain_decimal n small);
      tokens = λ n value some small printable.
          printable_text _ (subst IsWritable (sym (printed_with o os ms n value k.canonical.0 some)) (writable_with meta os ms d s value n k printable));
      printable = k.status_printable;
      rules = record { key = k.keeps.key; meta = k.fits; body = body_with_status d.object.key.kind s d.object.body k.keeps.body };
      canonical = subst IsCanonical (sym (body_of meta os ms d s k)) (body_canonical s os ms k.status_canonical k.canonical k.metadata_canonical);
      written = k.some;
    }

abbrev seams_at : (meta : Meta) (os ms : Members) (d : Draft) (s : Option Data) (end : List ℕ) (version status_at : ℕ) (spec : Option ℕ) (bytes : List ℕ) → IsKnown meta os ms d s
    → (w : WritesObject d.object.key meta os ms end version status_at spec bytes) → HasSeamsAt (known_object meta d s) version status_at
seams_at meta os ms d s end version status_at spec bytes k w = record {
  front = w.front;
  middle = w.middle;
  seams = seams_of meta os ms d s end version status_at spec bytes k w;
  version_at = w.version_at;
  status_at = w.status_at;
}

text_of : (meta : Meta) (os ms : Members) (d : Draft) (s : Option Data) (end : List ℕ) (version status_at : ℕ) (spec : Option ℕ) (bytes : List ℕ) → IsKnown meta os ms d s
    → WritesObject d.object.key meta os ms end version status_at spec bytes → end ≡ status_text s → IsTextOf (known_object meta d s) bytes
text_of meta os ms d s end version status_at spec bytes k w ends =
    let o = known_object meta d s in
    let at = seams_at meta os ms d s end version status_at spec bytes k w in
    subst (λ p. IsTextOf p bytes) (status_kept o w.front w.middle at.seams meta.revision)
    (spliced_text o version status_at at meta.revision s bytes k.some k.fits.revision k.status_printable k.status_canonical
    (w.new_is ∙ ap (λ e. w.front ++ (version_text meta.revision ++ (w.middle ++ e))) ends))

spec_of : (meta : Meta) (os ms : Members) (d : Draft) (s : Option Data) → IsKnown meta os ms d s → member_of (codes "spec") (known_object meta d s).body ≡ get_member (codes "spec") os
spec_of meta os ms d s k =
    let x = object (without_held ms) in
    ap (member_of (codes "spec")) (body_of meta os ms d s k) ∙ get_member-set_member (codes "spec") status s (put metadata x os) (λ e. cc)
    ∙ get_member-put_other (codes "spec") metadata x os (λ e. cc)

-- the spec is before the status
spec_at : (meta : Meta) (os ms : Members) (d : Draft) (s : Option Data) (end : List ℕ) (version status_at : ℕ) (spec : Option ℕ) (bytes : List ℕ) (size : ℕ) → IsKnown meta os ms d s
    → WritesObject d.object.key meta os ms end version status_at spec bytes → spec ≡ Some size → IsSpecAt (known_object meta d s) version status_at size
spec_at meta os ms d s end version status_at spec bytes size k w known =
    let here : HasSpecAtEnd w.middle (get_member (codes "spec") os) size = subst (λ f. IfSome f (HasSpecAtEnd w.middle (get_member (codes "spec") os))) known w.spec_at in
    let same = spec_of meta os ms d s k in
    record {
      at = seams_at meta os ms d s end version status_at spec bytes k w;
      before = here.before;
      middle = here.middle_is ∙ ap (λ v. here.before ++ spec_text v) (sym same);
      size = here.size_is ∙ ap (λ v. length (spec_text v)) (sym same);
      printable = spec_printable _ (subst (λ v. IsWritableIfSome v) (sym same) (writable_found (codes "spec") os k.others_writable));
    }

-- ---- the indexed text

-- what is known of an indexed text of an object of that meta
pub record IsMade (meta : Meta) (bytes : List ℕ) (version status : ℕ) (spec : Option ℕ) (made : IndexedText) : Type 0 where
  pub text : string_bytes made.text ≡ bytes
  pub uid : made.uid ≡ meta.uid
  pub revision : made.revision ≡ meta.revision
  pub version_is : made.version ≡ version
  pub status_is : made.status ≡ status
  pub known : made.generation ≢ 0 → (spec ≡ Some made.spec) × (made.generation ≡ meta.generation) × (meta.deletion ≡ None)

indexed_is : (meta : Meta) (os ms : Members) (d : Draft) (s : Option Data) (end : List ℕ) (version status_at : ℕ) (spec : Option ℕ) (bytes : List ℕ) (made : IndexedText) → IsKnown meta os ms d s
    → WritesObject d.object.key meta os ms end version status_at spec bytes → end ≡ status_text s → IsMade meta bytes version status_at spec made → IsIndexedText (known_object meta d s) made
indexed_is meta os ms d s end version status_at spec bytes made k w ends m =
    let o = known_object meta d s in
    record {
      text = subst (IsTextOf o) (sym m.text) (text_of meta os ms d s end version status_at spec bytes k w ends);
      uid = m.uid;
      revision = m.revision;
      seams = λ some. rw (m.version_is, m.status_is) (seams_at meta os ms d s end version status_at spec bytes k w);
      known = λ some told.
          let known = m.known told in
          record {
            spec = rw (m.version_is, m.status_is) (spec_at meta os ms d s end version status_at spec bytes made.spec k w known.0);
            generation = known.1;
            unmarked = known.2;
          };
    }

pub made_of : (meta : Meta) (bytes : List ℕ) (version status_at : ℕ) (spec : Option ℕ) (found : Option IndexedText) → IfSome found (λ made. string_bytes made.text ≡ bytes)
    → IfSome found (λ made. (made.uid ≡ meta.uid) × (made.revision ≡ meta.revision)) → IfSome found (λ made. (made.version ≡ version) × (made.status ≡ status_at))
    → IfSome found (λ made. made.generation ≢ 0 → (spec ≡ Some made.spec) × (made.generation ≡ meta.generation) × (meta.deletion ≡ None)) → IfSome found (IsMade meta bytes version status_at spec)
made_of meta bytes version status_at spec None a b c d = tt
made_of meta bytes version status_at spec (Some made) a b c d = record { text = a; uid = b.0; revision = b.1; version_is = c.0; status_is = c.1; known = d }

if_some_indexed : (P Q : IndexedText → Type 0) (found : Option IndexedText) → ((made : IndexedText) → P made → Q made) → IfSome found P → IfSome found Q
if_some_indexed P Q None f h = tt
if_some_indexed P Q (Some made) f h = f made h

pub draft_indexed : (key : KeyParts) (meta : Meta) (os ms : Members) (d : Draft) (s : Option Data) (end : List ℕ) (version status_at : ℕ) (spec : Option ℕ) (bytes : List ℕ) (uid said : Option (List ℕ)) (found : Option IndexedText)
    → IsReadAs key uid said os → get_member metadata os ≡ Some (object ms) → IsCanonical (object os) → has_float (object os) ≡ false → draft_in os ≡ Ok d → IsMeta meta → meta.revision ≢ 0 → IsCanonicalStatus s
    → ArePrintableOrBad (status_tokens s) → WritesObject key meta os ms end version status_at spec bytes → end ≡ status_text s → IfSome found (IsMade meta bytes version status_at spec)
    → IfSome found (IsIndexedText (known_object meta d s))
draft_indexed key meta os ms d s end version status_at spec bytes uid said found r there canonical whole reads fits some one printable w ends made =
    let same : r.draft ≡ d = (let e = sym r.reads ∙ reads in cc) in
    let key_is : key ≡ d.object.key = sym r.key_is ∙ ap (λ x. x.object.key) same in
    let k = known_of meta os ms d s there canonical whole reads fits some one printable in
    if_some_indexed (IsMade meta bytes version status_at spec) _ found
    (λ text m. indexed_is meta os ms d s end version status_at spec bytes text k (subst (λ x. WritesObject x meta os ms end version status_at spec bytes) key_is w) ends m) made
