-- An object that is written up to its resource version, and from there on.
use Rattle.std.proofs.Common.{◌≡◌, inl, inr, ℕ, ◌-◌, List, [], ◌∷◌, ◌++◌, length, true, codes, Option, Some, None, refl, sym, ap, ◌∙◌, subst, arith, append_assoc, length-append}
use Rattle.std.specs.Prelude.{IfSome}
use Rattle.std.proofs.lemmas.List.{append_cancel_right}
use Rattle.json.specs.Print.{escape_byte}
use Rattle.serde_json.specs.Data.{Data, object, Members, no_members, member}
use Rattle.serde_json.specs.Find.{get_member}
use Rattle.serde_json.specs.Written.{compact_text, members_text}
use Rattle.trees.specs.Building.{put_some}
use Rattle.compact.specs.declared.table.Entry.{Entry}
use Rattle.objects.specs.Key.{KeyParts}
use Rattle.objects.specs.Meta.{MetaParts}
use Rattle.objects.specs.Seams.{spec_text, status_text, version_text}
use Rattle.objects.proofs.SplicedTexts.{with_end}
use Rattle.compact_objects.specs.Merging.{AreBelow, WritesBelow, object_with, rest_text, uid_data, without}
use Rattle.compact_objects.specs.Seaming.{HasSpecAlone, HasSpecAtEnd, IsEnd, IsSpecAlone, WritesFront, WritesObject, WritesToVersion, member_with, metadata_with}
use Rattle.compact_objects.specs.declared.merge.MapKind.TheVariants.{Metadata, Object}
use Rattle.compact_objects.proofs.Maps.{begun_text, behind, has_put, some_behind, with_next}
use Rattle.compact_objects.proofs.Merging.{key_text}

-- ---- up to the version

pub front_written : (key : KeyParts) (meta : MetaParts) (os ms : Members) (l1 l2 : List ℕ) (e1 e2 : List Entry) (old t1 t2 new : List ℕ) → old ≡ [] → (b : WritesBelow Object (codes "metadata") os l1 e1 old t1)
    → (w : WritesToVersion (member_with key meta ms) l2 e2 t1 t2) → ((back : List ℕ) (x : ℕ) → t2 ≡ x ∷ back → new ≡ 123 ∷ back) → WritesFront key meta os ms l2 e2 l1 e1 new
front_written key meta os ms l1 l2 e1 e2 old t1 t2 new none b w begin =
    let some = some_behind b.bytes (w.first ∷ w.others) (w.first, w.others, refl) in
    let written : t2 ≡ some.0 ∷ some.1 = behind old b.bytes t1 (w.first ∷ w.others) t2 b.new_is w.new_is ∙ ap (λ t. t ++ (b.bytes ++ w.first ∷ w.others)) none ∙ some.2 in
    let front : new ≡ 123 ∷ some.1 = begin some.1 some.0 written in
    record {
      versioned = w.rest;
      versioned_left = w.left_is;
      versioned_entries = w.entries_are;
      versioned_ascending = w.ascending;
      rest = b.rest;
      left_is = b.left_is;
      entries_are = b.entries_are;
      ascending = b.ascending;
      kept = b.kept_above (codes "status") refl;
      spec = (b.kept_above (codes "spec") refl).found;
      written = λ version uid status.
          let known = rest_text Metadata ((codes "uid", uid) ∷ []) w.rest in
          let last = rest_text Object ((codes "status", status) ∷ []) b.rest in
          let metadata = object (metadata_with key meta ms version uid) in
          let next : member_with key meta ms version uid ++ last ≡ (w.first ∷ w.others) ++ (compact_text version ++ (known ++ last)) =
          ap (λ t. t ++ last) (w.written version uid) ∙ append_assoc (w.first ∷ w.others) (compact_text version ++ known) last
          ∙ ap (λ t. (w.first ∷ w.others) ++ t) (append_assoc (compact_text version) known last) in
          let whole = with_next _ b.bytes _ (w.first ∷ w.others) (compact_text version ++ (known ++ last))
          (key_text Object (codes "metadata") (Some metadata) os l1 e1 old t1 b ((codes "status", status) ∷ []) (refl, tt)) next
          ∙ ap (λ s. s ++ (compact_text version ++ (known ++ last))) some.2 in
          begun_text (object_with (metadata_with key meta ms version uid) status (without Object os)) some.0 (some.1 ++ (compact_text version ++ (known ++ last)))
          (has_put (codes "metadata") metadata (put_some (codes "status") status (without Object os))) whole
          ∙ ap (λ f. f ++ (compact_text version ++ (known ++ last))) (sym front);
    }

-- ---- the last members

none_left : (ms : Members) → IsEnd ms → without Object ms ≡ no_members
none_left no_members end = refl
none_left (member k d no_members) named = ap (λ l. without Object (member l d no_members)) named
none_left (member k d (member l e ms)) end = absurd end

below_end : (ms : Members) → IsEnd ms → AreBelow (codes "status") (without Object ms)
below_end ms end = subst (AreBelow (codes "status")) (sym (none_left ms end)) tt

status_alone : (status : Option Data) → members_text true (put_some (codes "status") status no_members) ≡ status_text status
unfolding escape_byte
status_alone None = refl
status_alone (Some d) = refl

end_text : (ms : Members) (status : Option Data) → IsEnd ms → rest_text Object ((codes "status", status) ∷ []) ms ≡ status_text status
end_text ms status end = ap (λ os. members_text true (put_some (codes "status") status os)) (none_left ms end) ∙ status_alone status

-- ---- the spec alone

spec_alone : (d : Data) → members_text true (member (codes "spec") d no_members) ≡ spec_text (Some d) ++ 125 ∷ []
unfolding escape_byte
spec_alone d = refl

end_has_none : (ms : Members) → IsEnd ms → get_member (codes "spec") ms ≡ None
end_has_none no_members end = refl
end_has_none (member k d no_members) named = ap (λ l. get_member (codes "spec") (member l d no_members)) named
end_has_none (member k d (member l e ms)) end = absurd end

none_text : (ms : Members) → IsEnd ms → members_text true (without Object ms) ≡ spec_text (get_member (codes "spec") ms) ++ 125 ∷ []
none_text ms end = ap (members_text true) (none_left ms end) ∙ ap (λ s. spec_text s ++ 125 ∷ []) (sym (end_has_none ms end))

alone_text : (ms : Members) → IsSpecAlone ms → members_text true (without Object ms) ≡ spec_text (get_member (codes "spec") ms) ++ 125 ∷ []
alone_text no_members alone = refl
alone_text (member k d ms) (inl end) = none_text (member k d ms) end
alone_text (member k d ms) (inr alone) =
    let spec = codes "spec" in
    ap (λ l. members_text true (without Object (member l d ms))) alone.0 ∙ ap (λ os. members_text true (member spec d os)) (none_left ms alone.1) ∙ spec_alone d
    ∙ ap (λ l. spec_text (get_member spec (member l d ms)) ++ 125 ∷ []) (sym alone.0)

behind_text : (ms : Members) → HasSpecAlone ms → members_text true (without Object ms) ≡ spec_text (get_member (codes "spec") ms) ++ 125 ∷ []
behind_text no_members alone = absurd alone
behind_text (member k d ms) alone =
    ap (λ l. members_text true (without Object (member l d ms))) alone.0 ∙ alone_text ms alone.1
    ∙ ap (λ l. spec_text (get_member (codes "spec") (member l d ms)) ++ 125 ∷ []) (sym alone.0)

-- the bytes up to the status are the spec's
spec_bytes : (rest : Members) (left : List ℕ) (entries : List Entry) (old new : List ℕ) (b : WritesBelow Object (codes "status") rest left entries old new) → IsEnd b.rest → HasSpecAlone rest
    → b.bytes ≡ spec_text (get_member (codes "spec") rest)
spec_bytes rest left entries old new b end alone =
    append_cancel_right b.bytes (spec_text (get_member (codes "spec") rest)) (125 ∷ [])
    (ap (λ t. b.bytes ++ t) (sym (end_text b.rest None end)) ∙ sym (b.written [] None tt) ∙ behind_text rest alone)

if_some_size : (P Q : ℕ → Type 0) (size : Option ℕ) → ((n : ℕ) → P n → Q n) → IfSome size P → IfSome size Q
if_some_size P Q None f h = h
if_some_size P Q (Some n) f h = f n h

-- ---- the whole

pub object_written : (key : KeyParts) (meta : MetaParts) (os ms : Members) (l1 l2 l3 : List ℕ) (e1 e2 e3 : List Entry) (t0 t1 t2 t3 new end : List ℕ) (version begin status : ℕ) (spec : Option ℕ) → (f : WritesFront key meta os ms l2 e2 l1 e1 t0)
    → t1 ≡ t0 ++ version_text meta.revision → t2 ≡ t1 ++ rest_text Metadata ((codes "uid", uid_data meta.uid) ∷ []) f.versioned → (b : WritesBelow Object (codes "status") f.rest l3 e3 t2 t3) → IsEnd b.rest → new ≡ t3 ++ end
    → version ≡ length t0 → begin ≡ length t2 → status ≡ length t3 → IfSome spec (λ size. (size ≡ status - begin) × HasSpecAlone f.rest) → WritesObject key meta os ms end version status spec new
object_written key meta os ms l1 l2 l3 e1 e2 e3 t0 t1 t2 t3 new end version begin status spec f first second b ended last version_is begin_is status_is alone =
    let known = rest_text Metadata ((codes "uid", uid_data meta.uid) ∷ []) f.versioned in
    let middle = known ++ b.bytes in
    let up_to_status : t3 ≡ t0 ++ (version_text meta.revision ++ middle) = behind t0 (version_text meta.revision) t1 middle t3 first (behind t1 known t2 b.bytes t3 second b.new_is) in
    record {
      front = t0;
      middle = middle;
      below = f.kept.below (b.kept.below (below_end b.rest ended));
      written = λ version status.
          f.written version (uid_data meta.uid) status
          ∙ ap (λ t. t0 ++ (compact_text version ++ (known ++ t))) (b.written [] status tt ∙ ap (λ t. b.bytes ++ t) (end_text b.rest status ended))
          ∙ ap (λ t. t0 ++ (compact_text version ++ t)) (sym (append_assoc known b.bytes (status_text status)));
      new_is = with_end t0 (version_text meta.revision) middle end t3 new up_to_status last;
      version_at = version_is;
      status_at = status_is ∙ ap length up_to_status;
      spec_at = if_some_size _ (HasSpecAtEnd middle (get_member (codes "spec") os)) spec (λ size h.
          let bytes_are : b.bytes ≡ spec_text (get_member (codes "spec") os) = spec_bytes f.rest l3 e3 t2 t3 b ended h.1 ∙ ap spec_text (sym f.spec) in
          record {
            before = known;
            middle_is = ap (λ t. known ++ t) bytes_are;
            size_is = omega (arith, h.0, begin_is, status_is, ap length b.new_is ∙ length-append t2 b.bytes, ap length bytes_are);
          }) alone;
    }
