-- Maps that are written up to a seam.
use Rattle.std.proofs.Common.{◌≡◌, ℕ, List, [], ◌∷◌, ◌++◌, drop, true, Option, Some, None, codes, refl, sym, ap, ◌∙◌, append_assoc, cond}
use Rattle.std.specs.Prelude.{⊤, option_map}
use Rattle.std.specs.Ordering.{nat_cmp, match_ordering}
use Rattle.std.specs.declared.cmp.Ordering.{Ordering}
use Rattle.std.specs.declared.cmp.Ordering.TheVariants.{Less, Equal, Greater}
use Rattle.std.specs.Cmp.Lexicographic.{slice_cmp}
use Rattle.json.specs.Print.{escape_byte}
use Rattle.serde_json.specs.Data.{Data, number, string, unsigned, object, Members, no_members, member, put}
use Rattle.serde_json.specs.Written.{compact_text, members_text}
use Rattle.trees.specs.Building.{put_some}
use Rattle.compact.specs.declared.table.Entry.{Entry}
use Rattle.objects.specs.Key.{KeyParts}
use Rattle.objects.specs.Merged.{puts}
use Rattle.objects.specs.Meta.{MetaParts}
use Rattle.objects.specs.Object.{is_held, without_held}
use Rattle.objects.specs.Text.{unless_zero}
use Rattle.compact_objects.specs.Merging.{WritesBelow, WritesStep, held_with, rest_text, some_text, without}
use Rattle.compact_objects.specs.Seaming.{WritesToVersion, member_with, members_with, metadata_with}
use Rattle.compact_objects.specs.declared.merge.MapKind.TheVariants.{Metadata}
use Rattle.compact_objects.proofs.Merging.{key_text}

-- ---- the brace of a map

abbrev pub HasMembers : Members → Type 0
HasMembers no_members = ⊥
HasMembers (member k d ms) = ⊤

has_put_at : (o : Ordering) (k l : List ℕ) (d e : Data) (ms ns : Members) → HasMembers (match_ordering o (member k d (member l e ms)) (member l d ms) (member l e ns))
has_put_at Less k l d e ms ns = tt
has_put_at Equal k l d e ms ns = tt
has_put_at Greater k l d e ms ns = tt

pub has_put : (k : List ℕ) (d : Data) (ms : Members) → HasMembers (put k d ms)
has_put k d no_members = tt
has_put k d (member l e ms) = has_put_at (slice_cmp nat_cmp k l) k l d e ms (put k d ms)

has_some : (k : List ℕ) (v : Option Data) (ms : Members) → HasMembers ms → HasMembers (put_some k v ms)
has_some k None ms has = has
has_some k (Some d) ms has = has_put k d ms

has_with : (key : KeyParts) (meta : MetaParts) (ms : Members) (version : Data) (uid : Option Data) → HasMembers (metadata_with key meta ms version uid)
has_with key meta ms version uid =
    has_some (codes "deletionTimestamp") (option_map string meta.deletion) _
    (has_some (codes "generation") (unless_zero meta.generation (number (unsigned meta.generation))) _
    (has_put (codes "name") (string key.name) (puts (drop 3 (held_with key meta (Some version) uid)) (without_held ms))))

-- with a brace instead of its first comma, the text is that of the map
pub begun_text : (ms : Members) (x : ℕ) (back : List ℕ) → HasMembers ms → members_text true ms ≡ x ∷ back → compact_text (object ms) ≡ 123 ∷ back
begun_text no_members x back has is = absurd has
begun_text (member k d ms) x back has is = ap (λ t. 123 ∷ t) cc

-- ---- bytes after bytes

pub behind : (old a mid b new : List ℕ) → mid ≡ old ++ a → new ≡ mid ++ b → new ≡ old ++ (a ++ b)
behind old a mid b new first second = second ∙ ap (λ t. t ++ b) first ∙ append_assoc old a b

pub with_next : (whole a next b rest : List ℕ) → whole ≡ a ++ next → next ≡ b ++ rest → whole ≡ (a ++ b) ++ rest
with_next whole a next b rest first second = first ∙ ap (λ t. a ++ t) second ∙ sym (append_assoc a b rest)

-- bytes of which there are some
abbrev pub AreSome : List ℕ → Type 0
AreSome s = (x : ℕ) × (back : List ℕ) × (s ≡ x ∷ back)

pub some_behind : (s t : List ℕ) → AreSome t → AreSome (s ++ t)
some_behind [] t h = h
some_behind (x ∷ s) t h = (x, s ++ t, refl)

-- ---- the metadata

without_set : (ms : Members) → without Metadata ms ≡ without_held ms
without_set no_members = refl
without_set (member k d ms) = ap (λ w. cond (is_held k) w (member k d w)) (without_set ms)

version_key : (version : Data) → some_text (codes "resourceVersion") (Some version) ≡ codes ",\"resourceVersion\":" ++ compact_text version
unfolding escape_byte
version_key version = refl

metadata_key : (d : Data) → some_text (codes "metadata") (Some d) ≡ codes ",\"metadata\":" ++ compact_text d
unfolding escape_byte
metadata_key d = refl

-- the members up to the resource version, step by step
steps : (v1 v2 : Option Data) (d3 d4 : Data) (ms : Members) (l1 l2 l3 l4 l5 : List ℕ) (e1 e2 e3 e4 e5 : List Entry) (t0 t1 t2 t3 t4 t5 : List ℕ)
    → (s1 : WritesStep Metadata (codes "deletionTimestamp") v1 ms l1 e1 t0 t1) → (s2 : WritesStep Metadata (codes "generation") v2 s1.rest l2 e2 t1 t2)
    → (s3 : WritesStep Metadata (codes "name") (Some d3) s2.rest l3 e3 t2 t3) → (s4 : WritesStep Metadata (codes "namespace") (Some d4) s3.rest l4 e4 t3 t4)
    → (w : WritesBelow Metadata (codes "resourceVersion") s4.rest l5 e5 t4 t5) → (version : Data) (uid : Option Data)
    → rest_text Metadata ((codes "deletionTimestamp", v1) ∷ (codes "generation", v2) ∷ (codes "name", Some d3) ∷ (codes "namespace", Some d4) ∷ (codes "resourceVersion", Some version) ∷ (codes "uid", uid) ∷ []) ms
    ≡ (s1.bytes ++ (s2.bytes ++ (s3.bytes ++ (s4.bytes ++ (w.bytes ++ codes ",\"resourceVersion\":"))))) ++ (compact_text version ++ rest_text Metadata ((codes "uid", uid) ∷ []) w.rest)
steps v1 v2 d3 d4 ms l1 l2 l3 l4 l5 e1 e2 e3 e4 e5 t0 t1 t2 t3 t4 t5 s1 s2 s3 s4 w version uid =
    let h5 : List (List ℕ × Option Data) = (codes "uid", uid) ∷ [] in
    let h4 : List (List ℕ × Option Data) = (codes "resourceVersion", Some version) ∷ h5 in
    let h3 : List (List ℕ × Option Data) = (codes "namespace", Some d4) ∷ h4 in
    let h2 : List (List ℕ × Option Data) = (codes "name", Some d3) ∷ h3 in
    let h1 : List (List ℕ × Option Data) = (codes "generation", v2) ∷ h2 in
    let last = rest_text Metadata h5 w.rest in
    let keyed = codes ",\"resourceVersion\":" in
    let here : some_text (codes "resourceVersion") (Some version) ++ last ≡ keyed ++ (compact_text version ++ last) =
    ap (λ t. t ++ last) (version_key version) ∙ append_assoc keyed (compact_text version) last in
    with_next _ s1.bytes _ _ _ (s1.written h1 (refl, (refl, (refl, (refl, (refl, tt))))))
    (with_next _ s2.bytes _ _ _ (s2.written h2 (refl, (refl, (refl, (refl, tt)))))
    (with_next _ s3.bytes _ _ _ (s3.written h3 (refl, (refl, (refl, tt))))
    (with_next _ s4.bytes _ _ _ (s4.written h4 (refl, (refl, tt)))
    (with_next _ w.bytes _ _ _ (key_text Metadata (codes "resourceVersion") (Some version) s4.rest l5 e5 t4 t5 w h5 (refl, tt)) here))))

pub members_written : (key : KeyParts) (meta : MetaParts) (ms : Members) (v1 v2 : Option Data) (d3 d4 : Data) (l1 l2 l3 l4 l5 : List ℕ) (e1 e2 e3 e4 e5 : List Entry) (t0 t1 t2 t3 t4 t5 new : List ℕ)
    → v1 ≡ option_map string meta.deletion → v2 ≡ unless_zero meta.generation (number (unsigned meta.generation)) → d3 ≡ string key.name → d4 ≡ string key.namespace
    → (s1 : WritesStep Metadata (codes "deletionTimestamp") v1 ms l1 e1 t0 t1) → (s2 : WritesStep Metadata (codes "generation") v2 s1.rest l2 e2 t1 t2)
    → (s3 : WritesStep Metadata (codes "name") (Some d3) s2.rest l3 e3 t2 t3) → (s4 : WritesStep Metadata (codes "namespace") (Some d4) s3.rest l4 e4 t3 t4)
    → (w : WritesBelow Metadata (codes "resourceVersion") s4.rest l5 e5 t4 t5) → new ≡ t5 ++ codes ",\"resourceVersion\":" → WritesToVersion (members_with key meta ms) l5 e5 t0 new
members_written key meta ms v1 v2 d3 d4 l1 l2 l3 l4 l5 e1 e2 e3 e4 e5 t0 t1 t2 t3 t4 t5 new a b c d s1 s2 s3 s4 w last =
    let keyed = codes ",\"resourceVersion\":" in
    let bytes = s1.bytes ++ (s2.bytes ++ (s3.bytes ++ (s4.bytes ++ (w.bytes ++ keyed)))) in
    let some = some_behind s1.bytes _ (some_behind s2.bytes _ (some_behind s3.bytes _ (some_behind s4.bytes _ (some_behind w.bytes keyed (44, drop 1 keyed, refl))))) in
    record {
      rest = w.rest;
      first = some.0;
      others = some.1;
      left_is = w.left_is;
      entries_are = w.entries_are;
      ascending = w.ascending;
      new_is =
          behind t0 s1.bytes t1 _ new s1.new_is (behind t1 s2.bytes t2 _ new s2.new_is (behind t2 s3.bytes t3 _ new s3.new_is (behind t3 s4.bytes t4 _ new s4.new_is (behind t4 w.bytes t5 keyed new w.new_is last))))
          ∙ ap (λ s. t0 ++ s) some.2;
      written = λ version uid.
          rw (← without_set ms, ← a, ← b, ← c, ← d) (steps v1 v2 d3 d4 ms l1 l2 l3 l4 l5 e1 e2 e3 e4 e5 t0 t1 t2 t3 t4 t5 s1 s2 s3 s4 w version uid)
          ∙ ap (λ s. s ++ (compact_text version ++ rest_text Metadata ((codes "uid", uid) ∷ []) w.rest)) some.2;
    }

pub member_written : (key : KeyParts) (meta : MetaParts) (ms : Members) (left : List ℕ) (entries : List Entry) (old begun mid new : List ℕ) → begun ≡ old ++ codes ",\"metadata\":" → (w : WritesToVersion (members_with key meta ms) left entries begun mid)
    → ((back : List ℕ) (x : ℕ) → mid ≡ begun ++ x ∷ back → new ≡ begun ++ 123 ∷ back) → WritesToVersion (member_with key meta ms) left entries old new
member_written key meta ms left entries old begun mid new is w begin =
    let keyed = codes ",\"metadata\":" in
    record {
      rest = w.rest;
      first = 44;
      others = drop 1 keyed ++ 123 ∷ w.others;
      left_is = w.left_is;
      entries_are = w.entries_are;
      ascending = w.ascending;
      new_is = behind old keyed begun (123 ∷ w.others) new is (begin w.others w.first w.new_is);
      written = λ version uid.
          let next = compact_text version ++ rest_text Metadata ((codes "uid", uid) ∷ []) w.rest in
          metadata_key (object (metadata_with key meta ms version uid))
          ∙ ap (λ t. keyed ++ t) (begun_text (metadata_with key meta ms version uid) w.first (w.others ++ next) (has_with key meta ms version uid) (w.written version uid))
          ∙ sym (append_assoc keyed (123 ∷ w.others) next);
    }

pub after_version : (v uid : Option Data) (ms : Members) (left : List ℕ) (entries : List Entry) (old mid new : List ℕ) → (s : WritesStep Metadata (codes "uid") v ms left entries old mid) → new ≡ mid ++ members_text true (without Metadata s.rest) → v ≡ uid
    → new ≡ old ++ rest_text Metadata ((codes "uid", uid) ∷ []) ms
after_version v uid ms left entries old mid new s last is =
    behind old s.bytes mid _ new s.new_is last ∙ ap (λ t. old ++ t) (sym (s.written [] tt)) ∙ ap (λ x. old ++ rest_text Metadata ((codes "uid", x) ∷ []) ms) is
