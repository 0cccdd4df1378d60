-- The object of a draft, as it is printed.
use Rattle.std.proofs.Common.{◌≡◌, ◌≢◌, ℕ, List, [], ◌∷◌, Bool, true, false, cond, decimal, Option, Some, None, codes, refl, sym, ap, ◌∙◌, subst, ne_eqb}
use Rattle.std.specs.Prelude.{option_and_then, unwrap_or, bytes_eq}
use Rattle.std.specs.Ordering.{nat_cmp, is_eq}
use Rattle.std.specs.declared.cmp.Ordering.{Ordering}
use Rattle.std.specs.declared.cmp.Ordering.TheVariants.{Less, Equal, Greater}
use Rattle.std.specs.Cmp.Lexicographic.{slice_cmp}
use Rattle.std.proofs.lemmas.Map.Text.{is_eq-slice_cmp}
use Rattle.serde_json.specs.Data.{Data, object, string, Members, no_members, member, put}
use Rattle.serde_json.specs.Find.{as_object, get_member}
use Rattle.serde_json.proofs.Views.{get_member-put}
use Rattle.trees.specs.Building.{put_some}
use Rattle.trees.specs.Canonical.{IsCanonical, AreCanonicalMembers}
use Rattle.trees.specs.Members.{set_member, without_member}
use Rattle.trees.specs.Tree.{AreAscending, ComesBefore}
use Rattle.trees.proofs.EntryPositions.{ascending_put}
use Rattle.trees.proofs.PutOrder.{before_next, canonical_put, equal_texts, put_found}
use Rattle.trees.proofs.SetMembers.{ascending_set, get_member-set_member}
use Rattle.objects.specs.Key.{KeyParts}
use Rattle.objects.specs.Merged.{puts}
use Rattle.objects.specs.Object.{is_held, without_held}
use Rattle.objects.specs.Rewrites.{at_version}
use Rattle.objects.specs.Seams.{IsCanonicalStatus, rewritten}
use Rattle.objects.specs.Text.{full_metadata, printed, unless_zero}
use Rattle.objects.specs.declared.meta.Meta.{Meta}
use Rattle.objects.specs.declared.object.Object as declared
use Rattle.compact_objects.specs.Merging.{held_with, is_set, object_with, uid_data, without}
use Rattle.compact_objects.specs.Seaming.{metadata_with}
use Rattle.compact_objects.specs.declared.merge.MapKind.{MapKind}
use Rattle.compact_objects.specs.declared.merge.MapKind.TheVariants.{Metadata, Object}
use Rattle.compact_objects.proofs.Merging.{above_trans, before_some, before_without, put_before, some_past}
use Rattle.compact_objects.proofs.Printable.{AreWritable, writable_without}

abbrev pub metadata : List ℕ
metadata = codes "metadata"

abbrev pub status : List ℕ
status = codes "status"

apart_if : (k l : List ℕ) (o : Ordering) → slice_cmp nat_cmp k l ≡ o → is_eq o ≡ false → bytes_eq k l ≡ false
apart_if k l o is other = sym (is_eq-slice_cmp k l) ∙ ap is_eq is ∙ other

neither : (l : List ℕ) → bytes_eq metadata l ≡ false → bytes_eq status l ≡ false → is_set Object l ≡ false
neither l one other = rw (one, other) refl

kept : (l : List ℕ) (d : Data) (ms : Members) → is_set Object l ≡ false → without Object (member l d ms) ≡ member l d (without Object ms)
kept l d ms none = ap (λ b. cond b (without Object ms) (member l d (without Object ms))) none

left_out : (l : List ℕ) (d : Data) (ms : Members) → is_set Object l ≡ true → without Object (member l d ms) ≡ without Object ms
left_out l d ms set = ap (λ b. cond b (without Object ms) (member l d (without Object ms))) set

-- after the status there is nothing to leave out
none_behind : (ms : Members) → ComesBefore status ms → AreAscending ms → without Object ms ≡ ms
none_behind no_members before ascending = refl
none_behind (member l d ms) before ascending =
    kept l d ms (neither l (apart_if metadata l Less (before_next metadata status (member l d ms) refl before) refl) (apart_if status l Less before refl))
    ∙ ap (member l d) (none_behind ms (before_next status l ms before ascending.0) ascending.1)

-- after the metadata, the status alone is set
status_at : (o : Ordering) (l : List ℕ) (d e : Data) (ms : Members) → slice_cmp nat_cmp status l ≡ o → slice_cmp nat_cmp metadata l ≡ Less → AreAscending (member l e ms) → put status d ms ≡ put status d (without Object ms)
    → put status d (member l e ms) ≡ put status d (without Object (member l e ms))
status_at Less l d e ms is above ascending later = ap (put status d) (sym (none_behind (member l e ms) is ascending))
status_at Equal l d e ms is above ascending later =
    let same : status ≡ l = equal_texts status l is in
    let behind : ComesBefore status ms = subst (λ t. ComesBefore t ms) (sym same) ascending.0 in
    let set : is_set Object l ≡ true = subst (λ t. is_set Object t ≡ true) same refl in
    rw is (ap (λ t. member t d ms) (sym same)) ∙ sym (put_before status d ms behind) ∙ ap (put status d) (sym (left_out l e ms set ∙ none_behind ms behind ascending.1))
status_at Greater l d e ms is above ascending later =
    let none = neither l (apart_if metadata l Less above refl) (apart_if status l Greater is refl) in
    some_past status l (Some d) e ms is ∙ ap (member l e) later ∙ sym (some_past status l (Some d) e (without Object ms) is) ∙ ap (put status d) (sym (kept l e ms none))

status_put : (d : Data) (ms : Members) → ComesBefore metadata ms → AreAscending ms → put status d ms ≡ put status d (without Object ms)
status_put d no_members before ascending = refl
status_put d (member l e ms) before ascending =
    status_at (slice_cmp nat_cmp status l) l d e ms refl before ascending (status_put d ms (before_next metadata l ms before ascending.0) ascending.1)

status_gone : (ms : Members) → ComesBefore metadata ms → AreAscending ms → without_member status ms ≡ without Object ms
status_gone no_members before ascending = refl
status_gone (member l e ms) before ascending =
    rw (apart_if metadata l Less before refl) (ap (λ w. cond (bytes_eq status l) w (member l e w)) (status_gone ms (before_next metadata l ms before ascending.0) ascending.1))

status_set : (s : Option Data) (ms : Members) → ComesBefore metadata ms → AreAscending ms → set_member status s ms ≡ put_some status s (without Object ms)
status_set None ms before ascending = status_gone ms before ascending
status_set (Some d) ms before ascending = status_put d ms before ascending

-- ---- both

abbrev both : Data → Option Data → Members → Members
both d s ms = puts ((metadata, Some d) ∷ (status, s) ∷ []) (without Object ms)

set_first : (s : Option Data) (x d : Data) (ms : Members) → put metadata d (set_member status s (member metadata x ms)) ≡ member metadata d (set_member status s ms)
set_first None x d ms = refl
set_first (Some v) x d ms = refl

set_past : (s : Option Data) (l : List ℕ) (e : Data) (ms : Members) → slice_cmp nat_cmp status l ≡ Greater → set_member status s (member l e ms) ≡ member l e (set_member status s ms)
set_past None l e ms above = rw (apart_if status l Greater above refl) refl
set_past (Some v) l e ms above = some_past status l (Some v) e ms above

behind_metadata : (s : Option Data) (x d : Data) (ms : Members) → ComesBefore metadata ms → AreAscending ms → put metadata d (set_member status s (member metadata x ms)) ≡ both d s ms
behind_metadata s x d ms before ascending =
    set_first s x d ms ∙ ap (member metadata d) (status_set s ms before ascending)
    ∙ sym (put_before metadata d (put_some status s (without Object ms)) (before_some metadata status s (without Object ms) refl (before_without Object metadata ms before ascending)))

both_at : (o : Ordering) (s : Option Data) (x d : Data) (l : List ℕ) (e : Data) (ms : Members) → slice_cmp nat_cmp metadata l ≡ o → AreAscending (member l e ms)
    → put metadata d (set_member status s (put metadata x ms)) ≡ both d s ms → put metadata d (set_member status s (put metadata x (member l e ms))) ≡ both d s (member l e ms)
both_at Less s x d l e ms is ascending later =
    ap (λ m. put metadata d (set_member status s m)) (put_before metadata x (member l e ms) is) ∙ behind_metadata s x d (member l e ms) is ascending
both_at Equal s x d l e ms is ascending later =
    let same : metadata ≡ l = equal_texts metadata l is in
    let placed : put metadata x (member l e ms) ≡ member metadata x ms = rw is (ap (λ t. member t x ms) (sym same)) in
    let set : is_set Object l ≡ true = subst (λ t. is_set Object t ≡ true) same refl in
    ap (λ m. put metadata d (set_member status s m)) placed ∙ behind_metadata s x d ms (subst (λ t. ComesBefore t ms) (sym same) ascending.0) ascending.1
    ∙ ap (λ m. put metadata d (put_some status s m)) (sym (left_out l e ms set))
both_at Greater s x d l e ms is ascending later =
    let above = above_trans status metadata l refl is in
    let none = neither l (apart_if metadata l Greater is refl) (apart_if status l Greater above refl) in
    ap (λ m. put metadata d (set_member status s m)) (some_past metadata l (Some x) e ms is)
    ∙ ap (put metadata d) (set_past s l e (put metadata x ms) above) ∙ some_past metadata l (Some d) e (set_member status s (put metadata x ms)) is
    ∙ ap (member l e) later
    ∙ sym (some_past metadata l (Some d) e (put_some status s (without Object ms)) is) ∙ ap (put metadata d) (sym (some_past status l s e (without Object ms) above))
    ∙ ap (λ m. put metadata d (put_some status s m)) (sym (kept l e ms none))

both_put : (s : Option Data) (x d : Data) (ms : Members) → AreAscending ms → put metadata d (set_member status s (put metadata x ms)) ≡ both d s ms
both_put s x d no_members ascending = behind_metadata s x d no_members tt tt
both_put s x d (member l e ms) ascending = both_at (slice_cmp nat_cmp metadata l) s x d l e ms refl ascending (both_put s x d ms ascending.1)

-- ---- the members that the store does not set

without_twice_by : (set : Bool) (l : List ℕ) (d : Data) (ms : Members) → is_set Object l ≡ set → without Object (without Object ms) ≡ without Object ms
    → without Object (cond set (without Object ms) (member l d (without Object ms))) ≡ cond set (without Object ms) (member l d (without Object ms))
without_twice_by true l d ms is later = later
without_twice_by false l d ms is later = kept l d (without Object ms) is ∙ ap (member l d) later

pub without_twice : (ms : Members) → without Object (without Object ms) ≡ without Object ms
without_twice no_members = refl
without_twice (member l d ms) = without_twice_by (is_set Object l) l d ms refl (without_twice ms)

ascending_by : (set : Bool) (l : List ℕ) (d : Data) (ms : Members) → ComesBefore l ms → AreAscending ms → AreAscending (cond set ms (member l d ms))
ascending_by true l d ms before ascending = ascending
ascending_by false l d ms before ascending = (before, ascending)

pub ascending_without : (part : MapKind) (ms : Members) → AreAscending ms → AreAscending (without part ms)
ascending_without part no_members ascending = tt
ascending_without part (member l d ms) ascending =
    ascending_by (is_set part l) l d (without part ms) (before_without part l ms ascending.0 ascending.1) (ascending_without part ms ascending.1)

canonical_by : (set : Bool) (l : List ℕ) (d : Data) (ms : Members) → IsCanonical d → AreCanonicalMembers ms → AreCanonicalMembers (cond set ms (member l d ms))
canonical_by true l d ms one all = all
canonical_by false l d ms one all = (one, all)

canonical_without : (part : MapKind) (ms : Members) → AreCanonicalMembers ms → AreCanonicalMembers (without part ms)
canonical_without part no_members all = tt
canonical_without part (member l d ms) all = canonical_by (is_set part l) l d (without part ms) all.0 (canonical_without part ms all.1)

canonical_some : (k : List ℕ) (v : Option Data) (ms : Members) → IsCanonicalStatus v → AreCanonicalMembers ms → AreCanonicalMembers (put_some k v ms)
canonical_some k None ms one all = all
canonical_some k (Some d) ms one all = canonical_put k d ms one all

-- ---- the body, with its metadata and its status

-- the members with that metadata and that status
abbrev pub body_with : Option Data → Data → Members → Members
body_with s x ms = set_member status s (put metadata x ms)

body_metadata : (s : Option Data) (x : Data) (ms : Members) → get_member metadata (body_with s x ms) ≡ Some x
body_metadata s x ms = get_member-set_member metadata status s (put metadata x ms) (λ e. cc) ∙ get_member-put metadata x ms

body_ascending : (s : Option Data) (x : Data) (ms : Members) → AreAscending ms → AreAscending (body_with s x ms)
body_ascending s x ms ascending = ascending_set status s (put metadata x ms) (ascending_put metadata x ms ascending)

body_both : (s : Option Data) (x : Data) (ms : Members) → AreAscending ms → body_with s x ms ≡ both x s ms
body_both s x ms ascending =
    sym (put_found metadata x (body_with s x ms) (body_ascending s x ms ascending) (body_metadata s x ms)) ∙ both_put s x x ms ascending

-- they are the same if those that the store sets were left out before
pub body_without : (s : Option Data) (x : Data) (ms : Members) → AreAscending ms → body_with s x ms ≡ body_with s x (without Object ms)
body_without s x ms ascending =
    body_both s x ms ascending ∙ ap (λ m. put metadata x (put_some status s m)) (sym (without_twice ms))
    ∙ sym (body_both s x (without Object ms) (ascending_without Object ms ascending))

without_set : (ms : Members) → without Metadata ms ≡ without_held ms
without_set no_members = refl
without_set (member k d ms) = ap (λ w. cond (is_held k) w (member k d w)) (without_set ms)

pub held_canonical : (ms : Members) → IsCanonical (object ms) → IsCanonical (object (without_held ms))
held_canonical ms canonical = subst (λ m. IsCanonical (object m)) (without_set ms) (ascending_without Metadata ms canonical.0, canonical_without Metadata ms canonical.1)

pub held_writable_left : (ms : Members) → AreWritable ms → AreWritable (without_held ms)
held_writable_left ms all = subst AreWritable (without_set ms) (writable_without Metadata ms all)

pub body_canonical : (s : Option Data) (os ms : Members) → IsCanonicalStatus s → IsCanonical (object os) → IsCanonical (object ms) → IsCanonical (object (body_with s (object (without_held ms)) os))
body_canonical s os ms one canonical metadata_canonical =
    let x = object (without_held ms) in (
      body_ascending s x os canonical.0,
      subst AreCanonicalMembers (sym (body_both s x os canonical.0))
          (canonical_put metadata x (put_some status s (without Object os)) (held_canonical ms metadata_canonical) (canonical_some status s (without Object os) one (canonical_without Object os canonical.1))),
    )

-- ---- the object, as it is printed

-- what the store sets of an object of that key and meta
abbrev held_of : KeyParts → Meta → List (List ℕ × Option Data)
held_of key meta = held_with key meta (unless_zero meta.revision (string (decimal meta.revision))) (uid_data meta.uid)

printed_at : (key : KeyParts) (meta : Meta) (s : Option Data) (os ms : Members) → AreAscending os
    → printed (record { key = key; meta = meta; body = object (body_with s (object (without_held ms)) os) }) ≡ object (both (object (puts (held_of key meta) (without_held ms))) s os)
unfolding printed
printed_at key meta s os ms ascending =
    let members = body_with s (object (without_held ms)) os in
    let o : declared.Object = record { key = key; meta = meta; body = object members } in
    ap (λ f. object (put metadata (object (full_metadata o (unwrap_or (option_and_then as_object f) no_members))) members)) (body_metadata s (object (without_held ms)) os)
    ∙ ap object (both_put s (object (without_held ms)) (object (full_metadata o (without_held ms))) os ascending)

-- the object with those others, at that version and with that status
pub printed_with : (o : declared.Object) (os ms : Members) (n : ℕ) (s : Option Data) → AreAscending os → n ≢ 0
    → printed (rewritten o (put metadata (object (without_held ms)) (without Object os)) n s) ≡ object (object_with (metadata_with o.key o.meta ms (string (decimal n)) (uid_data o.meta.uid)) s (without Object os))
printed_with o os ms n s ascending some =
    let version : unless_zero n (string (decimal n)) ≡ Some (string (decimal n)) = ap (λ b. cond b None (Some (string (decimal n)))) (ne_eqb n 0 some) in
    printed_at o.key (at_version o n).meta s (without Object os) ms (ascending_without Object os ascending)
    ∙ ap (λ v. object (both (object (puts (held_with o.key o.meta v (uid_data o.meta.uid)) (without_held ms))) s (without Object os))) version
    ∙ ap (λ m. object (object_with (metadata_with o.key o.meta ms (string (decimal n)) (uid_data o.meta.uid)) s m)) (without_twice os)
