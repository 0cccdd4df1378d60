-- Members that ascend and are put one after another.
use Rattle.std.proofs.Common.{◌≡◌, ℕ, List, Some, None, refl, sym, ap, ◌∙◌, subst, Bool, true, false}
use Rattle.std.specs.Prelude.{bytes_eq}
use Rattle.std.specs.Ordering.{nat_cmp, match_ordering, ordering_reverse, is_eq}
use Rattle.std.specs.declared.cmp.Ordering.{Ordering}
use Rattle.std.specs.declared.cmp.Ordering.TheVariants.{Less, Equal, Greater}
use Rattle.std.specs.Cmp.Lexicographic.{slice_cmp, nat_list_cmp_total}
use Rattle.std.proofs.lemmas.Cmp.{tied_itself}
use Rattle.std.proofs.lemmas.Map.Text.{is_eq-slice_cmp}
use Rattle.std.proofs.lemmas.Slice.Eq.{bytes_eq-Decides}
use Rattle.serde_json.specs.Data.{Data, Members, no_members, member, put}
use Rattle.serde_json.specs.Find.{get_member}
use Rattle.trees.specs.Tree.{ComesBefore, AreAscending}
use Rattle.trees.specs.Canonical.{IsCanonical, AreCanonicalMembers}
use Rattle.trees.proofs.Joining.{join_members, join_members-none}

-- these members, put in turn onto those found before
abbrev pub put_all : Members → Members → Members
put_all no_members found = found
put_all (member k d ms) found = put_all ms (put k d found)

differ_by : (b : Bool) → b ≡ true → b ≡ false → ⊥
differ_by true p q = absurd cc
differ_by false p q = absurd cc

-- two texts that the test finds to differ
pub apart : (s t : List ℕ) → bytes_eq s t ≡ false → s ≡ t → ⊥
apart s t other same = differ_by (bytes_eq s t) ((bytes_eq-Decides s t).1 same) other

pub equal_texts : (k l : List ℕ) → slice_cmp nat_cmp k l ≡ Equal → k ≡ l
equal_texts k l is = (bytes_eq-Decides k l).0 (sym (is_eq-slice_cmp k l) ∙ ap is_eq is)

pub same_text : (k : List ℕ) → slice_cmp nat_cmp k k ≡ Equal
same_text k = tied_itself nat_list_cmp_total k

pub above_from_below : (k l : List ℕ) → slice_cmp nat_cmp l k ≡ Less → slice_cmp nat_cmp k l ≡ Greater
above_from_below k l below = nat_list_cmp_total.antisymm k l ∙ ap ordering_reverse below

-- what comes before the first comes before the others
pub before_next : (k l : List ℕ) (ms : Members) → slice_cmp nat_cmp k l ≡ Less → ComesBefore l ms → ComesBefore k ms
before_next k l no_members below next = tt
before_next k l (member m d ms) below next = nat_list_cmp_total.trans k l m below next

-- a key before all of these is none of theirs
pub none_before : (k : List ℕ) (ms : Members) → ComesBefore k ms → AreAscending ms → get_member k ms ≡ None
none_before k no_members before ascending = refl
none_before k (member l d ms) before ascending = rw before (none_before k ms (before_next k l ms before ascending.0) ascending.1)

-- a key before members that ascend is below each of theirs
below_middle : (l k : List ℕ) (d : Data) (done ms : Members) → ComesBefore l (join_members done (member k d ms)) → AreAscending (join_members done (member k d ms)) → slice_cmp nat_cmp l k ≡ Less
below_middle l k d no_members ms before ascending = before
below_middle l k d (member m e done) ms before ascending = nat_list_cmp_total.trans l m k before (below_middle m k d done ms ascending.0 ascending.1)

-- a key above those so far goes last
pub put_last : (k : List ℕ) (d : Data) (done ms : Members) → AreAscending (join_members done (member k d ms)) → put k d done ≡ join_members done (member k d no_members)
put_last k d no_members ms ascending = refl
put_last k d (member l e done) ms ascending =
    rw (above_from_below k l (below_middle l k d done ms ascending.0 ascending.1)) (ap (member l e) (put_last k d done ms ascending.1))

pub join_members-one : (k : List ℕ) (d : Data) (done ms : Members) → join_members (join_members done (member k d no_members)) ms ≡ join_members done (member k d ms)
join_members-one k d no_members ms = refl
join_members-one k d (member l e done) ms = ap (member l e) (join_members-one k d done ms)

-- members that ascend, put onto those before them, come after them
pub put_all-join : (ms done : Members) → AreAscending (join_members done ms) → put_all ms done ≡ join_members done ms
put_all-join no_members done ascending = sym (join_members-none done)
put_all-join (member k d ms) done ascending =
    ap (put_all ms) (put_last k d done ms ascending)
    ∙ put_all-join ms (join_members done (member k d no_members)) (subst AreAscending (sym (join_members-one k d done ms)) ascending)
    ∙ join_members-one k d done ms

pub put_all-none : (ms : Members) → AreAscending ms → put_all ms no_members ≡ ms
put_all-none ms ascending = put_all-join ms no_members ascending

canonical_put_at : (o : Ordering) (k l : List ℕ) (d e : Data) (ms : Members) → IsCanonical d → AreCanonicalMembers (member l e ms) → AreCanonicalMembers (put k d ms)
    → AreCanonicalMembers (match_ordering o (member k d (member l e ms)) (member l d ms) (member l e (put k d ms)))
canonical_put_at Less k l d e ms canonical h later = (canonical, h)
canonical_put_at Equal k l d e ms canonical h later = (canonical, h.1)
canonical_put_at Greater k l d e ms canonical h later = (h.0, later)

-- a canonical member that is put leaves them canonical
pub canonical_put : (k : List ℕ) (d : Data) (ms : Members) → IsCanonical d → AreCanonicalMembers ms → AreCanonicalMembers (put k d ms)
canonical_put k d no_members canonical h = (canonical, tt)
canonical_put k d (member l e ms) canonical h = canonical_put_at (slice_cmp nat_cmp k l) k l d e ms canonical h (canonical_put k d ms canonical h.1)

canonical_found_at : (o : Ordering) (k l : List ℕ) (d e : Data) (ms : Members) → IsCanonical e → (get_member k ms ≡ Some d → IsCanonical d) → match_ordering o (get_member k ms) (Some e) (get_member k ms) ≡ Some d → IsCanonical d
canonical_found_at Less k l d e ms canonical later is = later is
canonical_found_at Equal k l d e ms canonical later is = let same : e ≡ d = cc in subst IsCanonical same canonical
canonical_found_at Greater k l d e ms canonical later is = later is

-- a member of canonical members is canonical
pub canonical_found : (k : List ℕ) (d : Data) (ms : Members) → AreCanonicalMembers ms → get_member k ms ≡ Some d → IsCanonical d
canonical_found k d no_members h is = absurd cc
canonical_found k d (member l e ms) h is = canonical_found_at (slice_cmp nat_cmp k l) k l d e ms h.0 (λ i. canonical_found k d ms h.1 i) is

put_found_at : (o : Ordering) (k l : List ℕ) (d e : Data) (ms : Members) → slice_cmp nat_cmp k l ≡ o → AreAscending (member l e ms) → (get_member k ms ≡ Some d → put k d ms ≡ ms)
    → match_ordering o (get_member k ms) (Some e) (get_member k ms) ≡ Some d → match_ordering o (member k d (member l e ms)) (member l d ms) (member l e (put k d ms)) ≡ member l e ms
put_found_at Less k l d e ms below ascending later is = absurd (let none : get_member k ms ≡ None = none_before k ms (before_next k l ms below ascending.0) ascending.1 in cc)
put_found_at Equal k l d e ms same ascending later is = let one : e ≡ d = cc in ap (λ x. member l x ms) (sym one)
put_found_at Greater k l d e ms above ascending later is = ap (member l e) (later is)

-- what is there already may be put there again
pub put_found : (k : List ℕ) (d : Data) (ms : Members) → AreAscending ms → get_member k ms ≡ Some d → put k d ms ≡ ms
put_found k d no_members ascending is = absurd cc
put_found k d (member l e ms) ascending is = put_found_at (slice_cmp nat_cmp k l) k l d e ms refl ascending (λ i. put_found k d ms ascending.1 i) is

put_twice_at : (o : Ordering) (k l : List ℕ) (d x e : Data) (ms : Members) → slice_cmp nat_cmp k l ≡ o → put k d (put k x ms) ≡ put k d ms
    → put k d (match_ordering o (member k x (member l e ms)) (member l x ms) (member l e (put k x ms))) ≡ match_ordering o (member k d (member l e ms)) (member l d ms) (member l e (put k d ms))
put_twice_at Less k l d x e ms is later = rw (same_text k) refl
put_twice_at Equal k l d x e ms is later = rw is refl
put_twice_at Greater k l d x e ms is later = rw is (ap (member l e) later)

-- of two values put at one key, the last stays
pub put_twice : (k : List ℕ) (d x : Data) (ms : Members) → put k d (put k x ms) ≡ put k d ms
put_twice k d x no_members = rw (same_text k) refl
put_twice k d x (member l e ms) = put_twice_at (slice_cmp nat_cmp k l) k l d x e ms refl (put_twice k d x ms)

-- if another value is put at a key and then removed, the members are as they were
pub put_back : (k : List ℕ) (d x : Data) (ms : Members) → AreAscending ms → get_member k ms ≡ Some d → put k d (put k x ms) ≡ ms
put_back k d x ms ascending is = put_twice k d x ms ∙ put_found k d ms ascending is
