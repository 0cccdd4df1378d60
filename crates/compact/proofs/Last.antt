-- The last member of those that have been put into order is above all others.
use Rattle.std.proofs.Common.{◌≡◌, ℕ, ◌-◌, List, [], ◌∷◌, ◌++◌, length, refl, subst, sym, ap, ◌∙◌, length-append, arith}
use Rattle.std.specs.Ordering.{nat_cmp, match_ordering, ordering_reverse}
use Rattle.std.specs.Cmp.Lexicographic.{nat_list_cmp_total, slice_cmp}
use Rattle.std.specs.declared.cmp.Ordering.{Ordering}
use Rattle.std.specs.declared.cmp.Ordering.TheVariants.{Less, Equal, Greater}
use Rattle.json.specs.Print.{escape, quoted}
use Rattle.serde_json.specs.Data.{Data, Members, no_members, member, put}
use Rattle.serde_json.specs.Written.{compact_text}
use Rattle.compact.specs.Ended.{ended_member, ended_text}
use Rattle.compact.specs.declared.table.Entry.{Entry}
use Rattle.compact.specs.Notes.{entry_of, entries_of}
use Rattle.compact.specs.Places.{joined, HasSlot, AllBelow, LastOf, HasLast, HasPlace}
use Rattle.compact.proofs.Entries.{ended_joined, entries_joined, entries_count, joined_nil}
use Rattle.compact.proofs.Search.{other_text, none_above}

all_joined : (k : List ℕ) (fs gs : Members) → AllBelow k fs → AllBelow k gs → AllBelow k (joined fs gs)
all_joined k no_members gs a b = b
all_joined k (member l e fs) gs a b = (a.0, all_joined k fs gs a.1 b)

greater_trans : (x y z : List ℕ) → slice_cmp nat_cmp x y ≡ Greater → slice_cmp nat_cmp y z ≡ Greater → slice_cmp nat_cmp x z ≡ Greater
greater_trans x y z a b =
    nat_list_cmp_total.antisymm x z ∙ ap ordering_reverse (nat_list_cmp_total.trans z y x (nat_list_cmp_total.antisymm z y ∙ ap ordering_reverse b) (nat_list_cmp_total.antisymm y x ∙ ap ordering_reverse a))

all_further : (k l : List ℕ) (ms : Members) → slice_cmp nat_cmp k l ≡ Greater → AllBelow l ms → AllBelow k ms
all_further k l no_members a h = tt
all_further k l (member m e ms) a h = (greater_trans k l m a h.0, all_further k l ms a h.1)

put_last : (k : List ℕ) (d : Data) (ms : Members) → AllBelow k ms → put k d ms ≡ joined ms (member k d no_members)
put_last k d no_members h = refl
put_last k d (member l e ms) h = ap (λ r. match_ordering r (member k d (member l e ms)) (member l d ms) (member l e (put k d ms))) h.0 ∙ ap (member l e) (put_last k d ms h.1)

pub has_last : (ms : Members) → LastOf ms → HasLast ms
has_last no_members h = tt
has_last (member k d ms) h = h

goes_last : (k : List ℕ) (d : Data) (ms : Members) (index at : ℕ) (entries : List Entry) → AllBelow k ms → entries_of ms ≡ entries → length entries ≡ index → length (ended_text ms) ≡ at → escape k ≡ k → HasPlace k d ms index at
goes_last k d ms index at entries all are index_is here own = record {
  slot = record { below = ms; above = no_members; is = joined_nil ms; put_is = λ e. put_last k e ms all; index_is = sym (entries_count ms) ∙ ap length are ∙ index_is; start_is = here };
  last_of = record { front = ms; l = k; e = d; is = put_last k d ms all; below = all; own = own };
}

pub first_of_all : (k : List ℕ) (d : Data) (ms : Members) (at : ℕ) (entries : List Entry) → length entries ≡ 0 → entries_of ms ≡ entries → length (ended_text ms) ≡ at → escape k ≡ k → HasPlace k d ms 0 at
first_of_all k d ms at entries none are here own =
    goes_last k d ms 0 at entries (subst (AllBelow k) (sym (none_above ms entries are none)) tt) are none here own

-- ---- the last one, where it is

pub record AtEnd (ms : Members) (at : ℕ) (entry : Entry) : Type 0 where
  pub last_of : LastOf ms
  pub key_is : length (quoted last_of.l) ≡ entry.key
  pub start_is : length (ended_text last_of.front) ≡ at - entry.size

last_in : (ms : Members) → (length (entries_of ms) ≡ 0 → ⊥) → HasLast ms → LastOf ms
last_in no_members some h = absurd (some refl)
last_in (member k d ms) some h = h

abbrev last_or : Entry → List Entry → Entry
last_or default [] = default
last_or default (x ∷ xs) = last_or x xs

last_or_one : (default x : Entry) (xs : List Entry) → last_or default (xs ++ x ∷ []) ≡ x
last_or_one default x [] = refl
last_or_one default x (y ∷ xs) = last_or_one y x xs

pub at_end : (ms : Members) (at : ℕ) (last : Entry) (entries before : List Entry) → entries ≡ before ++ last ∷ [] → entries_of ms ≡ entries → HasLast ms → length (ended_text ms) ≡ at → AtEnd ms at last
at_end ms at last entries before is are some here =
    let o = last_in ms (λ none. omega (arith, none, ap length (are ∙ is), length-append before (last ∷ []))) some in
    let same : entry_of o.l o.e ≡ last =
    sym (last_or_one last (entry_of o.l o.e) (entries_of o.front)) ∙ ap (last_or last) (sym (ap entries_of o.is ∙ entries_joined o.front (member o.l o.e no_members)) ∙ are ∙ is) ∙ last_or_one last last before in
    let whole = ap length (ap ended_text o.is ∙ ended_joined o.front (member o.l o.e no_members)) in
    record {
      last_of = o;
      key_is = ap (λ e. e.key) same;
      start_is = omega (arith, whole, here, ap (λ e. e.size) same, length-append (ended_text o.front) (ended_member o.l o.e ++ []), length-append (ended_member o.l o.e) []);
    }

pub last_text : (text more : List ℕ) (ms : Members) → text ≡ ended_text ms ++ more → (o : LastOf ms) → text ≡ ended_text o.front ++ (quoted o.l ++ (58 ∷ (compact_text o.e ++ 44 ∷ []) ++ ([] ++ more)))
last_text text more ms is o = other_text text more o.l o.e ms o.front (member o.l o.e no_members) no_members is o.is refl

-- ---- after it or before it

pub behind_last : (k a b : List ℕ) (d : Data) (ms : Members) (index at : ℕ) (entries : List Entry) → (o : LastOf ms) → a ≡ k → b ≡ o.l → slice_cmp nat_cmp a b ≡ Greater
    → entries_of ms ≡ entries → length entries ≡ index → length (ended_text ms) ≡ at → escape k ≡ k → HasPlace k d ms index at
behind_last k a b d ms index at entries o first second greater are index_is here own =
    let above : slice_cmp nat_cmp k o.l ≡ Greater = (λ i. slice_cmp nat_cmp (sym first i) (sym second i)) ∙ greater in
    let all = all_joined k o.front (member o.l o.e no_members) (all_further k o.l o.front above o.below) (above, tt) in
    goes_last k d ms index at entries (subst (AllBelow k) (sym o.is) all) are index_is here own

below_put_at : (r : Ordering) (l k m : List ℕ) (d e : Data) (ms : Members) → slice_cmp nat_cmp l k ≡ Greater → AllBelow l (member m e ms) → AllBelow l (put k d ms)
    → AllBelow l (match_ordering r (member k d (member m e ms)) (member m d ms) (member m e (put k d ms)))
below_put_at Less l k m d e ms a h later = (a, h)
below_put_at Equal l k m d e ms a h later = h
below_put_at Greater l k m d e ms a h later = (h.0, later)

below_put : (l k : List ℕ) (d : Data) (ms : Members) → slice_cmp nat_cmp l k ≡ Greater → AllBelow l ms → AllBelow l (put k d ms)
below_put l k d no_members a h = (a, tt)
below_put l k d (member m e ms) a h = below_put_at (slice_cmp nat_cmp k m) l k m d e ms a h (below_put l k d ms a h.1)

put_before_at : (r : Ordering) (k m : List ℕ) (d e : Data) (fs gs : Members) → put k d (joined fs gs) ≡ joined (put k d fs) gs
    → match_ordering r (member k d (member m e (joined fs gs))) (member m d (joined fs gs)) (member m e (put k d (joined fs gs)))
    ≡ joined (match_ordering r (member k d (member m e fs)) (member m d fs) (member m e (put k d fs))) gs
put_before_at Less k m d e fs gs later = refl
put_before_at Equal k m d e fs gs later = refl
put_before_at Greater k m d e fs gs later = ap (member m e) later

put_before : (k l : List ℕ) (d e : Data) (fs : Members) → slice_cmp nat_cmp k l ≡ Less → put k d (joined fs (member l e no_members)) ≡ joined (put k d fs) (member l e no_members)
put_before k l d e no_members less = ap (λ r. match_ordering r (member k d (member l e no_members)) (member l d no_members) (member l e (put k d no_members))) less
put_before k l d e (member m f fs) less = put_before_at (slice_cmp nat_cmp k m) k m d f fs (member l e no_members) (put_before k l d e fs less)

pub before_last : (k a b : List ℕ) (d : Data) (ms : Members) (index start : ℕ) → (o : LastOf ms) → a ≡ k → b ≡ o.l → slice_cmp nat_cmp a b ≡ Less → HasSlot k ms index start → HasPlace k d ms index start
before_last k a b d ms index start o first second less h =
    let below : slice_cmp nat_cmp k o.l ≡ Less = (λ i. slice_cmp nat_cmp (sym first i) (sym second i)) ∙ less in
    record {
      slot = h;
      last_of = record {
        front = put k d o.front;
        l = o.l;
        e = o.e;
        is = ap (put k d) o.is ∙ put_before k o.l d o.e o.front below;
        below = below_put o.l k d o.front (nat_list_cmp_total.antisymm o.l k ∙ ap ordering_reverse below) o.below;
        own = o.own;
      };
    }
