-- Members that were found, and the entries of a map that stand for them.
use Rattle.std.proofs.Common.{◌≡◌, ℕ, List, [], ◌∷◌, ◌++◌, Bool, true, false, ◌||◌, cond, Option, Some, None, option_map, option_and_then, map, nat_cmp, Ordering, Less, Equal, Greater, refl, sym, ap, ◌∙◌, subst}
use Rattle.std.specs.BTreeMap.{insert_entry}
use Rattle.std.specs.Cmp.Lexicographic.{slice_cmp}
use Rattle.std.specs.List.Sorted.{IsStrictlySortedBy}
use Rattle.std.specs.Ordering.{match_ordering}
use Rattle.std.proofs.lemmas.Bool.{or_parts}
use Rattle.serde_json.specs.Data.{Data, Members, no_members, member, put}
use Rattle.serde_json.specs.Written.{has_float, members_have_float}
use Rattle.trees.specs.declared.tree.Tree.{Tree}
use Rattle.trees.specs.Tree.{data_of, members_of, ComesBefore, AreAscending}
use Rattle.trees.specs.Integral.{if_integral, members_if_integral, found_in, found_of, all_integral}
use Rattle.trees.proofs.Joining.{join_members, join_members-none, join_members-push}
use Rattle.trees.proofs.PutOrder.{put_all, put_all-none}

abbrev pub Entry : Type 0
Entry = List ℕ × Option Tree

found_in-match : (o : Ordering) (a b c : Members) → found_in (match_ordering o a b c) ≡ match_ordering o (found_in a) (found_in b) (found_in c)
found_in-match Less a b c = refl
found_in-match Equal a b c = refl
found_in-match Greater a b c = refl

found_of-match : (o : Ordering) (a b c : List Entry) → found_of (match_ordering o a b c) ≡ match_ordering o (found_of a) (found_of b) (found_of c)
found_of-match Less a b c = refl
found_of-match Equal a b c = refl
found_of-match Greater a b c = refl

found_in-put : (k : List ℕ) (d : Data) (ms : Members) → found_in (put k d ms) ≡ insert_entry (slice_cmp nat_cmp) (found_in ms) k (if_integral d)
found_in-put k d no_members = refl
found_in-put k d (member l e ms) = found_in-match (slice_cmp nat_cmp k l) _ _ _ ∙ rw (found_in-put k d ms)

found_of-insert : (es : List Entry) (k : List ℕ) (v : Option Tree) → found_of (insert_entry (slice_cmp nat_cmp) es k v) ≡ insert_entry (slice_cmp nat_cmp) (found_of es) k (option_map data_of v)
found_of-insert [] k v = refl
found_of-insert (e ∷ es) k v = found_of-match (slice_cmp nat_cmp k e.0) _ _ _ ∙ rw (found_of-insert es k v)

-- one more was found, and put in order
pub found_more : (es new : List Entry) (name : List ℕ) (v : Option Tree) (k : List ℕ) (d : Data) (ms : Members) → new ≡ insert_entry (slice_cmp nat_cmp) es name v → name ≡ k → if_integral d ≡ option_map data_of v
    → found_in ms ≡ found_of es → found_in (put k d ms) ≡ found_of new
found_more es new name v k d ms is named whole same =
    found_in-put k d ms ∙ ap (λ fs. insert_entry (slice_cmp nat_cmp) fs k (if_integral d)) same ∙ ap (λ o. insert_entry (slice_cmp nat_cmp) (found_of es) k o) whole
    ∙ ap (λ l. insert_entry (slice_cmp nat_cmp) (found_of es) l (option_map data_of v)) (sym named) ∙ sym (found_of-insert es name v) ∙ ap found_of (sym is)

integral_by : (b c : Bool) (k : List ℕ) (d : Data) (ms : Members) → option_and_then (λ e. option_map (member k e) (cond c None (Some ms))) (cond b None (Some d)) ≡ cond (b || c) None (Some (member k d ms))
integral_by true c k d ms = refl
integral_by false true k d ms = refl
integral_by false false k d ms = refl

-- all that were found are integral if the members are
pub all_integral-found_in : (ms : Members) → all_integral (found_in ms) ≡ members_if_integral ms
all_integral-found_in no_members = refl
all_integral-found_in (member k d ms) = ap (λ o. option_and_then (λ e. option_map (member k e) o) (if_integral d)) (all_integral-found_in ms) ∙ integral_by (has_float d) (members_have_float ms) k d ms

taken_by : (k : List ℕ) (v : Option Tree) (o : Option Members) (ms : Members) → option_and_then (λ d. option_map (member k d) o) (option_map data_of v) ≡ Some ms → (d : Data) × (rest : Members) × (o ≡ Some rest) × (ms ≡ member k d rest)
taken_by k None o ms is = absurd cc
taken_by k (Some t) None ms is = absurd cc
taken_by k (Some t) (Some rest) ms is = (data_of t, rest, refl, cc)

-- the members of a map ascend
pub ascending_found : (es : List Entry) (ms : Members) → IsStrictlySortedBy (slice_cmp nat_cmp) (map (λ e. e.0) es) → all_integral (found_of es) ≡ Some ms → AreAscending ms
unfolding IsStrictlySortedBy
ascending_found [] ms h is = let none : no_members ≡ ms = cc in subst AreAscending none tt
ascending_found (e ∷ []) ms h is =
    let t = taken_by e.0 e.1 (Some no_members) ms is in
    let none : no_members ≡ t.1 = cc in
    subst AreAscending (ap (member e.0 t.0) none ∙ sym t.3) (tt, tt)
ascending_found (e ∷ f ∷ es) ms h is =
    let t = taken_by e.0 e.1 (all_integral (found_of (f ∷ es))) ms is in
    let u = taken_by f.0 f.1 (all_integral (found_of es)) t.1 t.2 in
    let later = ascending_found (f ∷ es) t.1 h.1 t.2 in
    subst AreAscending (sym t.3) (subst (ComesBefore e.0) (sym u.3) h.0.0, later)

-- ---- entries that go into a map

pub first_is_integral : {A : Type 0} (b : Bool) (x : A) → b ≡ false → cond b None (Some x) ≡ Some x
first_is_integral true x e = absurd cc
first_is_integral false x e = refl

-- entries of a list that are left, after those that went into the map
abbrev pub IsByKey : List (List ℕ × Tree) → List Entry → List (List ℕ × Tree) → Type 0
IsByKey all es left = (done : Members) × (put_all (members_of left) done ≡ members_of all) × (found_in done ≡ found_of es) × (members_have_float (members_of left) ≡ false)

pub by_key_none : (all left : List (List ℕ × Tree)) (es : List Entry) → left ≡ all → es ≡ [] → AreAscending (members_of all) → members_have_float (members_of all) ≡ false → IsByKey all es left
by_key_none all left es same none ascending whole =
    (no_members, ap (λ xs. put_all (members_of xs) no_members) same ∙ put_all-none (members_of all) ascending, sym (ap found_of none), ap (λ xs. members_have_float (members_of xs)) same ∙ whole)

pub by_key_more : (all left rest : List (List ℕ × Tree)) (es new : List Entry) (k : List ℕ) (t : Tree) (name : List ℕ) → left ≡ (k, t) ∷ rest → name ≡ k → new ≡ insert_entry (slice_cmp nat_cmp) es name (Some t)
    → IsByKey all es left → IsByKey all new rest
by_key_more all left rest es new k t name taken named is (done, joined, same, whole) =
    let both = or_parts (has_float (data_of t)) (members_have_float (members_of rest)) (ap (λ xs. members_have_float (members_of xs)) (sym taken) ∙ whole) in (
      put k (data_of t) done,
      ap (λ xs. put_all (members_of xs) done) (sym taken) ∙ joined,
      found_more es new name (Some t) k (data_of t) done is named (first_is_integral (has_float (data_of t)) (data_of t) both.0) same,
      both.1,
    )

-- ---- entries that come out of a map

-- the members so far, and then those that are left
abbrev pub IsTaken : List Entry → List (List ℕ × Tree) → List Entry → Type 0
IsTaken all es left = all_integral (found_of all) ≡ option_map (join_members (members_of es)) (all_integral (found_of left))

join_more : (es : List (List ℕ × Tree)) (k : List ℕ) (t : Tree) (o : Option Members) → option_map (join_members (members_of es)) (option_map (member k (data_of t)) o) ≡ option_map (join_members (members_of (es ++ (k, t) ∷ []))) o
join_more es k t None = refl
join_more es k t (Some ms) = ap Some (sym (join_members-push es (k, t) ms))

pub taken_more : (all left rest : List Entry) (es new : List (List ℕ × Tree)) (name : List ℕ) (k : List ℕ) (v : Option Tree) (t : Tree) → left ≡ (name, v) ∷ rest → v ≡ Some t → k ≡ name → new ≡ es ++ (k, t) ∷ []
    → IsTaken all es left → IsTaken all new rest
taken_more all left rest es new name k v t taken whole named is joined =
    joined ∙ ap (λ xs. option_map (join_members (members_of es)) (all_integral (found_of xs))) (taken ∙ ap (λ w. (name, w) ∷ rest) whole)
    ∙ ap (λ l. option_map (join_members (members_of es)) (option_map (member l (data_of t)) (all_integral (found_of rest)))) (sym named)
    ∙ join_more es k t (all_integral (found_of rest)) ∙ ap (λ xs. option_map (join_members (members_of xs)) (all_integral (found_of rest))) (sym is)

pub taken_all : (all left : List Entry) (es : List (List ℕ × Tree)) → left ≡ [] → IsTaken all es left → Some (members_of es) ≡ all_integral (found_of all)
taken_all all left es none joined =
    sym (joined ∙ ap (λ xs. option_map (join_members (members_of es)) (all_integral (found_of xs))) none ∙ ap Some (join_members-none (members_of es)))
