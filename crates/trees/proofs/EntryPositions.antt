-- What the position of a key says of the members.
use Rattle.std.proofs.Common.{◌≡◌, ℕ, zero, suc, ◌+◌, ◌<◌, List, [], ◌∷◌, ◌++◌, length, get_or, Some, None, refl, sym, ap, ◌∙◌, subst, arith, add-one}
use Rattle.std.specs.Prelude.{true, insert, remove}
use Rattle.std.specs.Ordering.{nat_cmp, match_ordering, ordering_reverse, is_lt}
use Rattle.std.specs.declared.cmp.Ordering.{Ordering}
use Rattle.std.specs.declared.cmp.Ordering.TheVariants.{Less, Equal, Greater}
use Rattle.std.specs.Cmp.Lexicographic.{slice_cmp, nat_list_cmp_total}
use Rattle.serde_json.specs.Data.{Data, Members, no_members, member, put}
use Rattle.serde_json.specs.Find.{get_member}
use Rattle.trees.specs.declared.tree.Tree.{Tree}
use Rattle.trees.specs.Tree.{data_of, members_of, ComesBefore, AreAscending}
use Rattle.trees.proofs.PutOrder.{above_from_below, none_before}
use Rattle.trees.specs.Positions.{IsAbove, IsAt, IsGap, goes_last}

above_next : (k : List ℕ) (n : ℕ) (es : List (List ℕ × Tree)) (e : List ℕ × Tree) → IsAbove k n es → n < length es → e ≡ get_or es n e → slice_cmp nat_cmp k e.0 ≡ Greater → IsAbove k (suc n) es
above_next k zero [] e h inside is above = absurd (omega arith)
above_next k zero (f ∷ es) e h inside is above = (subst (λ x. slice_cmp nat_cmp k x.0 ≡ Greater) is above, tt)
above_next k (suc n) [] e h inside is above = absurd h
above_next k (suc n) (f ∷ es) e h inside is above = (h.0, above_next k n es e h.1 (omega arith) is above)

pub above_more : (k : List ℕ) (n : ℕ) (es : List (List ℕ × Tree)) (e : List ℕ × Tree) → IsAbove k n es → n < length es → e ≡ get_or es n e → slice_cmp nat_cmp k e.0 ≡ Greater → IsAbove k (n + 1) es
above_more k n es e h inside is above = rw (add-one n) (above_next k n es e h inside is above)

pub at_here : (k : List ℕ) (n : ℕ) (es : List (List ℕ × Tree)) (e : List ℕ × Tree) → IsAbove k n es → n < length es → e ≡ get_or es n e → slice_cmp nat_cmp k e.0 ≡ Equal → IsAt k n es
at_here k zero [] e h inside is same = absurd (omega arith)
at_here k zero (f ∷ es) e h inside is same = subst (λ x. slice_cmp nat_cmp k x.0 ≡ Equal) is same
at_here k (suc n) [] e h inside is same = absurd h
at_here k (suc n) (f ∷ es) e h inside is same = (h.0, at_here k n es e h.1 (omega arith) is same)

pub gap_here : (k : List ℕ) (n : ℕ) (es : List (List ℕ × Tree)) (e : List ℕ × Tree) → IsAbove k n es → n < length es → e ≡ get_or es n e → slice_cmp nat_cmp k e.0 ≡ Less → IsGap k n es
gap_here k zero [] e h inside is below = absurd (omega arith)
gap_here k zero (f ∷ es) e h inside is below = subst (λ x. slice_cmp nat_cmp k x.0 ≡ Less) is below
gap_here k (suc n) [] e h inside is below = absurd h
gap_here k (suc n) (f ∷ es) e h inside is below = (h.0, gap_here k n es e h.1 (omega arith) is below)

gap_after : (k : List ℕ) (n : ℕ) (es : List (List ℕ × Tree)) → IsAbove k n es → n ≡ length es → IsGap k n es
gap_after k zero [] h end = tt
gap_after k zero (f ∷ es) h end = absurd (omega arith)
gap_after k (suc n) [] h end = absurd h
gap_after k (suc n) (f ∷ es) h end = (h.0, gap_after k n es h.1 (omega arith))

pub gap_end : (k : List ℕ) (n : ℕ) (es : List (List ℕ × Tree)) → IsAbove k n es → n ≡ length es → IsGap k (length es) es
gap_end k n es h end = subst (λ m. IsGap k m es) end (gap_after k n es h end)

pub at_inside : (k : List ℕ) (n : ℕ) (es : List (List ℕ × Tree)) → IsAt k n es → n < length es
at_inside k zero [] h = absurd h
at_inside k (suc n) [] h = absurd h
at_inside k zero (e ∷ es) h = omega arith
at_inside k (suc n) (e ∷ es) h = let inner : n < length es = at_inside k n es h.1 in omega arith

-- the member at the position is the one that is found
pub at_found : (k : List ℕ) (n : ℕ) (es : List (List ℕ × Tree)) (e : List ℕ × Tree) → IsAt k n es → e ≡ get_or es n e → get_member k (members_of es) ≡ Some (data_of e.1)
at_found k zero [] e h is = absurd h
at_found k (suc n) [] e h is = absurd h
at_found k zero (f ∷ es) e h is = rw h (ap (λ x. Some (data_of x.1)) (sym is))
at_found k (suc n) (f ∷ es) e h is = rw h.0 (at_found k n es e h.1 is)

-- if there is a gap, there is no member
pub gap_none : (k : List ℕ) (n : ℕ) (es : List (List ℕ × Tree)) → IsGap k n es → AreAscending (members_of es) → get_member k (members_of es) ≡ None
gap_none k zero [] h ascending = refl
gap_none k (suc n) [] h ascending = absurd h
gap_none k zero (e ∷ es) h ascending = none_before k (members_of (e ∷ es)) h ascending
gap_none k (suc n) (e ∷ es) h ascending = rw h.0 (gap_none k n es h.1 ascending.1)

-- a value that replaces another is put there
placed : (k : List ℕ) (n : ℕ) (es : List (List ℕ × Tree)) (e : List ℕ × Tree) (t : Tree) → IsAt k n es → e ≡ get_or es n e → members_of (insert (remove es n) n (e.0, t)) ≡ put k (data_of t) (members_of es)
placed k zero [] e t h is = absurd h
placed k (suc n) [] e t h is = absurd h
placed k zero (f ∷ es) e t h is = rw h (ap (λ x. member x.0 (data_of t) (members_of es)) is)
placed k (suc n) (f ∷ es) e t h is = rw h.0 (ap (member f.0 (data_of f.1)) (placed k n es e t h.1 is))

pub placed_again : (k : List ℕ) (n : ℕ) (es mid new : List (List ℕ × Tree)) (e : List ℕ × Tree) (t : Tree) → IsAt k n es → e ≡ get_or es n e → mid ≡ remove es n → new ≡ insert mid n (e.0, t)
    → members_of new ≡ put k (data_of t) (members_of es)
placed_again k n es mid new e t h is removed inserted = ap members_of (inserted ∙ ap (λ xs. insert xs n (e.0, t)) removed) ∙ placed k n es e t h is

below_from_above : (k l : List ℕ) → slice_cmp nat_cmp k l ≡ Greater → slice_cmp nat_cmp l k ≡ Less
below_from_above k l above = nat_list_cmp_total.antisymm l k ∙ ap ordering_reverse above

before_put_at : (o : Ordering) (j k l : List ℕ) (d e : Data) (ms : Members) → slice_cmp nat_cmp j k ≡ Less → slice_cmp nat_cmp j l ≡ Less
    → ComesBefore j (match_ordering o (member k d (member l e ms)) (member l d ms) (member l e (put k d ms)))
before_put_at Less j k l d e ms first next = first
before_put_at Equal j k l d e ms first next = next
before_put_at Greater j k l d e ms first next = next

pub before_put : (j k : List ℕ) (d : Data) (ms : Members) → slice_cmp nat_cmp j k ≡ Less → ComesBefore j ms → ComesBefore j (put k d ms)
before_put j k d no_members first next = first
before_put j k d (member l e ms) first next = before_put_at (slice_cmp nat_cmp k l) j k l d e ms first next

ascending_put_at : (o : Ordering) (k l : List ℕ) (d e : Data) (ms : Members) → slice_cmp nat_cmp k l ≡ o → AreAscending (member l e ms) → AreAscending (put k d ms)
    → AreAscending (match_ordering o (member k d (member l e ms)) (member l d ms) (member l e (put k d ms)))
ascending_put_at Less k l d e ms is h later = (is, h)
ascending_put_at Equal k l d e ms is h later = h
ascending_put_at Greater k l d e ms is h later = (before_put l k d ms (below_from_above k l is) h.0, later)

-- a member that is put keeps the order
pub ascending_put : (k : List ℕ) (d : Data) (ms : Members) → AreAscending ms → AreAscending (put k d ms)
ascending_put k d no_members h = (tt, tt)
ascending_put k d (member l e ms) h = ascending_put_at (slice_cmp nat_cmp k l) k l d e ms refl h (ascending_put k d ms h.1)

less_is : (o : Ordering) → is_lt o ≡ true → o ≡ Less
less_is Less h = refl
less_is Equal h = absurd cc
less_is Greater h = absurd cc

-- a key above the last is above the first
first_below : (k : List ℕ) (e : List ℕ × Tree) (es : List (List ℕ × Tree)) → goes_last k (e ∷ es) ≡ true → AreAscending (members_of (e ∷ es)) → slice_cmp nat_cmp e.0 k ≡ Less
first_below k e [] last ascending = less_is (slice_cmp nat_cmp e.0 k) last
first_below k e (f ∷ es) last ascending = nat_list_cmp_total.trans e.0 f.0 k ascending.0 (first_below k f es last ascending.1)

pushed : (k : List ℕ) (t : Tree) (es : List (List ℕ × Tree)) → goes_last k es ≡ true → AreAscending (members_of es) → members_of (es ++ (k, t) ∷ []) ≡ put k (data_of t) (members_of es)
pushed k t [] last ascending = refl
pushed k t (e ∷ []) last ascending = rw (above_from_below k e.0 (first_below k e [] last ascending)) refl
pushed k t (e ∷ f ∷ es) last ascending = rw (above_from_below k e.0 (first_below k e (f ∷ es) last ascending)) (ap (member e.0 (data_of e.1)) (pushed k t (f ∷ es) last ascending.1))

-- an entry that is pushed after all others is put there
pub pushed_last : (k name : List ℕ) (t : Tree) (es new : List (List ℕ × Tree)) → goes_last k es ≡ true → AreAscending (members_of es) → name ≡ k → new ≡ es ++ (name, t) ∷ [] → members_of new ≡ put k (data_of t) (members_of es)
pushed_last k name t es new last ascending same is = ap members_of (is ∙ ap (λ l. es ++ (l, t) ∷ []) same) ∙ pushed k t es last ascending

-- the last of some entries, at the position that their count gives
pub last_is : (k : List ℕ) (e : List ℕ × Tree) (es : List (List ℕ × Tree)) (n : ℕ) → length es ≡ suc n → e ≡ get_or es n e → goes_last k es ≡ is_lt (slice_cmp nat_cmp e.0 k)
last_is k e [] n some is = absurd (omega arith)
last_is k e (f ∷ []) zero some is = ap (λ x. is_lt (slice_cmp nat_cmp x.0 k)) (sym is)
last_is k e (f ∷ []) (suc n) some is = absurd (omega arith)
last_is k e (f ∷ g ∷ es) zero some is = absurd (omega arith)
last_is k e (f ∷ g ∷ es) (suc n) some is = last_is k e (g ∷ es) n (omega arith) is
