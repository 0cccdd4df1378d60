-- Members that are set and removed: by the position of the key, and what stays as it was.
use Rattle.std.proofs.Common.{◌≡◌, ℕ, zero, suc, ◌≤◌, length, arith, List, [], ◌∷◌, Bool, true, false, cond, Option, Some, None, refl, sym, ap, ◌∙◌, subst, get_or}
use Rattle.std.specs.Prelude.{bytes_eq, insert, remove, slice_set}
use Rattle.std.specs.Ordering.{nat_cmp, match_ordering, is_eq}
use Rattle.std.specs.declared.cmp.Ordering.TheVariants.{Less, Equal, Greater}
use Rattle.std.specs.Cmp.Lexicographic.{slice_cmp}
use Rattle.std.proofs.lemmas.Map.Text.{is_eq-slice_cmp}
use Rattle.std.proofs.lemmas.Slice.Eq.{bytes_eq-Decides}
use Rattle.serde_json.specs.Data.{Data, Members, no_members, member, put}
use Rattle.serde_json.specs.Find.{get_member}
use Rattle.serde_json.proofs.Views.{get_member-put_other}
use Rattle.trees.specs.declared.tree.Tree.{Tree}
use Rattle.trees.specs.Tree.{data_of, members_of, ComesBefore, AreAscending}
use Rattle.trees.specs.Positions.{IsAt, IsGap}
use Rattle.trees.specs.Members.{without_member, set_member}
use Rattle.trees.proofs.Lookups.{found_later}
use Rattle.trees.proofs.PutOrder.{before_next, equal_texts}
use Rattle.trees.proofs.EntryPositions.{ascending_put}

equal_is : (k l : List ℕ) → slice_cmp nat_cmp k l ≡ Equal → bytes_eq k l ≡ true
equal_is k l h = sym (is_eq-slice_cmp k l) ∙ ap is_eq h

above_is : (k l : List ℕ) → slice_cmp nat_cmp k l ≡ Greater → bytes_eq k l ≡ false
above_is k l h = sym (is_eq-slice_cmp k l) ∙ ap is_eq h

below_is : (k l : List ℕ) → slice_cmp nat_cmp k l ≡ Less → bytes_eq k l ≡ false
below_is k l h = sym (is_eq-slice_cmp k l) ∙ ap is_eq h

-- a key before all of these is none of theirs
without_before : (k : List ℕ) (ms : Members) → ComesBefore k ms → AreAscending ms → without_member k ms ≡ ms
without_before k no_members before ascending = refl
without_before k (member l d ms) before ascending =
    rw (below_is k l before) (ap (member l d) (without_before k ms (before_next k l ms before ascending.0) ascending.1))

-- the entries without the one at the position are the members without the key
removed : (k : List ℕ) (n : ℕ) (es : List (List ℕ × Tree)) → IsAt k n es → AreAscending (members_of es) → members_of (remove es n) ≡ without_member k (members_of es)
removed k zero [] h ascending = absurd h
removed k (suc n) [] h ascending = absurd h
removed k zero (e ∷ es) h ascending =
    rw (equal_is k e.0 h) (sym (without_before k (members_of es) (subst (λ l. ComesBefore l (members_of es)) (sym (equal_texts k e.0 h)) ascending.0) ascending.1))
removed k (suc n) (e ∷ es) h ascending = rw (above_is k e.0 h.0) (ap (member e.0 (data_of e.1)) (removed k n es h.1 ascending.1))

pub removed_at : (k : List ℕ) (n : ℕ) (es new : List (List ℕ × Tree)) → IsAt k n es → AreAscending (members_of es) → new ≡ remove es n → members_of new ≡ without_member k (members_of es)
removed_at k n es new h ascending is = ap members_of is ∙ removed k n es h ascending

-- if there is a gap, there is nothing to remove
pub gap_without : (k : List ℕ) (n : ℕ) (es : List (List ℕ × Tree)) → IsGap k n es → AreAscending (members_of es) → members_of es ≡ without_member k (members_of es)
gap_without k zero [] h ascending = refl
gap_without k (suc n) [] h ascending = absurd h
gap_without k zero (e ∷ es) h ascending = sym (without_before k (members_of (e ∷ es)) h ascending)
gap_without k (suc n) (e ∷ es) h ascending = rw (above_is k e.0 h.0) (ap (member e.0 (data_of e.1)) (gap_without k n es h.1 ascending.1))

-- a value that replaces another is put there
pub replaced_at : (k : List ℕ) (n : ℕ) (es : List (List ℕ × Tree)) (e : List ℕ × Tree) (t : Tree) → IsAt k n es → e ≡ get_or es n e → members_of (slice_set es n (e.0, t)) ≡ put k (data_of t) (members_of es)
replaced_at k zero [] e t h is = absurd h
replaced_at k (suc n) [] e t h is = absurd h
replaced_at k zero (f ∷ es) e t h is = rw h (ap (λ x. member x.0 (data_of t) (members_of es)) is)
replaced_at k (suc n) (f ∷ es) e t h is = rw h.0 (ap (member f.0 (data_of f.1)) (replaced_at k n es e t h.1 is))

pub gap_inside : (k : List ℕ) (n : ℕ) (es : List (List ℕ × Tree)) → IsGap k n es → n ≤ length es
gap_inside k zero [] h = omega arith
gap_inside k zero (e ∷ es) h = omega arith
gap_inside k (suc n) [] h = absurd h
gap_inside k (suc n) (e ∷ es) h = let inner : n ≤ length es = gap_inside k n es h.1 in omega arith

-- an entry that is inserted at the gap is put there
inserted : (k : List ℕ) (n : ℕ) (es : List (List ℕ × Tree)) (t : Tree) → IsGap k n es → members_of (insert es n (k, t)) ≡ put k (data_of t) (members_of es)
inserted k zero [] t h = refl
inserted k (suc n) [] t h = absurd h
inserted k zero (e ∷ es) t h = rw h refl
inserted k (suc n) (e ∷ es) t h = rw h.0 (ap (member e.0 (data_of e.1)) (inserted k n es t h.1))

pub inserted_at : (k name : List ℕ) (n : ℕ) (es new : List (List ℕ × Tree)) (t : Tree) → IsGap k n es → name ≡ k → new ≡ insert es n (name, t) → members_of new ≡ put k (data_of t) (members_of es)
inserted_at k name n es new t h same is = ap members_of (is ∙ ap (λ l. insert es n (l, t)) same) ∙ inserted k n es t h

before_without_at : (b : Bool) (j l : List ℕ) (d : Data) (ms : Members) → slice_cmp nat_cmp j l ≡ Less → ComesBefore j ms → ComesBefore j (cond b ms (member l d ms))
before_without_at true j l d ms first later = later
before_without_at false j l d ms first later = first

before_without : (j k : List ℕ) (ms : Members) → ComesBefore j ms → AreAscending ms → ComesBefore j (without_member k ms)
before_without j k no_members h ascending = tt
before_without j k (member l d ms) h ascending =
    before_without_at (bytes_eq k l) j l d (without_member k ms) h (before_without j k ms (before_next j l ms h ascending.0) ascending.1)

ascending_without_at : (b : Bool) (l : List ℕ) (d : Data) (ms : Members) → ComesBefore l ms → AreAscending ms → AreAscending (cond b ms (member l d ms))
ascending_without_at true l d ms before later = later
ascending_without_at false l d ms before later = (before, later)

ascending_without : (k : List ℕ) (ms : Members) → AreAscending ms → AreAscending (without_member k ms)
ascending_without k no_members h = tt
ascending_without k (member l d ms) h = ascending_without_at (bytes_eq k l) l d (without_member k ms) (before_without l k ms h.0 h.1) (ascending_without k ms h.1)

-- setting or removing a member keeps the order
pub ascending_set : (k : List ℕ) (value : Option Data) (ms : Members) → AreAscending ms → AreAscending (set_member k value ms)
ascending_set k None ms h = ascending_without k ms h
ascending_set k (Some d) ms h = ascending_put k d ms h

false_if : (b : Bool) → (b ≡ true → ⊥) → b ≡ false
false_if true h = absurd (h refl)
false_if false h = refl

found_without_at : (b : Bool) (q k l : List ℕ) (d : Data) (ms without : Members) → bytes_eq k l ≡ b → (q ≡ k → ⊥) → get_member q without ≡ get_member q ms
    → get_member q (cond b without (member l d without)) ≡ get_member q (member l d ms)
found_without_at true q k l d ms without same other later =
    later ∙ sym (found_later q l d ms (false_if (bytes_eq q l) (λ h. other ((bytes_eq-Decides q l).0 h ∙ sym ((bytes_eq-Decides k l).0 same)))))
found_without_at false q k l d ms without same other later = ap (λ found. match_ordering (slice_cmp nat_cmp q l) found (Some d) found) later

found_without : (q k : List ℕ) (ms : Members) → (q ≡ k → ⊥) → get_member q (without_member k ms) ≡ get_member q ms
found_without q k no_members other = refl
found_without q k (member l d ms) other = found_without_at (bytes_eq k l) q k l d ms (without_member k ms) refl other (found_without q k ms other)

-- the other keys keep their values
pub get_member-set_member : (q k : List ℕ) (value : Option Data) (ms : Members) → (q ≡ k → ⊥) → get_member q (set_member k value ms) ≡ get_member q ms
get_member-set_member q k None ms other = found_without q k ms other
get_member-set_member q k (Some d) ms other = get_member-put_other q k d ms other
