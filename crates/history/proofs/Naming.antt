-- The names of callers, with one more and without it again.
use Rattle.std.proofs.Common.{◌≡◌, ℕ, zero, suc, ◌+◌, ◌≤◌, Bool, true, false, cond, ◌||◌, nat_eq, List, [], ◌∷◌, ◌++◌, length, take, get_or, ◌<◌, Option, Some, None, refl, sym, ap, ◌∙◌, arith}
use Rattle.std.specs.List.{list_any}
use Rattle.std.specs.declared.cmp.Ordering.{Ordering}
use Rattle.std.specs.declared.cmp.Ordering.TheVariants.{Less, Equal, Greater}
use Rattle.std.specs.BTreeMap.{is_at}
use Rattle.std.specs.BTreeSet.{insert_key}
use Rattle.std.specs.Ordering.{is_eq, match_ordering, nat_cmp}
use Rattle.std.specs.Set.{remove_key}
use Rattle.interleavings.specs.declared.event.Event.{Event}
use Rattle.history.specs.Named.{callers, named, with_named}
use Rattle.interleavings.specs.Callers.{named_by}
use Rattle.interleavings.proofs.Basics.{eq_self}
use Rattle.history.proofs.Stepping.{lt_false}

pub named_more : (es : List Event) (names : List ℕ) (e : Event) → named names (es ++ e ∷ []) ≡ with_named (named names es) (named_by e)
named_more [] names e = refl
named_more (x ∷ es) names e = named_more es (with_named names (named_by x)) e

module _ (c : ℕ) where
  pub length_fresh : (ks : List ℕ) → list_any (is_at (nat_cmp c)) ks ≡ false → length (insert_key nat_cmp ks c) ≡ length ks + 1
  length_fresh [] fresh = refl
  length_fresh (x ∷ ks) fresh = by (nat_cmp c x) refl (λ f. length_fresh ks f)
    where
      by : (o : Ordering) → nat_cmp c x ≡ o → (list_any (is_at (nat_cmp c)) ks ≡ false → length (insert_key nat_cmp ks c) ≡ length ks + 1) → length (match_ordering o (c ∷ x ∷ ks) (x ∷ ks) (x ∷ insert_key nat_cmp ks c)) ≡ suc (length ks) + 1
      by Less e rest = omega arith
      by Equal e rest = let f = sym (ap (λ o. is_eq o || list_any (is_at (nat_cmp c)) ks) e) ∙ fresh in absurd cc
      by Greater e rest = let f = sym (ap (λ o. is_eq o || list_any (is_at (nat_cmp c)) ks) e) ∙ fresh in let r = rest f in omega (arith, r)

  self : nat_cmp c c ≡ Equal
  self = ap (λ b. cond b Less (cond (nat_eq c c) Equal Greater)) (lt_false c c (omega arith)) ∙ ap (λ b. cond b Equal Greater) (eq_self c)

  pub taken_back : (ks : List ℕ) → list_any (is_at (nat_cmp c)) ks ≡ false → remove_key (is_at (nat_cmp c)) (insert_key nat_cmp ks c) ≡ ks
  taken_back [] fresh = ap (λ o. cond (is_eq o) [] (c ∷ [])) self
  taken_back (x ∷ ks) fresh = by (nat_cmp c x) refl (λ f. taken_back ks f)
    where
      by : (o : Ordering) → nat_cmp c x ≡ o → (list_any (is_at (nat_cmp c)) ks ≡ false → remove_key (is_at (nat_cmp c)) (insert_key nat_cmp ks c) ≡ ks) → remove_key (is_at (nat_cmp c)) (match_ordering o (c ∷ x ∷ ks) (x ∷ ks) (x ∷ insert_key nat_cmp ks c)) ≡ x ∷ ks
      by Less e rest = ap (λ o. cond (is_eq o) (x ∷ ks) (c ∷ remove_key (is_at (nat_cmp c)) (x ∷ ks))) self
      by Equal e rest = let f = sym (ap (λ o. is_eq o || list_any (is_at (nat_cmp c)) ks) e) ∙ fresh in absurd cc
      by Greater e rest =
          let f = sym (ap (λ o. is_eq o || list_any (is_at (nat_cmp c)) ks) e) ∙ fresh in
          ap (λ o. cond (is_eq o) (insert_key nat_cmp ks c) (x ∷ remove_key (is_at (nat_cmp c)) (insert_key nat_cmp ks c))) e ∙ ap (λ l. x ∷ l) (rest f)

pub with_there : (c : ℕ) (ks : List ℕ) → list_any (is_at (nat_cmp c)) ks ≡ true → with_named ks (Some c) ≡ ks
with_there c ks there = ap (λ b. cond b ks (insert_key nat_cmp ks c)) there

pub with_fresh : (c : ℕ) (ks : List ℕ) → list_any (is_at (nat_cmp c)) ks ≡ false → with_named ks (Some c) ≡ insert_key nat_cmp ks c
with_fresh c ks fresh = ap (λ b. cond b ks (insert_key nat_cmp ks c)) fresh

pub length_named : (ks : List ℕ) (o : Option ℕ) → length ks ≤ length (with_named ks o)
length_named ks None = omega arith
length_named ks (Some c) = by (list_any (is_at (nat_cmp c)) ks) refl
  where
    by : (b : Bool) → list_any (is_at (nat_cmp c)) ks ≡ b → length ks ≤ length (with_named ks (Some c))
    by true e = let n = ap length (with_there c ks e) in omega arith
    by false e = let n = ap length (with_fresh c ks e) in let m = length_fresh c ks e in omega arith

pub more_named : (es : List Event) (names : List ℕ) → length names ≤ length (named names es)
more_named [] names = omega arith
more_named (e ∷ es) names = let a = length_named names (named_by e) in let b = more_named es (with_named names (named_by e)) in omega arith

-- the first events and the next name no more callers than all
pub callers_next : (i : ℕ) (es : List Event) (e : Event) → i < length es → e ≡ get_or es i e → callers (take i es ++ e ∷ []) ≤ callers es
callers_next i es e lt is = go [] i es lt is
  where
    go : (names : List ℕ) (i : ℕ) (es : List Event) → i < length es → e ≡ get_or es i e → length (named names (take i es ++ e ∷ [])) ≤ length (named names es)
    go names i [] lt is = absurd (omega arith)
    go names zero (x ∷ es) lt is =
        let same = ap (λ y. length (named (with_named names (named_by y)) es)) is in
        let more = more_named es (with_named names (named_by e)) in
        omega (arith, same, more)
    go names (suc i) (x ∷ es) lt is = go (with_named names (named_by x)) i es (omega arith) is

pub named_append : (es fs : List Event) (names : List ℕ) → named names (es ++ fs) ≡ named (named names es) fs
named_append [] fs names = refl
named_append (e ∷ es) fs names = named_append es fs (with_named names (named_by e))
