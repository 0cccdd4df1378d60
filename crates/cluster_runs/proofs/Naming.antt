-- If all callers that events name were used, the events name no more callers than were used.
use Rattle.std.proofs.Common.{◌≡◌, ◌==◌, ℕ, ◌≤◌, Bool, true, false, cond, ◌||◌, List, [], ◌∷◌, ◌++◌, length, Option, Some, None, refl, sym, ap, ◌∙◌, subst}
use Rattle.std.specs.Prelude.{IfSome}
use Rattle.std.specs.BTreeMap.{is_at}
use Rattle.std.specs.BTreeSet.{insert_key}
use Rattle.std.specs.Cmp.{IsEquivalence, nat_cmp_total}
use Rattle.std.specs.List.{AllByRecursion, IsDistinct, list_any}
use Rattle.std.specs.Ordering.{eq_by_cmp, match_ordering, nat_cmp}
use Rattle.std.specs.declared.cmp.Ordering.{Ordering}
use Rattle.std.specs.declared.cmp.Ordering.TheVariants.{Less, Equal, Greater}
use Rattle.std.proofs.lemmas.Bool.{or_parts}
use Rattle.std.proofs.lemmas.Cmp.{eq_by_cmp_equiv}
use Rattle.std.proofs.lemmas.Map.Keys.{IsDistinct-cons, IsDistinct-head, IsDistinct-tail}
use Rattle.std.proofs.lemmas.Map.Lookups.{exact_unsigned}
use Rattle.std.proofs.lemmas.Map.Made.{length-le_from_is_member}
use Rattle.objects.specs.KeyOrder.{equal_from}
use Rattle.interleavings.specs.declared.event.Event.{Event}
use Rattle.interleavings.proofs.Basics.{Compared, compare, other, same}
use Rattle.history.specs.Named.{callers, named, with_named}
use Rattle.interleavings.specs.Callers.{named_by}
use Rattle.history.proofs.Naming.{named_more}

-- ---- what holds of each name

module _ (P : ℕ → Type 0) where
  all_inserted : (c : ℕ) (ks : List ℕ) → AllByRecursion P ks → P c → AllByRecursion P (insert_key nat_cmp ks c)
  all_inserted c [] all here = (here, tt)
  all_inserted c (x ∷ ks) all here = by (nat_cmp c x) (all_inserted c ks all.1 here)
    where
      by : (o : Ordering) → AllByRecursion P (insert_key nat_cmp ks c) → AllByRecursion P (match_ordering o (c ∷ x ∷ ks) (x ∷ ks) (x ∷ insert_key nat_cmp ks c))
      by Less rest = (here, all)
      by Equal rest = all
      by Greater rest = (all.0, rest)

  all_with : (ks : List ℕ) (o : Option ℕ) → AllByRecursion P ks → IfSome o P → AllByRecursion P (with_named ks o)
  all_with ks None all here = all
  all_with ks (Some c) all here = by (list_any (is_at (nat_cmp c)) ks)
    where
      by : (b : Bool) → AllByRecursion P (cond b ks (insert_key nat_cmp ks c))
      by true = all
      by false = all_inserted c ks all here

  pub all_named : (es : List Event) (e : Event) → AllByRecursion P (named [] es) → IfSome (named_by e) P → AllByRecursion P (named [] (es ++ e ∷ []))
  all_named es e all here = subst (AllByRecursion P) (sym (named_more es [] e)) (all_with (named [] es) (named_by e) all here)

  all_at : (ks : List ℕ) (q : ℕ) → AllByRecursion P ks → list_any (eq_by_cmp nat_cmp q) ks ≡ true → P q
  all_at [] q all there = absurd cc
  all_at (x ∷ ks) q all there = by (eq_by_cmp nat_cmp q x) refl (λ t. all_at ks q all.1 t)
    where
      by : (b : Bool) → eq_by_cmp nat_cmp q x ≡ b → (list_any (eq_by_cmp nat_cmp q) ks ≡ true → P q) → P q
      by true is rest = subst P (sym (exact_unsigned q x (equal_from (nat_cmp q x) is))) all.0
      by false is rest = rest (sym (ap (λ b. b || list_any (eq_by_cmp nat_cmp q) ks) is) ∙ there)

pub all_more : (P Q : ℕ → Type 0) (ks : List ℕ) → ((n : ℕ) → P n → Q n) → AllByRecursion P ks → AllByRecursion Q ks
all_more P Q [] goes all = tt
all_more P Q (x ∷ ks) goes all = (goes x all.0, all_more P Q ks goes all.1)

-- ---- no name is named twice

laws : IsEquivalence (eq_by_cmp nat_cmp)
laws = eq_by_cmp_equiv nat_cmp_total

all_fresh : (c : ℕ) (ks : List ℕ) → list_any (is_at (nat_cmp c)) ks ≡ false → AllByRecursion (λ y. eq_by_cmp nat_cmp c y ≡ false) ks
all_fresh c [] fresh = tt
all_fresh c (x ∷ ks) fresh = let both = or_parts _ _ fresh in (both.0, all_fresh c ks both.1)

distinct_inserted : (c : ℕ) (ks : List ℕ) → list_any (is_at (nat_cmp c)) ks ≡ false → IsDistinct (eq_by_cmp nat_cmp) ks → IsDistinct (eq_by_cmp nat_cmp) (insert_key nat_cmp ks c)
distinct_inserted c [] fresh apart = IsDistinct-cons (eq_by_cmp nat_cmp) c [] tt apart
distinct_inserted c (x ∷ ks) fresh apart = by (nat_cmp c x) (distinct_inserted c ks both.1 (IsDistinct-tail (eq_by_cmp nat_cmp) x ks apart))
  where
    both : (eq_by_cmp nat_cmp c x ≡ false) × (list_any (is_at (nat_cmp c)) ks ≡ false)
    both = or_parts _ _ fresh

    by : (o : Ordering) → IsDistinct (eq_by_cmp nat_cmp) (insert_key nat_cmp ks c) → IsDistinct (eq_by_cmp nat_cmp) (match_ordering o (c ∷ x ∷ ks) (x ∷ ks) (x ∷ insert_key nat_cmp ks c))
    by Less rest = IsDistinct-cons (eq_by_cmp nat_cmp) c (x ∷ ks) (all_fresh c (x ∷ ks) fresh) apart
    by Equal rest = apart
    by Greater rest = IsDistinct-cons (eq_by_cmp nat_cmp) x (insert_key nat_cmp ks c)
        (all_inserted (λ y. eq_by_cmp nat_cmp x y ≡ false) c ks (IsDistinct-head (eq_by_cmp nat_cmp) x ks apart) (laws.symm x c ∙ both.0)) rest

distinct_with : (ks : List ℕ) (o : Option ℕ) → IsDistinct (eq_by_cmp nat_cmp) ks → IsDistinct (eq_by_cmp nat_cmp) (with_named ks o)
distinct_with ks None apart = apart
distinct_with ks (Some c) apart = by (list_any (is_at (nat_cmp c)) ks) refl
  where
    by : (b : Bool) → list_any (is_at (nat_cmp c)) ks ≡ b → IsDistinct (eq_by_cmp nat_cmp) (cond b ks (insert_key nat_cmp ks c))
    by true is = apart
    by false is = distinct_inserted c ks is apart

distinct_named : (es : List Event) (ks : List ℕ) → IsDistinct (eq_by_cmp nat_cmp) ks → IsDistinct (eq_by_cmp nat_cmp) (named ks es)
distinct_named [] ks apart = apart
distinct_named (e ∷ es) ks apart = distinct_named es (with_named ks (named_by e)) (distinct_with ks (named_by e) apart)

none_distinct : IsDistinct (eq_by_cmp nat_cmp) []
unfolding IsDistinct
none_distinct = tt

-- ---- how many

used_is_member : (ks : List ℕ) (q : ℕ) → list_any (λ m. m == q) ks ≡ true → list_any (eq_by_cmp nat_cmp q) ks ≡ true
used_is_member [] q there = there
used_is_member (x ∷ ks) q there = by (compare x q) (λ t. used_is_member ks q t)
  where
    by : Compared x q → (list_any (λ m. m == q) ks ≡ true → list_any (eq_by_cmp nat_cmp q) ks ≡ true) → (eq_by_cmp nat_cmp q x || list_any (eq_by_cmp nat_cmp q) ks) ≡ true
    by (same e b) rest = ap (λ b. b || list_any (eq_by_cmp nat_cmp q) ks) (subst (λ n. eq_by_cmp nat_cmp q n ≡ true) (sym e) (laws.refl q))
    by (other ne b) rest = or_true (eq_by_cmp nat_cmp q x) (rest (sym (ap (λ b. b || list_any (λ m. m == q) ks) b) ∙ there))
      where
        or_true : (b : Bool) → list_any (eq_by_cmp nat_cmp q) ks ≡ true → (b || list_any (eq_by_cmp nat_cmp q) ks) ≡ true
        or_true true t = refl
        or_true false t = t

pub few_callers : (es : List Event) (used : List ℕ) → AllByRecursion (λ n. list_any (λ m. m == n) used ≡ true) (named [] es) → callers es ≤ length used
few_callers es used all = length-le_from_is_member laws (named [] es) used (distinct_named es [] none_distinct)
    (λ q there. used_is_member used q (all_at (λ n. list_any (λ m. m == n) used ≡ true) (named [] es) q all there))
