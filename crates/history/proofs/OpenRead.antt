-- The order of open reads: by their numbers, and then by their callers.
use Rattle.std.proofs.Common.{◌≡◌, ℕ, ◌≤◌, Bool, true, false, cond, ◌&&◌, refl, sym, ap, ◌∙◌, nat_eq, nat_lt, ltb-true, ne_eqb, true≢false, arith}
use Rattle.std.specs.declared.cmp.Ordering.{Ordering}
use Rattle.std.specs.declared.cmp.Ordering.TheVariants.{Less, Equal, Greater}
use Rattle.std.specs.Ordering.{is_eq, is_gt, nat_cmp, ordering_then}
use Rattle.std.specs.BTreeMap.{is_at}
use Rattle.history.specs.Begun.{read_cmp}
use Rattle.interleavings.proofs.Basics.{Compared, same, other, compare}

is_eq_nat : (x y : ℕ) → is_eq (nat_cmp x y) ≡ nat_eq x y
is_eq_nat x y = by (nat_lt x y) refl
  where
    equal : (b : Bool) → is_eq (cond b Equal Greater) ≡ b
    equal true = refl
    equal false = refl

    by : (b : Bool) → nat_lt x y ≡ b → is_eq (cond b Less (cond (nat_eq x y) Equal Greater)) ≡ nat_eq x y
    by true e = let lt = ltb-true x y e in sym (ne_eqb x y (λ s. absurd (omega (arith, lt, s))))
    by false e = equal (nat_eq x y)

is_eq_then : (o p : Ordering) → is_eq (ordering_then o p) ≡ is_eq p && is_eq o
is_eq_then o Less = by o
  where
    by : (o : Ordering) → is_eq (ordering_then o Less) ≡ false
    by Less = refl
    by Equal = refl
    by Greater = refl
is_eq_then Less Equal = refl
is_eq_then Equal Equal = refl
is_eq_then Greater Equal = refl
is_eq_then o Greater = by o
  where
    by : (o : Ordering) → is_eq (ordering_then o Greater) ≡ false
    by Less = refl
    by Equal = refl
    by Greater = refl

-- whether it is the read of that caller at that number
pub at_read : (n c m d : ℕ) → is_at (read_cmp (n, c)) (m, d) ≡ nat_eq c d && nat_eq n m
at_read n c m d = is_eq_then (nat_cmp n m) (nat_cmp c d) ∙ ap (λ b. b && is_eq (nat_cmp n m)) (is_eq_nat c d) ∙ ap (λ b. nat_eq c d && b) (is_eq_nat n m)

-- the first read has the least number
pub first_least : (n c m d : ℕ) → is_gt (read_cmp (n, c) (m, d)) ≡ false → n ≤ m
first_least n c m d = by (nat_lt n m) refl (compare n m)
  where
    by : (b : Bool) → nat_lt n m ≡ b → Compared n m → is_gt (ordering_then (cond b Less (cond (nat_eq n m) Equal Greater)) (nat_cmp c d)) ≡ false → n ≤ m
    by true e at h = let lt = ltb-true n m e in omega arith
    by false e (same s t) h = omega arith
    by false e (other ne t) h = absurd (true≢false (sym (ap (λ b. is_gt (ordering_then (cond b Equal Greater) (nat_cmp c d))) t) ∙ h))
