-- The lowest caller that was not used.
use Rattle.std.proofs.Common.{◌≡◌, ◌==◌, ℕ, zero, suc, ◌+◌, ◌<◌, ◌≤◌, max, Bool, true, false, not, cond, ◌||◌, List, [], ◌∷◌, Some, sym, ap, ◌∙◌, arith, eq-eqb, get_or, length, ne_eqb, nat_eq}
use Rattle.std.specs.Prelude.{unwrap_or}
use Rattle.std.specs.Cmp.{nat_eq_equiv}
use Rattle.std.proofs.lemmas.List.FromFn.{get_or-range_with_len, length-range_with_len}
use Rattle.std.proofs.lemmas.Map.Keys.{IsDistinct-from_apart}
use Rattle.std.proofs.lemmas.Map.Made.{length-le_from_is_member}
use Rattle.std.specs.List.{find, list_any, range_with_len}
use Rattle.interleavings.proofs.Basics.{Compared, compare, other, same}
use Rattle.cluster_runs.specs.Cluster.{Cluster, greatest, is_used, lowest_unused}

-- the first of these numbers that passes a test
found_in : (p : ℕ → Bool) (n len a : ℕ) → p n ≡ true → a ≤ n → n < a + len → ((m : ℕ) → a ≤ m → m < n → p m ≡ false) → find p (range_with_len a len) ≡ Some n
found_in p n zero a here low high others = absurd (omega arith)
found_in p n (suc len) a here low high others = by (compare a n) (λ less. found_in p n len (a + 1) here less (omega arith) (λ m above below. others m (omega arith) below))
  where
    by : Compared a n → (a + 1 ≤ n → find p (range_with_len (a + 1) len) ≡ Some n) → cond (p a) (Some a) (find p (range_with_len (a + 1) len)) ≡ Some n
    by (same e b) rest = ap (λ b. cond b (Some a) (find p (range_with_len (a + 1) len))) (ap p e ∙ here) ∙ ap Some e
    by (other ne b) rest = ap (λ b. cond b (Some a) (find p (range_with_len (a + 1) len))) (others a (omega arith) (omega arith)) ∙ rest (omega arith)

below_greatest : (used : List ℕ) (n : ℕ) → list_any (λ m. m == n) used ≡ true → n ≤ greatest used
below_greatest [] n there = absurd cc
below_greatest (x ∷ used) n there = by (compare x n) (λ t. below_greatest used n t)
  where
    by : Compared x n → (list_any (λ m. m == n) used ≡ true → n ≤ greatest used) → n ≤ max x (greatest used)
    by (same e b) rest = omega arith
    by (other ne b) rest = let less = rest (sym (ap (λ b. b || list_any (λ m. m == n) used) b) ∙ there) in omega arith

pub lowest_is : (k : Cluster) (n : ℕ) → is_used k n ≡ false → ((m : ℕ) → m < n → is_used k m ≡ true) → lowest_unused k ≡ n
unfolding lowest_unused
lowest_is k n fresh below =
    ap (λ o. unwrap_or o 0) (found_in (λ m. not (is_used k m)) n (suc (suc (greatest k.used))) 0 (ap not fresh) (omega arith) (high n below) (λ m above less. ap not (below m less)))
  where
    high : (n : ℕ) → ((m : ℕ) → m < n → is_used k m ≡ true) → n < 0 + suc (suc (greatest k.used))
    high zero below = omega arith
    high (suc m) below = let less = below_greatest k.used m (below m (omega arith)) in omega arith

-- if each of the lowest numbers is in a list, it has at least as many
pub as_many : (n : ℕ) (used : List ℕ) → ((m : ℕ) → m < n → list_any (λ l. l == m) used ≡ true) → n ≤ length used
as_many n used there =
    let many = length-range_with_len 0 n in
    let less = length-le_from_is_member nat_eq_equiv (range_with_len 0 n) used
    (IsDistinct-from_apart nat_eq (range_with_len 0 n) (λ i j d low high. let all = length-range_with_len 0 n in
    ap (λ m. nat_eq m (get_or (range_with_len 0 n) j d)) (get_or-range_with_len 0 n i d (omega arith))
    ∙ ap (λ m. nat_eq (0 + i) m) (get_or-range_with_len 0 n j d (omega arith)) ∙ ne_eqb (0 + i) (0 + j) (λ e. absurd (omega arith))))
    (λ q among. in_used q (below q among)) in
    omega (arith, many, less)
  where
    below : (q : ℕ) → list_any (nat_eq q) (range_with_len 0 n) ≡ true → q < n
    below q among = let less = go n 0 among in omega (arith, less)
      where
        go : (len a : ℕ) → list_any (nat_eq q) (range_with_len a len) ≡ true → q < a + len
        go zero a among = absurd cc
        go (suc len) a among = by (compare q a) (λ rest. go len (a + 1) rest)
          where
            by : Compared q a → (list_any (nat_eq q) (range_with_len (a + 1) len) ≡ true → q < (a + 1) + len) → q < a + suc len
            by (same e b) rest = omega arith
            by (other ne b) rest = let less = rest (sym (ap (λ b. b || list_any (nat_eq q) (range_with_len (a + 1) len)) b) ∙ among) in omega arith

    flip : (q : ℕ) (ks : List ℕ) → list_any (λ l. l == q) ks ≡ true → list_any (nat_eq q) ks ≡ true
    flip q [] is = is
    flip q (x ∷ ks) is = by (compare x q) (λ rest. flip q ks rest)
      where
        by : Compared x q → (list_any (λ l. l == q) ks ≡ true → list_any (nat_eq q) ks ≡ true) → (nat_eq q x || list_any (nat_eq q) ks) ≡ true
        by (same e b) rest = ap (λ b. b || list_any (nat_eq q) ks) (eq-eqb q x (sym e))
        by (other ne b) rest = ap (λ b. b || list_any (nat_eq q) ks) (ne_eqb q x (λ e. ne (sym e))) ∙ rest (sym (ap (λ b. b || list_any (λ l. l == q) ks) b) ∙ is)

    in_used : (q : ℕ) → q < n → list_any (nat_eq q) used ≡ true
    in_used q low = flip q used (there q low)
