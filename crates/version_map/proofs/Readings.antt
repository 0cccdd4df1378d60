-- What a push and a compaction leave of the readings, and which numbers are above all rows then.
use Rattle.std.proofs.Common.{◌≡◌, ℕ, ◌+◌, ◌<◌, ◌≤◌, Bool, true, false, cond, List, [], ◌∷◌, ◌++◌, Some, option_and_then, refl, sym, ap, subst, ◌∙◌, arith}
use Rattle.std.specs.Prelude.{nat_le, Option}
use Rattle.std.specs.Option.{unwrap_or}
use Rattle.std.specs.Ordering.{eq_by_cmp}
use Rattle.std.specs.FinMap.{get, get-insert, insert, same_map}
use Rattle.std.proofs.lemmas.Bool.Decides.{nat_tests}
use Rattle.objects.specs.declared.key.Key.{Key}
use Rattle.objects.specs.Key.{key_cmp}
use Rattle.objects.specs.KeyOrder.{exact_keys, key_cmp_total}
use Rattle.version_map.specs.Keyed.{put_at}
use Rattle.version_map.specs.Rows.{AreBelow, Row, begins_to, kept, state_to}
use Rattle.version_map.specs.Versions.{IsAbove, RowsByKey, compacted, rows_at, state_at, value}
use Rattle.version_map.proofs.Chains.{rows_compacted, same_key}
use Rattle.version_map.proofs.Lists.{get_state, state_more}
use Rattle.version_map.proofs.Rows.{all_more, all_weaker, row_beyond, row_past}

module _ {X : Type 0} where
  -- the rows with one more of a key
  abbrev pub with_row : RowsByKey X → Key → ℕ → Option X → RowsByKey X
  with_row m k n s = insert m k (rows_at m k ++ (n, s) ∷ [])

  rows_with : (m : RowsByKey X) (k q : Key) (n : ℕ) (s : Option X) → rows_at (with_row m k n s) q ≡ cond (eq_by_cmp key_cmp q k) (rows_at m k ++ (n, s) ∷ []) (rows_at m q)
  rows_with m k q n s = ap (λ o. unwrap_or o []) (get-insert key_cmp_total m k (rows_at m k ++ (n, s) ∷ []) q) ∙ by (eq_by_cmp key_cmp q k)
    where
      by : (b : Bool) → unwrap_or (cond b (Some (rows_at m k ++ (n, s) ∷ [])) (get m q)) [] ≡ cond b (rows_at m k ++ (n, s) ∷ []) (rows_at m q)
      by true = refl
      by false = refl

  -- ---- numbers above all rows

  pub above_more : (m : RowsByKey X) (n more : ℕ) → n ≤ more → IsAbove m n → IsAbove m more
  above_more m n more le above k = all_weaker (λ r. r.0 < n) (λ r. r.0 < more) (rows_at m k) (λ r less. omega arith) (above k)

  pub above_pushed : (m : RowsByKey X) (k : Key) (n : ℕ) (s : Option X) → IsAbove m n → IsAbove (with_row m k n s) (n + 1)
  above_pushed m k n s above q = subst (AreBelow (n + 1)) (sym (rows_with m k q n s)) (by (eq_by_cmp key_cmp q k))
    where
      higher : IsAbove m (n + 1)
      higher = above_more m n (n + 1) (omega arith) above

      by : (b : Bool) → AreBelow (n + 1) (cond b (rows_at m k ++ (n, s) ∷ []) (rows_at m q))
      by true = all_more (λ r. r.0 < n + 1) (rows_at m k) (n, s) (higher k) (omega arith)
      by false = higher q

  below_kept : (n more : ℕ) (rows : List (Row X)) → AreBelow more rows → AreBelow more (kept n rows)
  below_kept n more [] below = tt
  below_kept n more (r ∷ rs) below = by (begins_to n rs) (below_kept n more rs below.1)
    where
      by : (b : Bool) → AreBelow more (kept n rs) → AreBelow more (cond b (kept n rs) (r ∷ rs))
      by true rest = rest
      by false rest = below

  pub above_compacted : (m : RowsByKey X) (n more : ℕ) → IsAbove m more → IsAbove (compacted m n) more
  above_compacted m n more above k = subst (AreBelow more) (sym (rows_compacted m n k)) (below_kept n more (rows_at m k) (above k))

  -- ---- what is read

  abbrev Alike : RowsByKey X → ℕ → RowsByKey X → ℕ → Type 0
  Alike m n l r = (q : Key) → value m n q ≡ value l r q

  alike : (m l : RowsByKey X) (n r : ℕ) → Alike m n l r → state_at m n ≡ state_at l r
  alike m l n r same = same_map key_cmp_total exact_keys _ _ (λ q. get_state m n q ∙ same q ∙ sym (get_state l r q))

  -- a push changes nothing below its number
  pub state_before : (m : RowsByKey X) (k : Key) (n r : ℕ) (s : Option X) → r < n → state_at (with_row m k n s) r ≡ state_at m r
  state_before m k n r s before = alike (with_row m k n s) m r r (λ q. ap (state_to r) (rows_with m k q n s) ∙ by q (eq_by_cmp key_cmp q k) refl)
    where
      past : nat_le n r ≡ false
      past = grind (arith, nat_tests)

      by : (q : Key) (b : Bool) → eq_by_cmp key_cmp q k ≡ b → state_to r (cond b (rows_at m k ++ (n, s) ∷ []) (rows_at m q)) ≡ state_to r (rows_at m q)
      by q true tie = ap (option_and_then (λ x. x.1)) (row_past r (rows_at m k) (n, s) past) ∙ ap (λ x. state_to r (rows_at m x)) (sym (same_key q k tie))
      by q false tie = refl

  -- past the last row nothing changes
  pub state_beyond : (m : RowsByKey X) (last n : ℕ) → IsAbove m (last + 1) → last ≤ n → state_at m n ≡ state_at m last
  state_beyond m last n above from = alike m m n last (λ q.
      ap (option_and_then (λ x. x.1)) (row_beyond last n (rows_at m q) from (all_weaker (λ r. r.0 < last + 1) (λ r. r.0 ≤ last) (rows_at m q) (λ r less. omega arith) (above q))))

  -- a push at the number after the last puts what it says into what was there last
  pub state_next : (m : RowsByKey X) (k : Key) (last : ℕ) (s : Option X) → IsAbove m (last + 1) → state_at (with_row m k (last + 1) s) (last + 1) ≡ put_at (state_at m last) k s
  state_next m k last s above = state_more m k (last + 1) s above ∙ ap (λ t. put_at t k s) (state_beyond m last (last + 1) above (omega arith))
