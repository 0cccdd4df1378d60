-- The lowest caller that was not used is not used.
use Rattle.std.proofs.Common.{◌≡◌, ◌<◌, ◌==◌, ℕ, suc, Bool, true, false, cond, List, [], ◌∷◌, Some, ◌+◌, refl, ap, ◌∙◌, ne_eqb, arith}
use Rattle.std.specs.Prelude.{not, ◌||◌, unwrap_or}
use Rattle.std.specs.List.{find, list_any, range_with_len}
use Rattle.std.proofs.lemmas.List.Folds.{list_any_at}
use Rattle.std.proofs.lemmas.List.FromFn.{get_or-range_with_len, length-range_with_len}
use Rattle.cluster_runs.specs.Cluster.{Cluster, greatest, is_used, lowest_unused}

-- what is found passes the test
found_passes : (test : ℕ → Bool) (ns : List ℕ) (d : ℕ) → list_any test ns ≡ true → test (unwrap_or (find test ns) d) ≡ true
found_passes test [] d some = absurd cc
found_passes test (n ∷ ns) d some = go (test n) refl some (found_passes test ns d)
  where
    go : (b : Bool) → test n ≡ b → (b || list_any test ns) ≡ true → (list_any test ns ≡ true → test (unwrap_or (find test ns) d) ≡ true)
        → test (unwrap_or (cond b (Some n) (find test ns)) d) ≡ true
    go true is any rest = is
    go false is any rest = rest any

none_above : (ns : List ℕ) (n : ℕ) → greatest ns < n → list_any (λ m. m == n) ns ≡ false
none_above [] n above = refl
none_above (m ∷ ns) n above = ap (λ b. b || list_any (λ m. m == n) ns) (ne_eqb m n (λ e. absurd (omega (arith, above, e)))) ∙ none_above ns n (omega (arith, above))

module _ (k : Cluster) where
  test : ℕ → Bool
  test n = not (is_used k n)

  numbers : List ℕ
  numbers = range_with_len 0 (suc (suc (greatest k.used)))

  some_unused : list_any test numbers ≡ true
  unfolding test numbers
  some_unused =
      let top = suc (greatest k.used) in
      let many = length-range_with_len 0 (suc top) in
      list_any_at test numbers top 0 (omega (arith, many))
      (ap test (get_or-range_with_len 0 (suc top) top 0 (omega arith)) ∙ ap not (none_above k.used (0 + top) (omega arith)))

  turned : (b : Bool) → not b ≡ true → b ≡ false
  turned true is = absurd cc
  turned false is = refl

  pub lowest_is_unused : is_used k (lowest_unused k) ≡ false
  unfolding lowest_unused test numbers
  lowest_is_unused = turned (is_used k (lowest_unused k)) (found_passes test numbers 0 some_unused)
