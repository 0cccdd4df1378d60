-- The rows of the keys as a finite map: what it has at a key is what the key's chain has.
use Rattle.std.proofs.Common.{◌≡◌, ℕ, suc, ◌+◌, Bool, true, false, cond, ◌&&◌, T, List, [], ◌∷◌, length, map, Option, Some, None, option_map, is_some, refl, sym, ap, ◌∙◌, arith}
use Rattle.std.specs.Cmp.{eq_by_cmp_equiv}
use Rattle.std.specs.Option.{option_map_or, unwrap_or}
use Rattle.std.specs.Ordering.{eq_by_cmp, is_eq, is_lt}
use Rattle.std.specs.declared.cmp.Ordering.{Ordering}
use Rattle.std.specs.declared.cmp.Ordering.TheVariants.{Less, Equal, Greater}
use Rattle.std.specs.FinMap as map
use Rattle.std.specs.FinMap.{FinMap, entries, entries-insert, entries_sorted, find, get, get-empty, get-entries, get-from_entries, get-insert, get-remove, is_sorted, put, same_map}
use Rattle.std.specs.FinMap.Entries.{below_all, length-put}
use Rattle.std.proofs.lemmas.Bool.{and_parts}
use Rattle.objects.specs.declared.key.Key.{Key}
use Rattle.objects.specs.Key.{key_cmp}
use Rattle.objects.specs.KeyOrder.{equal_from, exact_keys, key_cmp_total}
use Rattle.version_map.specs.Keyed.{put_at}
use Rattle.version_map.specs.Rows.{Row, begins_to, kept}
use Rattle.version_map.specs.Versions.{RowsByKey, compacted, count, count_in, rows_at}
use Rattle.version_map.specs.Consistent.{Chains, KeySlots, by_key, put_rows, rows_by, rows_in, rows_there}

pub same_key : (k q : Key) → eq_by_cmp key_cmp k q ≡ true → k ≡ q
same_key k q tie = exact_keys k q (equal_from (key_cmp k q) tie)

pub own_key : (k : Key) → eq_by_cmp key_cmp k k ≡ true
own_key k = (eq_by_cmp_equiv key_cmp_total).refl k

pub swap : (k q : Key) → eq_by_cmp key_cmp k q ≡ eq_by_cmp key_cmp q k
swap k q = (eq_by_cmp_equiv key_cmp_total).symm k q

pub is_held : (b : Bool) → T b → b ≡ true
is_held true h = refl
is_held false h = absurd h

not_tied : (r : Ordering) → is_lt r ≡ true → is_eq r ≡ false
not_tied Less h = refl
not_tied Equal h = cc
not_tied Greater h = refl

-- a key below all has no entry
pub below_none : {A : Type 0} (k : Key) (es : List (Key × A)) → below_all key_cmp k es ≡ true → find key_cmp k es ≡ None
below_none k [] below = refl
below_none k (e ∷ es) below =
    let parts = and_parts (is_lt (key_cmp k e.0)) (below_all key_cmp k es) below in
    ap (λ b. cond b (Some e.1) (find key_cmp k es)) (not_tied (key_cmp k e.0) parts.0) ∙ below_none k es parts.1

pub get_put_at : {X : Type 0} (m : FinMap key_cmp X) (k : Key) (s : Option X) (q : Key) → get (put_at m k s) q ≡ cond (eq_by_cmp key_cmp q k) s (get m q)
get_put_at m k None q = get-remove key_cmp_total m k q
get_put_at m k (Some x) q = get-insert key_cmp_total m k x q

-- ---- how many rows there are

none_by : {A : Type 0} (n : ℕ) (o : Option A) → suc (suc n) ≡ cond (is_some o) (suc n) (suc n + 1) → o ≡ None
none_by n None h = refl
none_by n (Some x) h = absurd (omega arith)

second : (a b : Bool) → T (a && b) → T b
second true b h = h
second false b h = absurd h

module _ {X : Type 0} where
  abbrev pub some_rows : List (Row X) → Option (List (Row X))
  some_rows [] = None
  some_rows (r ∷ rs) = Some (r ∷ rs)

  count_put : (k : Key) (rows : List (Row X)) (es : List (Key × List (Row X))) → T (is_sorted key_cmp es)
      → count_in (put key_cmp k rows es) + length (unwrap_or (find key_cmp k es) []) ≡ count_in es + length rows
  count_put k rows [] sorted = omega arith
  count_put k rows (e ∷ es) sorted = by (key_cmp k e.0) refl (count_put k rows es (second (below_all key_cmp e.0 es) (is_sorted key_cmp es) sorted))
    where
      by : (o : Ordering) → key_cmp k e.0 ≡ o → count_in (put key_cmp k rows es) + length (unwrap_or (find key_cmp k es) []) ≡ count_in es + length rows → count_in (put key_cmp k rows (e ∷ es)) + length (unwrap_or (find key_cmp k (e ∷ es)) []) ≡ count_in (e ∷ es) + length rows
      by Less is rest =
          let more = length-put key_cmp key_cmp_total k rows (e ∷ es) sorted in
          let none = none_by (length es) (find key_cmp k es) (rw is at more) in
          rw (is, none) (omega arith)
      by Equal is rest = rw is (omega arith)
      by Greater is rest = rw is (omega arith)

  -- other rows for a key change the count by theirs
  pub count_written : (m : RowsByKey X) (k : Key) (rows : List (Row X)) → count (map.insert m k rows) + length (rows_at m k) ≡ count m + length rows
  count_written m k rows =
      ap (λ es. count_in es + length (rows_at m k)) (entries-insert key_cmp_total m k rows)
      ∙ ap (λ o. count_in (put key_cmp k rows (entries m)) + length (unwrap_or o [])) (get-entries m k)
      ∙ count_put k rows (entries m) (entries_sorted m)

  -- ---- the rows of a key

  get_put : (m : RowsByKey X) (k : Key) (rows : List (Row X)) (q : Key) → get (put_rows m k rows) q ≡ cond (eq_by_cmp key_cmp q k) (some_rows rows) (get m q)
  get_put m k [] q = get-remove key_cmp_total m k q
  get_put m k (r ∷ rs) q = get-insert key_cmp_total m k (r ∷ rs) q

  get_by : (cs : Chains X) (es : List (Key × ℕ)) (k : Key) → get (rows_by cs es) k ≡ some_rows (option_map_or (rows_there cs) (find key_cmp k es) [])
  get_by cs [] k = get-empty key_cmp k
  get_by cs (e ∷ es) k =
      get_put (rows_by cs es) e.0 (rows_there cs e.1) k ∙ ap (cond (eq_by_cmp key_cmp k e.0) (some_rows (rows_there cs e.1))) (get_by cs es k)
      ∙ elim (eq_by_cmp key_cmp k e.0) as (λ b. cond b (some_rows (rows_there cs e.1)) (some_rows (option_map_or (rows_there cs) (find key_cmp k es) [])) ≡ some_rows (option_map_or (rows_there cs) (cond b (Some e.1) (find key_cmp k es)) [])) [
        | true ↦ refl
        | false ↦ refl
      ]

  pub get_rows : (ps : KeySlots) (cs : Chains X) (k : Key) → get (by_key ps cs) k ≡ some_rows (rows_in ps cs k)
  get_rows ps cs k = get_by cs (entries ps) k ∙ ap (λ o. some_rows (option_map_or (rows_there cs) o [])) (sym (get-entries ps k))

  or_none : (rows : List (Row X)) → unwrap_or (some_rows rows) [] ≡ rows
  or_none [] = refl
  or_none (r ∷ rs) = refl

  pub rows_are : (ps : KeySlots) (cs : Chains X) (k : Key) → rows_at (by_key ps cs) k ≡ rows_in ps cs k
  rows_are ps cs k = ap (λ o. unwrap_or o []) (get_rows ps cs k) ∙ or_none (rows_in ps cs k)

  -- chains whose rows are the same are one map
  pub same_rows : (ps : KeySlots) (cs : Chains X) (qs : KeySlots) (ds : Chains X) → ((k : Key) → rows_in qs ds k ≡ rows_in ps cs k) → by_key qs ds ≡ by_key ps cs
  same_rows ps cs qs ds same = same_map key_cmp_total exact_keys _ _ (λ q. get_rows qs ds q ∙ ap some_rows (same q) ∙ sym (get_rows ps cs q))

  -- chains whose rows differ at one key are maps that differ there
  pub written_rows : (ps : KeySlots) (cs ds : Chains X) (k : Key) (rows : List (Row X)) → Some rows ≡ some_rows rows
      → ((q : Key) → rows_in ps ds q ≡ cond (eq_by_cmp key_cmp k q) rows (rows_in ps cs q)) → by_key ps ds ≡ map.insert (by_key ps cs) k rows
  written_rows ps cs ds k rows some written = same_map key_cmp_total exact_keys _ _ (λ q.
      get_rows ps ds q ∙ ap some_rows (written q) ∙ by q (eq_by_cmp key_cmp k q) ∙ ap (λ b. cond b (Some rows) (get (by_key ps cs) q)) (swap k q)
      ∙ sym (get-insert key_cmp_total (by_key ps cs) k rows q))
    where
      by : (q : Key) (b : Bool) → some_rows (cond b rows (rows_in ps cs q)) ≡ cond b (Some rows) (get (by_key ps cs) q)
      by q true = sym some
      by q false = sym (get_rows ps cs q)

  -- ---- what compaction leaves

  find_map : (n : ℕ) (q : Key) (es : List (Key × List (Row X))) → find key_cmp q (map (λ e. (e.0, kept n e.1)) es) ≡ option_map (kept n) (find key_cmp q es)
  find_map n q [] = refl
  find_map n q (e ∷ es) =
      elim (eq_by_cmp key_cmp q e.0) as (λ b. cond b (Some (kept n e.1)) (find key_cmp q (map (λ e. (e.0, kept n e.1)) es)) ≡ option_map (kept n) (cond b (Some e.1) (find key_cmp q es))) [
        | true ↦ refl
        | false ↦ find_map n q es
      ]

  pub get_compacted : (m : RowsByKey X) (n : ℕ) (q : Key) → get (compacted m n) q ≡ option_map (kept n) (get m q)
  get_compacted m n q =
      get-from_entries key_cmp_total (map (λ e. (e.0, kept n e.1)) (entries m)) q ∙ find_map n q (entries m) ∙ ap (option_map (kept n)) (sym (get-entries m q))

  pub rows_compacted : (m : RowsByKey X) (n : ℕ) (q : Key) → rows_at (compacted m n) q ≡ kept n (rows_at m q)
  rows_compacted m n q = ap (λ o. unwrap_or o []) (get_compacted m n q) ∙ by (get m q)
    where
      by : (o : Option (List (Row X))) → unwrap_or (option_map (kept n) o) [] ≡ kept n (unwrap_or o [])
      by None = refl
      by (Some rows) = refl

  kept_some : (n : ℕ) (rows : List (Row X)) → option_map (kept n) (some_rows rows) ≡ some_rows (kept n rows)
  kept_some n [] = refl
  kept_some n (r ∷ []) = refl
  kept_some n (r ∷ s ∷ rs) =
      elim (begins_to n (s ∷ rs)) as (λ b. Some (cond b (kept n (s ∷ rs)) (r ∷ s ∷ rs)) ≡ some_rows (cond b (kept n (s ∷ rs)) (r ∷ s ∷ rs))) [
        | true ↦ kept_some n (s ∷ rs)
        | false ↦ refl
      ]

  -- what compaction leaves of some chains, by what it leaves of each key's rows
  pub same_compacted : (ps : KeySlots) (cs ds : Chains X) (n : ℕ) → ((k : Key) → kept n (rows_in ps ds k) ≡ kept n (rows_in ps cs k)) → compacted (by_key ps ds) n ≡ compacted (by_key ps cs) n
  same_compacted ps cs ds n same = same_map key_cmp_total exact_keys _ _ (λ q. at ds q ∙ ap some_rows (same q) ∙ sym (at cs q))
    where
      at : (es : Chains X) (q : Key) → get (compacted (by_key ps es) n) q ≡ some_rows (kept n (rows_in ps es q))
      at es q = get_compacted (by_key ps es) n q ∙ ap (option_map (kept n)) (get_rows ps es q) ∙ kept_some n (rows_in ps es q)

  pub none_compacted : (ps : KeySlots) (cs : Chains X) (n : ℕ) → ((k : Key) → kept n (rows_in ps cs k) ≡ rows_in ps cs k) → compacted (by_key ps cs) n ≡ by_key ps cs
  none_compacted ps cs n all = same_map key_cmp_total exact_keys _ _ (λ q.
      get_compacted (by_key ps cs) n q ∙ ap (option_map (kept n)) (get_rows ps cs q) ∙ kept_some n (rows_in ps cs q) ∙ ap some_rows (all q) ∙ sym (get_rows ps cs q))

  -- the rows of a key by the slot that is found
  pub rows_found : (ps : KeySlots) (cs : Chains X) (m : RowsByKey X) (k : Key) (found : Option ℕ) → by_key ps cs ≡ m → get ps k ≡ found
      → rows_at m k ≡ option_map_or (rows_there cs) found []
  rows_found ps cs m k found is at = ap (λ n. rows_at n k) (sym is) ∙ rows_are ps cs k ∙ ap (λ o. option_map_or (rows_there cs) o []) at
