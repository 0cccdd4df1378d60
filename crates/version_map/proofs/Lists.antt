-- What is there at a number of a kind in a namespace: what the chains of those keys say, in the order of the keys.
use Rattle.std.proofs.Common.{◌≡◌, ℕ, ◌≤◌, arith, nat_le, IfSome, Bool, true, false, cond, T, List, [], ◌∷◌, ◌++◌, map, Option, Some, None, option_map, option_and_then, refl, sym, ap, subst, ◌∙◌}
use Rattle.std.specs.Option.{option_map_or, option_to_list, unwrap_or}
use Rattle.std.specs.Ordering.{eq_by_cmp, is_lt}
use Rattle.std.specs.declared.cmp.Ordering.TheVariants.{Equal}
use Rattle.std.specs.FinMap.{FinMap, entries, entries-from_sorted, entries_sorted, find, from_sorted, get, get-entries, get-from_entries, get-from_sorted, get-insert, get-retain_keys, insert, is_sorted, retain_keys, same_map}
use Rattle.std.specs.FinMap.Entries.{below_all, find-where_key, is_sorted-where_key, where_key}
use Rattle.std.proofs.lemmas.Bool.{and_parts}
use Rattle.std.proofs.lemmas.Bool.Decides.{nat_tests}
use Rattle.std.proofs.lemmas.List.Concat.{flat_map-cons}
use Rattle.objects.specs.declared.key.Key.{Key}
use Rattle.objects.specs.declared.kind.Kind.{Kind}
use Rattle.objects.specs.Key.{key_cmp}
use Rattle.objects.specs.KeyOrder.{exact_keys, key_cmp_total}
use Rattle.version_map.specs.Keys.{is_of}
use Rattle.version_map.specs.Keyed.{collection, put_at}
use Rattle.version_map.specs.Rows.{Row, state_to}
use Rattle.version_map.specs.Versions.{IsAbove, RowsByKey, Versions, compacted, rows_at, state_at, states_to, value, with_state}
use Rattle.version_map.specs.Consistent.{Chains, KeySlots, by_key, key_at, rows_there, values_in}
use Rattle.version_map.proofs.Chains.{below_none, get_put_at, is_held, rows_are, same_key}
use Rattle.version_map.proofs.Rows.{row_here}
use Rattle.version_map.proofs.Steps.{room_key, seen, value_left}

holds : (b : Bool) → b ≡ true → T b
holds true h = tt
holds false h = cc

-- the entries that a collection keeps
kept_entries : {A : Type 0} (m : FinMap key_cmp A) (kind : Kind) (namespace : List ℕ) → entries (retain_keys m (is_of kind namespace)) ≡ where_key key_cmp (is_of kind namespace) (entries m)
kept_entries m kind namespace =
    let p = is_of kind namespace in
    let alike : (q x : Key) → key_cmp q x ≡ Equal → p x ≡ p q = λ q x tie. ap p (sym (exact_keys q x tie)) in
    let sorted = is_sorted-where_key key_cmp p (entries m) (entries_sorted m) in
    ap entries (same_map key_cmp_total exact_keys (retain_keys m p) (from_sorted (where_key key_cmp p (entries m))) (λ q.
    get-retain_keys m p q (alike q) ∙ ap (λ o. cond (p q) o None) (get-entries m q)
    ∙ sym (get-from_sorted key_cmp (where_key key_cmp p (entries m)) q sorted ∙ find-where_key key_cmp p q (alike q) (entries m))))
    ∙ entries-from_sorted key_cmp (where_key key_cmp p (entries m)) sorted

module _ {X : Type 0} where
  -- ---- the state of each key

  abbrev state_by : ℕ → Option (List (Row X)) → Option X
  state_by n o = option_and_then (state_to n) o

  found_by : (q k : Key) (s : Option X) (rows : List (Row X)) (es : List (Key × X)) (rest : Option X) (b : Bool) → eq_by_cmp key_cmp q k ≡ b → (b ≡ true → rest ≡ None)
      → find key_cmp q es ≡ rest → find key_cmp q (with_state k s es) ≡ cond b s rest
  found_by q k None rows es rest true tie none is = is ∙ none refl
  found_by q k None rows es rest false tie none is = is
  found_by q k (Some x) rows es rest b tie none is = ap (λ c. cond c (Some x) (find key_cmp q es)) tie ∙ ap (cond b (Some x)) is

  find_states : (n : ℕ) (q : Key) (es : List (Key × List (Row X))) → is_sorted key_cmp es ≡ true → find key_cmp q (states_to n es) ≡ state_by n (find key_cmp q es)
  find_states n q [] sorted = refl
  find_states n q (e ∷ es) sorted =
      let parts = and_parts (below_all key_cmp e.0 es) (is_sorted key_cmp es) sorted in
      found_by q e.0 (state_to n e.1) e.1 (states_to n es) (state_by n (find key_cmp q es)) (eq_by_cmp key_cmp q e.0) refl
      (λ tie. ap (λ x. state_by n (find key_cmp x es)) (same_key q e.0 tie) ∙ ap (state_by n) (below_none e.0 es parts.0))
      (find_states n q es parts.1)
      ∙ elim (eq_by_cmp key_cmp q e.0) as (λ b. cond b (state_to n e.1) (state_by n (find key_cmp q es)) ≡ state_by n (cond b (Some e.1) (find key_cmp q es))) [ true ↦ refl | false ↦ refl ]

  below_with : (k p : Key) (s : Option X) (es : List (Key × X)) → is_lt (key_cmp k p) ≡ true → below_all key_cmp k es ≡ true → below_all key_cmp k (with_state p s es) ≡ true
  below_with k p None es less below = below
  below_with k p (Some x) es less below = rw (less, below) refl

  below_states : (n : ℕ) (k : Key) (es : List (Key × List (Row X))) → below_all key_cmp k es ≡ true → below_all key_cmp k (states_to n es) ≡ true
  below_states n k [] below = refl
  below_states n k (e ∷ es) below =
      let parts = and_parts (is_lt (key_cmp k e.0)) (below_all key_cmp k es) below in
      below_with k e.0 (state_to n e.1) (states_to n es) parts.0 (below_states n k es parts.1)

  sorted_with : (p : Key) (s : Option X) (es : List (Key × X)) → below_all key_cmp p es ≡ true → is_sorted key_cmp es ≡ true → is_sorted key_cmp (with_state p s es) ≡ true
  sorted_with p None es below sorted = sorted
  sorted_with p (Some x) es below sorted = rw (below, sorted) refl

  sorted_states : (n : ℕ) (es : List (Key × List (Row X))) → is_sorted key_cmp es ≡ true → is_sorted key_cmp (states_to n es) ≡ true
  sorted_states n [] sorted = refl
  sorted_states n (e ∷ es) sorted =
      let parts = and_parts (below_all key_cmp e.0 es) (is_sorted key_cmp es) sorted in
      sorted_with e.0 (state_to n e.1) (states_to n es) (below_states n e.0 es parts.0) (sorted_states n es parts.1)

  state_by_or : (n : ℕ) (o : Option (List (Row X))) → state_by n o ≡ state_to n (unwrap_or o [])
  state_by_or n None = refl
  state_by_or n (Some rows) = refl

  -- of all that was there at a number each key has its value
  pub get_state : (m : RowsByKey X) (n : ℕ) (q : Key) → get (state_at m n) q ≡ value m n q
  get_state m n q =
      get-from_entries key_cmp_total (states_to n (entries m)) q ∙ find_states n q (entries m) (is_held (is_sorted key_cmp (entries m)) (entries_sorted m))
      ∙ ap (state_by n) (sym (get-entries m q)) ∙ state_by_or n (get m q)

  -- so it stays when what is no longer read is dropped
  pub state_left : (m : RowsByKey X) (n r : ℕ) → n ≤ r → state_at (compacted m n) r ≡ state_at m r
  state_left m n r from = same_map key_cmp_total exact_keys _ _ (λ q. get_state (compacted m n) r q ∙ value_left m n r q from ∙ sym (get_state m r q))

  -- one more row past all others puts what it says
  pub state_more : (m : RowsByKey X) (k : Key) (n : ℕ) (s : Option X) → IsAbove m n → state_at (insert m k (rows_at m k ++ (n, s) ∷ [])) n ≡ put_at (state_at m n) k s
  state_more m k n s above = same_map key_cmp_total exact_keys _ _ (λ q.
      get_state (insert m k (rows_at m k ++ (n, s) ∷ [])) n q
      ∙ ap (λ o. state_to n (unwrap_or o [])) (get-insert key_cmp_total m k (rows_at m k ++ (n, s) ∷ []) q)
      ∙ by q (eq_by_cmp key_cmp q k)
      ∙ sym (get_put_at (state_at m n) k s q ∙ ap (cond (eq_by_cmp key_cmp q k) s) (get_state m n q)))
    where
      by : (q : Key) (b : Bool) → state_to n (unwrap_or (cond b (Some (rows_at m k ++ (n, s) ∷ [])) (get m q)) []) ≡ cond b s (value m n q)
      by q true = let upto : nat_le n n ≡ true = grind (arith, nat_tests) in ap (option_and_then (λ r. r.1)) (row_here n (rows_at m k) (n, s) upto)
      by q false = refl

  pub written_view : (ps : KeySlots) (cs ds : Chains X) (p n : ℕ) (k : Key) (s : Option X) (v : Versions X) (floor : ℕ) (room : Option ℕ)
      → seen (by_key ps cs) floor (room_key ps room) ≡ v → Some p ≡ room → key_at ps p ≡ Some k → IsAbove v.rows n
      → by_key ps ds ≡ insert (by_key ps cs) k (rows_at (by_key ps cs) k ++ (n, s) ∷ []) → IfSome v.room (λ key. state_at (by_key ps ds) n ≡ put_at (state_at v.rows n) key s)
  written_view ps cs ds p n k s v floor room view is at above rows =
      subst (λ (u : Versions X). IfSome u.room (λ key. state_at (by_key ps ds) n ≡ put_at (state_at u.rows n) key s)) view
      (subst (λ (r : Option Key). IfSome r (λ key. state_at (by_key ps ds) n ≡ put_at (state_at (by_key ps cs) n) key s)) (sym at ∙ ap (room_key ps) is)
      (ap (λ m. state_at m n) rows ∙ state_more (by_key ps cs) k n s (subst (λ (u : Versions X). IsAbove u.rows n) (sym view) above)))

  -- ---- the rows of the slots, as entries

  abbrev raw : Chains X → List (Key × ℕ) → List (Key × List (Row X))
  raw cs es = map (λ e. (e.0, rows_there cs e.1)) es

  find_raw : (q : Key) (cs : Chains X) (es : List (Key × ℕ)) → find key_cmp q (raw cs es) ≡ option_map (rows_there cs) (find key_cmp q es)
  find_raw q cs [] = refl
  find_raw q cs (e ∷ es) =
      elim (eq_by_cmp key_cmp q e.0) as (λ b. cond b (Some (rows_there cs e.1)) (find key_cmp q (raw cs es)) ≡ option_map (rows_there cs) (cond b (Some e.1) (find key_cmp q es))) [
        | true ↦ refl
        | false ↦ find_raw q cs es
      ]

  below_raw : (k : Key) (cs : Chains X) (es : List (Key × ℕ)) → below_all key_cmp k es ≡ true → below_all key_cmp k (raw cs es) ≡ true
  below_raw k cs [] h = refl
  below_raw k cs (e ∷ es) h = let parts = and_parts (is_lt (key_cmp k e.0)) (below_all key_cmp k es) h in rw (parts.0, below_raw k cs es parts.1) refl

  sorted_raw : (cs : Chains X) (es : List (Key × ℕ)) → is_sorted key_cmp es ≡ true → is_sorted key_cmp (raw cs es) ≡ true
  sorted_raw cs [] h = refl
  sorted_raw cs (e ∷ es) h = let parts = and_parts (below_all key_cmp e.0 es) (is_sorted key_cmp es) h in rw (below_raw e.0 cs es parts.0, sorted_raw cs es parts.1) refl

  state_by_slot : (n : ℕ) (cs : Chains X) (o : Option ℕ) → state_by n (option_map (rows_there cs) o) ≡ state_to n (option_map_or (rows_there cs) o [])
  state_by_slot n cs None = refl
  state_by_slot n cs (Some p) = refl

  -- ---- what is there, of a kind in a namespace

  state_is : (n : ℕ) (ps : KeySlots) (cs : Chains X) → state_at (by_key ps cs) n ≡ from_sorted (states_to n (raw cs (entries ps)))
  state_is n ps cs =
      let rows = sorted_raw cs (entries ps) (is_held (is_sorted key_cmp (entries ps)) (entries_sorted ps)) in
      let states = states_to n (raw cs (entries ps)) in
      same_map key_cmp_total exact_keys _ _ (λ q.
      get_state (by_key ps cs) n q ∙ ap (state_to n) (rows_are ps cs q) ∙ ap (λ o. state_to n (option_map_or (rows_there cs) o [])) (get-entries ps q)
      ∙ sym (get-from_sorted key_cmp states q (holds (is_sorted key_cmp states) (sorted_states n (raw cs (entries ps)) rows))
      ∙ find_states n q (raw cs (entries ps)) rows ∙ ap (state_by n) (find_raw q cs (entries ps)) ∙ state_by_slot n cs (find key_cmp q (entries ps))))

  filter_with : (p : Key → Bool) (k : Key) (s : Option X) (es : List (Key × X)) (b : Bool) → p k ≡ b → where_key key_cmp p (with_state k s es) ≡ cond b (with_state k s (where_key key_cmp p es)) (where_key key_cmp p es)
  filter_with p k None es true is = refl
  filter_with p k None es false is = refl
  filter_with p k (Some x) es b is = ap (λ c. cond c ((k, x) ∷ where_key key_cmp p es) (where_key key_cmp p es)) is

  filter_states : (n : ℕ) (p : Key → Bool) (cs : Chains X) (es : List (Key × ℕ)) → where_key key_cmp p (states_to n (raw cs es)) ≡ states_to n (raw cs (where_key key_cmp p es))
  filter_states n p cs [] = refl
  filter_states n p cs (e ∷ es) =
      filter_with p e.0 (state_to n (rows_there cs e.1)) (states_to n (raw cs es)) (p e.0) refl
      ∙ ap (λ fs. cond (p e.0) (with_state e.0 (state_to n (rows_there cs e.1)) fs) fs) (filter_states n p cs es)
      ∙ elim (p e.0) as (λ b. cond b (with_state e.0 (state_to n (rows_there cs e.1)) (states_to n (raw cs (where_key key_cmp p es)))) (states_to n (raw cs (where_key key_cmp p es)))
      ≡ states_to n (raw cs (cond b (e ∷ where_key key_cmp p es) (where_key key_cmp p es)))) [ true ↦ refl | false ↦ refl ]

  values_of : (n : ℕ) (cs : Chains X) (es : List (Key × ℕ)) → map (λ e. e.1) (states_to n (raw cs es)) ≡ values_in n cs (map (λ e. e.1) es)
  values_of n cs [] = refl
  values_of n cs (e ∷ es) = by (state_to n (rows_there cs e.1)) ∙ ap (λ vs. option_to_list (state_to n (rows_there cs e.1)) ++ vs) (values_of n cs es)
      ∙ sym (flat_map-cons (λ p. option_to_list (state_to n (rows_there cs p))) e.1 (map (λ f. f.1) es))
    where
      by : (o : Option X) → map (λ f. f.1) (with_state e.0 o (states_to n (raw cs es))) ≡ option_to_list o ++ map (λ f. f.1) (states_to n (raw cs es))
      by None = refl
      by (Some x) = refl

  pub collection_is : (n : ℕ) (ps : KeySlots) (cs : Chains X) (m : RowsByKey X) (kind : Kind) (namespace : List ℕ) → by_key ps cs ≡ m
      → values_in n cs (collection ps kind namespace) ≡ collection (state_at m n) kind namespace
  collection_is n ps cs m kind namespace is =
      let p = is_of kind namespace in
      let states = states_to n (raw cs (entries ps)) in
      let sorted : T (is_sorted key_cmp states) = holds (is_sorted key_cmp states) (sorted_states n (raw cs (entries ps)) (sorted_raw cs (entries ps) (is_held (is_sorted key_cmp (entries ps)) (entries_sorted ps)))) in
      ap (λ es. values_in n cs (map (λ (e : Key × ℕ). e.1) es)) (kept_entries ps kind namespace)
      ∙ sym (sym (ap (λ rs. collection (state_at rs n) kind namespace) is)
      ∙ ap (λ m. collection m kind namespace) (state_is n ps cs) ∙ ap (map (λ (e : Key × X). e.1)) (kept_entries (from_sorted states) kind namespace)
      ∙ ap (λ es. map (λ (e : Key × X). e.1) (where_key key_cmp p es)) (entries-from_sorted key_cmp states sorted)
      ∙ ap (map (λ (e : Key × X). e.1)) (filter_states n p cs (entries ps)) ∙ values_of n cs (where_key key_cmp p (entries ps)))
