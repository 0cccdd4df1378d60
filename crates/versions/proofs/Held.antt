-- A shard by its map of versions: the rows of each key are its records, before and after each call.
use Rattle.std.proofs.Common.{◌≡◌, ℕ, ◌<◌, Bool, true, false, cond, List, [], ◌∷◌, ◌++◌, length, map, Option, Some, None, is_some, IfSome, option_map, option_and_then, append-nil, refl, sym, ap, subst, ◌∙◌, arith, nat_lt}
use Rattle.std.specs.Prelude.{if◌then◌else◌}
use Rattle.std.specs.List.{AllByRecursion}
use Rattle.std.specs.Option.{option_or, unwrap_or}
use Rattle.std.specs.Ordering.{nat_cmp, eq_by_cmp}
use Rattle.std.specs.declared.cmp.Ordering.TheVariants.{Greater}
use Rattle.std.specs.Cmp.{nat_cmp_total}
use Rattle.std.specs.FinMap as finite
use Rattle.std.specs.FinMap.{entries, entries-insert, entries_sorted, find, get, get-empty, get-entries, get-from_entries, get-insert, is_sorted, len-empty, len-entries, nat_cmp-IsAntisymmetric, put, same_map}
use Rattle.std.specs.FinMap.Entries.{below_all}
use Rattle.std.proofs.lemmas.Bool.{and_parts}
use Rattle.std.proofs.lemmas.Bool.Decides.{nat_tests}
use Rattle.std.proofs.lemmas.Option.{none-some, same_Some}
use Rattle.objects.specs.declared.key.Key.{Key}
use Rattle.objects.specs.declared.object.Object.{Object}
use Rattle.objects.specs.Key.{key_cmp}
use Rattle.objects.specs.KeyOrder.{exact_keys, key_cmp_total}
use Rattle.requests.specs.declared.version.Version.{Version}
use Rattle.version_map.specs.Rows.{AreBelow, Row, kept, last_row, state_to}
use Rattle.version_map.specs.Versions as rows
use Rattle.version_map.specs.Versions.{RowsByKey, Versions, rows_at}
use Rattle.version_map.proofs.Chains.{below_none, own_key, rows_compacted, same_key}
use Rattle.version_map.proofs.Lists.{get_state}
use Rattle.versions.specs.Compacted.{compacted}
use Rattle.versions.specs.Held.{AreRows, records_in, records_of, rows_of, shard_of}
use Rattle.versions.specs.Records.{IsAbove, Record, Records, last_of, newest, state_at, up_to, value, version_at}
use Rattle.versions.specs.Shard.{Shard, opening, pushed, raised}
use Rattle.versions.proofs.Found.{all_found, find-append, find-map, is_held, same_options}
use Rattle.versions.proofs.Kept.{rows_left}
use Rattle.versions.proofs.OfKeys.{last_is, last_to, record_found, row_at, row_found, rows_cons, rows_more, state_by_row}
use Rattle.versions.proofs.States.{state_is_value}

in_order : (rs : Records) → is_sorted nat_cmp (entries rs) ≡ true
in_order rs = is_held (is_sorted nat_cmp (entries rs)) (entries_sorted rs)

-- ---- the records are determined by the rows

abbrev of_key : Key → List (Row Object) → List Record
of_key k rows = map (λ r. (r.0, version_at k r.1)) rows

-- a record is a row of its key
record RowIs (es : List (Key × List (Row Object))) (n : ℕ) (v : Version) : Type 0 where
  pub rows : List (Row Object)
  pub there : find key_cmp v.key es ≡ Some rows
  pub found : find nat_cmp n rows ≡ Some v.state

rows_in : (es : List (Key × List (Row Object))) (n : ℕ) (v : Version) → is_sorted key_cmp es ≡ true → find nat_cmp n (records_in es) ≡ Some v → RowIs es n v
rows_in [] n v sorted found = absurd (none-some v found)
rows_in (e ∷ es) n v sorted found =
    by (find nat_cmp n e.1) refl (sym (find-append n (of_key e.0 e.1) (records_in es) ∙ ap (λ o. option_or o (find nat_cmp n (records_in es))) (find-map (version_at e.0) n e.1)) ∙ found)
    (λ more. rows_in es n v parts.1 more)
  where
    parts : (below_all key_cmp e.0 es ≡ true) × (is_sorted key_cmp es ≡ true)
    parts = and_parts (below_all key_cmp e.0 es) (is_sorted key_cmp es) sorted

    later : RowIs es n v → RowIs (e ∷ es) n v
    later r = record { rows = r.rows; there = by_tie (eq_by_cmp key_cmp v.key e.0) refl; found = r.found }
      where
        by_tie : (b : Bool) → eq_by_cmp key_cmp v.key e.0 ≡ b → find key_cmp v.key (e ∷ es) ≡ Some r.rows
        by_tie true tie = absurd (none-some r.rows (sym (below_none e.0 es parts.0) ∙ ap (λ q. find key_cmp q es) (sym (same_key v.key e.0 tie)) ∙ r.there))
        by_tie false tie = ap (λ b. cond b (Some e.1) (find key_cmp v.key es)) tie ∙ r.there

    by : (o : Option (Option Object)) → find nat_cmp n e.1 ≡ o → option_or (option_map (version_at e.0) o) (find nat_cmp n (records_in es)) ≡ Some v → (find nat_cmp n (records_in es) ≡ Some v → RowIs es n v) → RowIs (e ∷ es) n v
    by None is h rest = later (rest h)
    by (Some s) is h rest =
        let one : version_at e.0 s ≡ v = same_Some (version_at e.0 s) v h in
        subst (RowIs (e ∷ es) n) one (record { rows = e.1; there = ap (λ b. cond b (Some e.1) (find key_cmp e.0 es)) (own_key e.0); found = is })

some_row : (es : List (Key × List (Row Object))) (k : Key) (rows : List (Row Object)) (n : ℕ) (s : Option Object) → find key_cmp k es ≡ Some rows → find nat_cmp n rows ≡ Some s
    → is_some (find nat_cmp n (records_in es)) ≡ true
some_row [] k rows n s there found = absurd (none-some rows there)
some_row (e ∷ es) k rows n s there found = ap is_some (find-append n (of_key e.0 e.1) (records_in es) ∙ ap (λ o. option_or o (find nat_cmp n (records_in es))) (find-map (version_at e.0) n e.1))
    ∙ by (find nat_cmp n e.1) refl (eq_by_cmp key_cmp k e.0) refl (λ more. some_row es k rows n s more found)
  where
    by : (o : Option (Option Object)) → find nat_cmp n e.1 ≡ o → (b : Bool) → eq_by_cmp key_cmp k e.0 ≡ b → (find key_cmp k es ≡ Some rows → is_some (find nat_cmp n (records_in es)) ≡ true)
        → is_some (option_or (option_map (version_at e.0) o) (find nat_cmp n (records_in es))) ≡ true
    by (Some t) is b tie rest = refl
    by None is true tie rest =
        let same : e.1 ≡ rows = same_Some e.1 rows (sym (ap (λ b. cond b (Some e.1) (find key_cmp k es)) tie) ∙ there) in
        absurd (none-some s (sym is ∙ ap (find nat_cmp n) same ∙ found))
    by None is false tie rest = rest (sym (ap (λ b. cond b (Some e.1) (find key_cmp k es)) tie) ∙ there)

pub records_are : (m : RowsByKey Object) (rs : Records) → AreRows m rs → records_of m ≡ rs
records_are m rs are = same_map nat_cmp_total nat_cmp-IsAntisymmetric (records_of m) rs (λ n. get-from_entries nat_cmp_total (records_in (entries m)) n ∙ same_options _ (get rs n) (there n) (back n))
  where
    by_key : is_sorted key_cmp (entries m) ≡ true
    by_key = is_held (is_sorted key_cmp (entries m)) (entries_sorted m)

    there : (n : ℕ) (v : Version) → find nat_cmp n (records_in (entries m)) ≡ Some v → get rs n ≡ Some v
    there n v found =
        let r = rows_in (entries m) n v by_key found in
        get-entries rs n ∙ record_found v.key n v.state (entries rs) (in_order rs)
        (ap (find nat_cmp n) (sym (are v.key) ∙ ap (λ o. unwrap_or o []) (get-entries m v.key ∙ r.there)) ∙ r.found)

    back : (n : ℕ) (v : Version) → get rs n ≡ Some v → find nat_cmp n (records_in (entries m)) ≡ Some v
    back n v got = by (find nat_cmp n (records_in (entries m))) refl
      where
        row : find nat_cmp n (rows_at m v.key) ≡ Some v.state
        row = ap (find nat_cmp n) (are v.key) ∙ row_found n v (entries rs) (in_order rs) (sym (get-entries rs n) ∙ got)

        some_there : (o : Option (List (Row Object))) → get m v.key ≡ o → is_some (find nat_cmp n (records_in (entries m))) ≡ true
        some_there None is = absurd (none-some v.state (sym (ap (λ o. find nat_cmp n (unwrap_or o [])) is) ∙ row))
        some_there (Some rows) is = some_row (entries m) v.key rows n v.state (sym (get-entries m v.key) ∙ is) (sym (ap (λ o. find nat_cmp n (unwrap_or o [])) is) ∙ row)

        by : (o : Option Version) → find nat_cmp n (records_in (entries m)) ≡ o → find nat_cmp n (records_in (entries m)) ≡ Some v
        by None is = let no : true ≡ false = sym (some_there (get m v.key) refl) ∙ ap is_some is in absurd cc
        by (Some w) is = is ∙ sym (there n w is) ∙ got

-- ---- readings

pub newest_is : (m : RowsByKey Object) (rs : Records) (k : Key) → AreRows m rs → newest rs k ≡ rows.newest m k
newest_is m rs k are = last_is k (entries rs) ∙ ap last_row (sym (are k))

pub value_is : (m : RowsByKey Object) (rs : Records) (n : ℕ) (k : Key) → AreRows m rs → value rs n k ≡ rows.value m n k
value_is m rs n k are = state_by_row (last_of k (up_to rs n)) ∙ ap (option_and_then (λ (r : Row Object). r.1)) (last_to k n (entries rs)) ∙ ap (state_to n) (sym (are k))

pub state_is : (m : RowsByKey Object) (rs : Records) (n : ℕ) → AreRows m rs → state_at rs n ≡ rows.state_at m n
state_is m rs n are = same_map key_cmp_total exact_keys _ _ (λ k. state_is_value rs n k ∙ value_is m rs n k are ∙ sym (get_state m n k))

-- ---- none yet

pub no_records : entries {X = Version} {R = nat_cmp} finite.empty ≡ []
no_records = by (entries {X = Version} {R = nat_cmp} finite.empty) (sym (len-entries {X = Version} {R = nat_cmp} finite.empty) ∙ len-empty nat_cmp Version)
  where
    by : (es : List Record) → length es ≡ 0 → es ≡ []
    by [] h = refl
    by (e ∷ es) h = absurd (omega arith)

none_are : AreRows finite.empty finite.empty
none_are k = ap (λ o. unwrap_or o []) (get-empty key_cmp k) ∙ ap (rows_of k) (sym no_records)

pub opening_are : (v : Versions Object) → v ≡ rows.opening → AreRows v.rows (records_of v.rows)
opening_are v is = subst (λ (u : Versions Object). AreRows u.rows (records_of u.rows)) (sym is) (subst (AreRows finite.empty) (sym (records_are finite.empty finite.empty none_are)) none_are)

pub opening_is : (v : Versions Object) → v ≡ rows.opening → shard_of v ≡ opening
opening_is v is = ap shard_of is ∙ ap (λ rs. record { records = rs; floor = 0; room = None }) (records_are finite.empty finite.empty none_are)

-- ---- one more

pub all_below : (rs : Records) (n : ℕ) → IsAbove rs n → AllByRecursion (λ (e : Record). e.0 < n) (entries rs)
all_below rs n above = all_found (λ e. e.0 < n) (entries rs) (in_order rs) (λ m v found. above m (ap is_some (get-entries rs m ∙ found)))

pub put_last : (n : ℕ) (v : Version) (es : List Record) → AllByRecursion (λ (e : Record). e.0 < n) es → put nat_cmp n v es ≡ es ++ (n, v) ∷ []
put_last n v [] below = refl
put_last n v (e ∷ es) below = let less = below.0 in rw (past n e.0 less) (ap (λ fs. e ∷ fs) (put_last n v es below.1))
  where
    past : (n m : ℕ) → m < n → nat_cmp n m ≡ Greater
    past n m less = grind (arith, nat_tests)

pub above_is : (m : RowsByKey Object) (rs : Records) (n : ℕ) → AreRows m rs → IsAbove rs n → rows.IsAbove m n
above_is m rs n are above k = subst (AreBelow n) (sym (are k)) (by (entries rs) (all_below rs n above))
  where
    by : (es : List Record) → AllByRecursion (λ (e : Record). e.0 < n) es → AreBelow n (rows_of k es)
    by [] below = tt
    by (e ∷ es) below = subst (AreBelow n) (sym (rows_cons k e es)) (by_tie (eq_by_cmp key_cmp k e.1.key) (by es below.1))
      where
        by_tie : (b : Bool) → AreBelow n (rows_of k es) → AreBelow n (cond b (row_at e ∷ rows_of k es) (rows_of k es))
        by_tie true rest = (below.0, rest)
        by_tie false rest = rest

push_are : (m : RowsByKey Object) (rs : Records) (n : ℕ) (k : Key) (s : Option Object) → AreRows m rs → IsAbove rs n
    → AreRows (finite.insert m k (rows_at m k ++ (n, s) ∷ [])) (finite.insert rs n (version_at k s))
push_are m rs n k s are above q =
    ap (λ o. unwrap_or o []) (get-insert key_cmp_total m k (rows_at m k ++ (n, s) ∷ []) q) ∙ by (eq_by_cmp key_cmp q k) refl
    ∙ sym (ap (rows_of q) (entries-insert nat_cmp_total rs n (version_at k s) ∙ put_last n (version_at k s) (entries rs) (all_below rs n above)) ∙ rows_more q (entries rs) (n, version_at k s)
    ∙ ap (λ rs. rs ++ cond (eq_by_cmp key_cmp q k) ((n, s) ∷ []) []) (sym (are q)))
  where
    by : (b : Bool) → eq_by_cmp key_cmp q k ≡ b → unwrap_or (cond b (Some (rows_at m k ++ (n, s) ∷ [])) (get m q)) [] ≡ rows_at m q ++ cond (eq_by_cmp key_cmp q k) ((n, s) ∷ []) []
    by true tie = ap (λ x. rows_at m x ++ (n, s) ∷ []) (sym (same_key q k tie)) ∙ ap (λ b. rows_at m q ++ cond b ((n, s) ∷ []) []) (sym tie)
    by false tie = sym (ap (λ b. rows_at m q ++ cond b ((n, s) ∷ []) []) tie ∙ append-nil (rows_at m q))

-- a number above all records of the shard that is seen
pub above_seen : (v : Versions Object) (s : Shard) (n : ℕ) → shard_of v ≡ s → IsAbove s.records n → IsAbove (records_of v.rows) n
above_seen v s n view above = subst (λ (t : Shard). IsAbove t.records n) (sym view) above

-- what a push with room for the key leaves
pub pushed_some : (v w : Versions Object) (seen : Shard) (n : ℕ) (k : Key) (s : Option Object) → shard_of v ≡ seen → seen.room ≡ Some k → IfSome v.room (λ q. w ≡ rows.pushed v n q s)
    → w ≡ rows.pushed v n k s
pushed_some v w seen n k s view room after = subst (λ r. IfSome r (λ q. w ≡ rows.pushed v n q s)) (ap (λ (t : Shard). t.room) view ∙ room) after

module _ (v : Versions Object) (are : AreRows v.rows (records_of v.rows)) where
  abbrev rs : Records
  rs = records_of v.rows

  module _ (n : ℕ) (k : Key) (s : Option Object) (above : IsAbove rs n) (w : Versions Object) (is : w ≡ rows.pushed v n k s) where
    abbrev after : RowsByKey Object
    after = finite.insert v.rows k (rows_at v.rows k ++ (n, s) ∷ [])

    pub pushed_are : AreRows w.rows (records_of w.rows)
    pushed_are = subst (λ (u : Versions Object). AreRows u.rows (records_of u.rows)) (sym is)
        (subst (AreRows after) (sym (records_are after _ (push_are v.rows rs n k s are above))) (push_are v.rows rs n k s are above))

    pub pushed_is : shard_of w ≡ pushed (shard_of v) n (version_at k s)
    pushed_is = ap shard_of is ∙ ap (λ r. record { records = r; floor = v.floor; room = None }) (records_are after _ (push_are v.rows rs n k s are above))

  module _ (n : ℕ) (w : Versions Object) (is : w ≡ rows.raised v n) where
    compact_are : AreRows (rows.compacted v.rows n) (compacted rs n)
    compact_are k = rows_compacted v.rows n k ∙ ap (kept n) (are k) ∙ sym (rows_left rs n k)

    pub raised_are : AreRows w.rows (records_of w.rows)
    raised_are = subst (λ (u : Versions Object). AreRows u.rows (records_of u.rows)) (sym is) (by (nat_lt n v.floor))
      where
        by : (b : Bool) → AreRows (if b then v else record { rows = rows.compacted v.rows n; floor = n; room = v.room }).rows (records_of (if b then v else record { rows = rows.compacted v.rows n; floor = n; room = v.room }).rows)
        by true = are
        by false = subst (AreRows (rows.compacted v.rows n)) (sym (records_are (rows.compacted v.rows n) (compacted rs n) compact_are)) compact_are

    pub room_raised : w.room ≡ v.room
    room_raised = ap (λ (u : Versions Object). u.room) is ∙ by (nat_lt n v.floor)
      where
        by : (b : Bool) → (if b then v else record { rows = rows.compacted v.rows n; floor = n; room = v.room }).room ≡ v.room
        by true = refl
        by false = refl

    pub raised_is : shard_of w ≡ raised (shard_of v) n
    raised_is = ap shard_of is ∙ by (nat_lt n v.floor)
      where
        by : (b : Bool) → shard_of (if b then v else record { rows = rows.compacted v.rows n; floor = n; room = v.room }) ≡ (if b then shard_of v else record { records = compacted rs n; floor = n; room = v.room })
        by true = refl
        by false = ap (λ r. record { records = r; floor = n; room = v.room }) (records_are (rows.compacted v.rows n) (compacted rs n) compact_are)
