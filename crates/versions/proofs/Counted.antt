-- As many rows as records, if the rows of each key are its records.
use Rattle.std.proofs.Common.{◌≡◌, ℕ, ◌+◌, Bool, true, false, cond, List, [], ◌∷◌, length, Option, Some, None, is_some, refl, sym, ap, ◌∙◌, arith}
use Rattle.std.specs.List.{AllByRecursion}
use Rattle.std.specs.Option.{unwrap_or}
use Rattle.std.specs.Ordering.{nat_cmp, eq_by_cmp}
use Rattle.std.specs.FinMap.{entries, entries_sorted, find, get, get-entries, is_sorted, len, len-entries}
use Rattle.std.specs.FinMap.Entries.{below_all}
use Rattle.std.proofs.lemmas.Bool.{and_parts}
use Rattle.std.proofs.lemmas.Option.{none-some}
use Rattle.objects.specs.declared.key.Key.{Key}
use Rattle.objects.specs.declared.object.Object.{Object}
use Rattle.objects.specs.Key.{key_cmp}
use Rattle.version_map.specs.Rows.{Row}
use Rattle.version_map.specs.Versions.{RowsByKey, count, count_in, rows_at}
use Rattle.version_map.proofs.Chains.{below_none, is_held, own_key, same_key, swap}
use Rattle.versions.specs.Held.{AreRows, rows_of}
use Rattle.versions.specs.Records.{Record, Records}
use Rattle.versions.proofs.Found.{all_found}
use Rattle.versions.proofs.OfKeys.{row_at, row_found, rows_cons}

abbrev Entries : Type 0
Entries = List (Key × List (Row Object))

-- the records of the keys of the entries
abbrev of_entries : Entries → List Record → ℕ
of_entries [] es = 0
of_entries (m ∷ ms) es = length (rows_of m.0 es) + of_entries ms es

-- how many entries are of a key
abbrev ones : Key → Entries → ℕ
ones k [] = 0
ones k (m ∷ ms) = cond (eq_by_cmp key_cmp m.0 k) 1 0 + ones k ms

no_ones : (k : Key) (ms : Entries) → find key_cmp k ms ≡ None → ones k ms ≡ 0
no_ones k [] none = refl
no_ones k (m ∷ ms) none = by (λ more. no_ones k ms more) (eq_by_cmp key_cmp k m.0) refl
  where
    by : (find key_cmp k ms ≡ None → ones k ms ≡ 0) → (b : Bool) → eq_by_cmp key_cmp k m.0 ≡ b → cond (eq_by_cmp key_cmp m.0 k) 1 0 + ones k ms ≡ 0
    by rest true tie = absurd (none-some m.1 (sym none ∙ ap (λ b. cond b (Some m.1) (find key_cmp k ms)) tie))
    by rest false tie = let zero_more = rest (sym (ap (λ b. cond b (Some m.1) (find key_cmp k ms)) tie) ∙ none) in ap (λ b. cond b 1 0 + ones k ms) (swap m.0 k ∙ tie) ∙ omega arith

one_of : (k : Key) (ms : Entries) → is_sorted key_cmp ms ≡ true → is_some (find key_cmp k ms) ≡ true → ones k ms ≡ 1
one_of k [] sorted there = absurd cc
one_of k (m ∷ ms) sorted there = by (eq_by_cmp key_cmp k m.0) refl (λ more. one_of k ms parts.1 more)
  where
    parts : (below_all key_cmp m.0 ms ≡ true) × (is_sorted key_cmp ms ≡ true)
    parts = and_parts (below_all key_cmp m.0 ms) (is_sorted key_cmp ms) sorted

    by : (b : Bool) → eq_by_cmp key_cmp k m.0 ≡ b → (is_some (find key_cmp k ms) ≡ true → ones k ms ≡ 1) → cond (eq_by_cmp key_cmp m.0 k) 1 0 + ones k ms ≡ 1
    by true tie rest =
        let none = no_ones k ms (ap (λ q. find key_cmp q ms) (same_key k m.0 tie) ∙ below_none m.0 ms parts.0) in
        ap (λ b. cond b 1 0 + ones k ms) (swap m.0 k ∙ tie) ∙ omega arith
    by false tie rest =
        let one = rest (sym (ap (λ b. is_some (cond b (Some m.1) (find key_cmp k ms))) tie) ∙ there) in
        ap (λ b. cond b 1 0 + ones k ms) (swap m.0 k ∙ tie) ∙ omega arith

one_more : (e : Record) (es : List Record) (ms : Entries) → of_entries ms (e ∷ es) ≡ ones e.1.key ms + of_entries ms es
one_more e es [] = refl
one_more e es (m ∷ ms) = by (eq_by_cmp key_cmp m.0 e.1.key) (one_more e es ms) (ap length (rows_cons m.0 e es))
  where
    by : (b : Bool) → of_entries ms (e ∷ es) ≡ ones e.1.key ms + of_entries ms es → length (rows_of m.0 (e ∷ es)) ≡ length (cond b (row_at e ∷ rows_of m.0 es) (rows_of m.0 es))
        → length (rows_of m.0 (e ∷ es)) + of_entries ms (e ∷ es) ≡ (cond b 1 0 + ones e.1.key ms) + (length (rows_of m.0 es) + of_entries ms es)
    by true rest here = omega arith
    by false rest here = omega arith

none_counted : (ms : Entries) → of_entries ms [] ≡ 0
none_counted [] = refl
none_counted (m ∷ ms) = let rest = none_counted ms in omega arith

all_counted : (es : List Record) (ms : Entries) → is_sorted key_cmp ms ≡ true → AllByRecursion (λ (e : Record). is_some (find key_cmp e.1.key ms) ≡ true) es → of_entries ms es ≡ length es
all_counted [] ms sorted there = none_counted ms
all_counted (e ∷ es) ms sorted there =
    let more = one_more e es ms in
    let one = one_of e.1.key ms sorted there.0 in
    let rest = all_counted es ms sorted there.1 in omega arith

count_by : (es : List Record) (ms : Entries) → AllByRecursion (λ (m : Key × List (Row Object)). m.1 ≡ rows_of m.0 es) ms → count_in ms ≡ of_entries ms es
count_by es [] are = refl
count_by es (m ∷ ms) are = let here = ap length are.0 in let rest = count_by es ms are.1 in omega arith

-- what holds of all that is found holds of all
all_entries : (P : Key × List (Row Object) → Type 0) (ms : Entries) → is_sorted key_cmp ms ≡ true → ((k : Key) (rows : List (Row Object)) → find key_cmp k ms ≡ Some rows → P (k, rows)) → AllByRecursion P ms
all_entries P [] sorted each = tt
all_entries P (m ∷ ms) sorted each = (each m.0 m.1 (ap (λ b. cond b (Some m.1) (find key_cmp m.0 ms)) (own_key m.0)), all_entries P ms parts.1 (λ k rows found. each k rows (later k rows found)))
  where
    parts : (below_all key_cmp m.0 ms ≡ true) × (is_sorted key_cmp ms ≡ true)
    parts = and_parts (below_all key_cmp m.0 ms) (is_sorted key_cmp ms) sorted

    later : (k : Key) (rows : List (Row Object)) → find key_cmp k ms ≡ Some rows → find key_cmp k (m ∷ ms) ≡ Some rows
    later k rows found = by (eq_by_cmp key_cmp k m.0) refl
      where
        by : (b : Bool) → eq_by_cmp key_cmp k m.0 ≡ b → find key_cmp k (m ∷ ms) ≡ Some rows
        by true tie = absurd (none-some rows (sym (below_none m.0 ms parts.0) ∙ ap (λ q. find key_cmp q ms) (sym (same_key k m.0 tie)) ∙ found))
        by false tie = ap (λ b. cond b (Some m.1) (find key_cmp k ms)) tie ∙ found

-- a key that has a row is there
pub rows_there : (m : RowsByKey Object) (k : Key) (n : ℕ) (s : Option Object) → find nat_cmp n (rows_at m k) ≡ Some s → is_some (get m k) ≡ true
rows_there m k n s found = by (get m k) refl
  where
    by : (o : Option (List (Row Object))) → get m k ≡ o → is_some o ≡ true
    by None is = absurd (none-some s (sym (ap (λ o. find nat_cmp n (unwrap_or o [])) is) ∙ found))
    by (Some rows) is = refl

pub count_is : (m : RowsByKey Object) (rs : Records) → AreRows m rs → count m ≡ len rs
count_is m rs are =
    let by_number = is_held (is_sorted nat_cmp (entries rs)) (entries_sorted rs) in
    let by_key = is_held (is_sorted key_cmp (entries m)) (entries_sorted m) in
    count_by (entries rs) (entries m) (all_entries (λ e. e.1 ≡ rows_of e.0 (entries rs)) (entries m) by_key
    (λ k rows found. sym (ap (λ o. unwrap_or o []) (get-entries m k ∙ found)) ∙ are k))
    ∙ all_counted (entries rs) (entries m) by_key (all_found (λ e. is_some (find key_cmp e.1.key (entries m)) ≡ true) (entries rs) by_number
    (λ n v found. ap is_some (sym (get-entries m v.key)) ∙ rows_there m v.key n v.state (ap (find nat_cmp n) (are v.key) ∙ row_found n v (entries rs) by_number found)))
    ∙ sym (len-entries rs)
