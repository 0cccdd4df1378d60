-- The newest records of keys, after a push and after a compaction.
use Rattle.std.proofs.Common.{◌≡◌, ℕ, ◌<◌, ◌≤◌, Bool, true, false, not, cond, ◌&&◌, List, [], ◌∷◌, ◌++◌, filter, Option, Some, None, is_some, option_map, refl, sym, ap, subst, ◌∙◌, arith, nat_lt, nat_le, true≢false}
use Rattle.std.specs.List.{AllByRecursion, list_any}
use Rattle.std.specs.Option.{option_map_or, option_or}
use Rattle.std.specs.Ordering.{nat_cmp, eq_by_cmp}
use Rattle.std.specs.Cmp.{nat_cmp_total}
use Rattle.std.specs.FinMap.{contains_key, entries, entries-insert, entries_sorted, find, get, get-entries, get-insert, get-retain_keys, insert, is_sorted, nat_cmp-IsAntisymmetric}
use Rattle.std.specs.FinMap.Entries.{below_all}
use Rattle.std.proofs.lemmas.Bool.{and_parts}
use Rattle.std.proofs.lemmas.Bool.Decides.{nat_tests}
use Rattle.std.proofs.lemmas.Option.{none-some, same_Some}
use Rattle.objects.specs.declared.key.Key.{Key}
use Rattle.objects.specs.declared.object.Object.{Object}
use Rattle.objects.specs.Key.{key_cmp}
use Rattle.requests.specs.declared.version.Version.{Version}
use Rattle.version_map.specs.Rows.{Row, begins_to, kept, row_to}
use Rattle.versions.specs.Compacted.{compacted, is_superseded}
use Rattle.versions.specs.Held.{rows_of}
use Rattle.versions.specs.Records.{IsAbove, Record, Records, last_of, up_to}
use Rattle.versions.proofs.Found.{equal_numbers, found_here, is_held, is_sorted-filter, is_sorted-map, less_all, none_below}
use Rattle.versions.proofs.Held.{all_below, put_last}
use Rattle.versions.proofs.Kept.{rows_left}
use Rattle.versions.proofs.OfKeys.{last_to, row_at, row_found}

in_order : (rs : Records) → is_sorted nat_cmp (entries rs) ≡ true
in_order rs = is_held (is_sorted nat_cmp (entries rs)) (entries_sorted rs)

-- ---- a push

filter_last : {X : Type 0} (p : X → Bool) (es : List X) (e : X) → p e ≡ false → filter p (es ++ e ∷ []) ≡ filter p es
filter_last p [] e out = rw out refl
filter_last p (x ∷ es) e out =
    elim (p x) as (λ b. cond b (x ∷ filter p (es ++ e ∷ [])) (filter p (es ++ e ∷ [])) ≡ cond b (x ∷ filter p es) (filter p es)) [
      | true ↦ ap (λ fs. x ∷ fs) (filter_last p es e out)
      | false ↦ filter_last p es e out
    ]

-- a record above a number changes nothing up to it
pub up_to_push : (rs : Records) (n f : ℕ) (v : Version) → IsAbove rs n → f < n → up_to (insert rs n v) f ≡ up_to rs f
up_to_push rs n f v above less =
    ap (filter (λ r. nat_le r.0 f)) (entries-insert nat_cmp_total rs n v ∙ put_last n v (entries rs) (all_below rs n above))
    ∙ filter_last (λ (r : Record). nat_le r.0 f) (entries rs) (n, v) (past n f less)
  where
    past : (n f : ℕ) → f < n → nat_le n f ≡ false
    past n f less = grind (arith, nat_tests)

-- what is found after a push is the new record or was found before
pub found_pushed : {P : Type 0} (rs : Records) (n m : ℕ) (v w : Version) → get (insert rs n v) m ≡ Some w → (m ≡ n → v ≡ w → P) → (get rs m ≡ Some w → P) → P
found_pushed {P} rs n m v w found new old = by (eq_by_cmp nat_cmp m n) refl (sym (get-insert nat_cmp_total rs n v m) ∙ found)
  where
    by : (b : Bool) → eq_by_cmp nat_cmp m n ≡ b → cond (eq_by_cmp nat_cmp m n) (Some v) (get rs m) ≡ Some w → P
    by true tie is = new (equal_numbers m n tie) (same_Some v w (sym (ap (λ b. cond b (Some v) (get rs m)) tie) ∙ is))
    by false tie is = old (sym (ap (λ b. cond b (Some v) (get rs m)) tie) ∙ is)

-- what was there is there after a push
pub stays_pushed : (rs : Records) (n m : ℕ) (v : Version) → contains_key rs m ≡ true → contains_key (insert rs n v) m ≡ true
stays_pushed rs n m v there = ap is_some (get-insert nat_cmp_total rs n v m) ∙ by (eq_by_cmp nat_cmp m n)
  where
    by : (b : Bool) → is_some (cond b (Some v) (get rs m)) ≡ true
    by true = refl
    by false = there

pub there_pushed : (rs : Records) (n : ℕ) (v : Version) → contains_key (insert rs n v) n ≡ true
there_pushed rs n v = ap is_some (get-insert nat_cmp_total rs n v n) ∙ by (eq_by_cmp nat_cmp n n) refl
  where
    itself : (n : ℕ) → eq_by_cmp nat_cmp n n ≡ true
    itself n = grind (arith, nat_tests)

    by : (b : Bool) → eq_by_cmp nat_cmp n n ≡ b → is_some (cond b (Some v) (get rs n)) ≡ true
    by true tie = refl
    by false tie = absurd (true≢false (sym (itself n) ∙ tie))

-- what is there is found
pub found_there : {P : Type 0} (rs : Records) (n : ℕ) → contains_key rs n ≡ true → ((v : Version) → get rs n ≡ Some v → P) → P
found_there {P} rs n there go = by (get rs n) refl there
  where
    by : (o : Option Version) → get rs n ≡ o → is_some o ≡ true → P
    by (Some v) is h = go v is
    by None is h = absurd cc

-- ---- a compaction

left_is : (rs : Records) (n m : ℕ) → get (compacted rs n) m ≡ cond (not (is_superseded rs n m)) (get rs m) None
left_is rs n m = get-retain_keys rs (λ x. not (is_superseded rs n x)) m (λ x tie. ap (λ y. not (is_superseded rs n y)) (sym (nat_cmp-IsAntisymmetric m x tie)))

-- a record that is left was there
pub left_found : (rs : Records) (n m : ℕ) (v : Version) → get (compacted rs n) m ≡ Some v → get rs m ≡ Some v
left_found rs n m v found = by (not (is_superseded rs n m)) (sym (left_is rs n m) ∙ found)
  where
    by : (b : Bool) → cond b (get rs m) None ≡ Some v → get rs m ≡ Some v
    by true is = is
    by false is = absurd (none-some v is)

none_any : {X : Type 0} (p : X → Bool) (es : List X) → ((x : X) → p x ≡ false) → list_any p es ≡ false
none_any p [] none = refl
none_any p (x ∷ es) none = rw (none x) (none_any p es none)

not_superseded : (rs : Records) (n m : ℕ) → n < m → is_superseded rs n m ≡ false
not_superseded rs n m less = by (get rs m)
  where
    never : (k : Key) (r : Record) → (nat_lt m r.0 && nat_le r.0 n && eq_by_cmp key_cmp k r.1.key) ≡ false
    never k r = elim (eq_by_cmp key_cmp k r.1.key) as (λ b. (nat_lt m r.0 && nat_le r.0 n && b) ≡ false) [ true ↦ grind (arith, nat_tests) | false ↦ grind (arith, nat_tests) ]

    by : (o : Option Version) → option_map_or (λ v. list_any (λ r. nat_lt m r.0 && nat_le r.0 n && eq_by_cmp key_cmp v.key r.1.key) (entries rs)) o false ≡ false
    by None = refl
    by (Some v) = none_any (λ (r : Record). nat_lt m r.0 && nat_le r.0 n && eq_by_cmp key_cmp v.key r.1.key) (entries rs) (never v.key)

-- a record above the number is left
pub left_above : (rs : Records) (n m : ℕ) → n < m → contains_key rs m ≡ true → contains_key (compacted rs n) m ≡ true
left_above rs n m less there = ap is_some (left_is rs n m ∙ ap (λ b. cond (not b) (get rs m) None) (not_superseded rs n m less)) ∙ there

none_to : {X : Type 0} (m : ℕ) (rows : List (Row X)) → AllByRecursion (λ r. m < r.0) rows → row_to m rows ≡ None
none_to m [] above = refl
none_to m (r ∷ rs) above = let less = above.0 in let no : nat_le r.0 m ≡ false = grind (arith, nat_tests) in rw (none_to m rs above.1) (rw no refl)

all_past : {X : Type 0} (m n : ℕ) (rows : List (Row X)) → m < n → AllByRecursion (λ r. n < r.0) rows → AllByRecursion (λ r. m < r.0) rows
all_past m n [] less h = tt
all_past m n (r ∷ rs) less h = (let more = h.0 in omega arith, all_past m n rs less h.1)

not_found : {X : Type 0} (m n : ℕ) (rows : List (Row X)) → n ≤ m → AllByRecursion (λ r. m < r.0) rows → find nat_cmp n rows ≡ None
not_found m n [] le above = refl
not_found m n (r ∷ rs) le above = by (not_found m n rs le above.1) (eq_by_cmp nat_cmp n r.0) refl
  where
    by : find nat_cmp n rs ≡ None → (b : Bool) → eq_by_cmp nat_cmp n r.0 ≡ b → cond b (Some r.1) (find nat_cmp n rs) ≡ None
    by rest true tie = let less = above.0 in let same = equal_numbers n r.0 tie in absurd (omega arith)
    by rest false tie = rest

-- a row that is left up to the number is the last up to it
kept_is_last : {X : Type 0} (m : ℕ) (rows : List (Row X)) → is_sorted nat_cmp rows ≡ true → (n : ℕ) (s : Option X) → find nat_cmp n (kept m rows) ≡ Some s → n ≤ m → option_map (λ r. r.0) (row_to m (kept m rows)) ≡ Some n
kept_is_last m [] sorted n s found le = absurd (none-some s found)
kept_is_last {X} m (r ∷ rs) sorted n s found le = by (λ more. kept_is_last m rs rest n s more le) (begins_to m rs) refl found
  where
    rest : is_sorted nat_cmp rs ≡ true
    rest = (and_parts (below_all nat_cmp r.0 rs) (is_sorted nat_cmp rs) sorted).1

    later : (rows : List (Row X)) → is_sorted nat_cmp rows ≡ true → begins_to m rows ≡ false → AllByRecursion (λ r. m < r.0) rows
    later [] sorted out = tt
    later (q ∷ qs) sorted out = let less : m < q.0 = grind (arith, nat_tests) in (less, all_past m q.0 qs less (less_all q qs sorted))

    here : AllByRecursion (λ (q : Row X). m < q.0) rs → (b : Bool) → eq_by_cmp nat_cmp n r.0 ≡ b → cond b (Some r.1) (find nat_cmp n rs) ≡ Some s → option_map (λ q. q.0) (option_or (row_to m rs) (cond (nat_le r.0 m) (Some r) None)) ≡ Some n
    here above true tie is =
        let same = equal_numbers n r.0 tie in
        let yes : nat_le r.0 m ≡ true = grind (arith, nat_tests) in
        rw (none_to m rs above) (rw yes (ap Some (sym same)))
    here above false tie is = absurd (none-some s (sym (not_found m n rs le above) ∙ is))

    by : (find nat_cmp n (kept m rs) ≡ Some s → option_map (λ q. q.0) (row_to m (kept m rs)) ≡ Some n) → (b : Bool) → begins_to m rs ≡ b → find nat_cmp n (cond b (kept m rs) (r ∷ rs)) ≡ Some s → option_map (λ q. q.0) (row_to m (cond b (kept m rs) (r ∷ rs))) ≡ Some n
    by more true is found = more found
    by more false is found = here (later rs rest is) (eq_by_cmp nat_cmp n r.0) refl found

number_of : (o : Option Record) → option_map (λ (r : Record). r.0) o ≡ option_map (λ (r : Row Object). r.0) (option_map row_at o)
number_of None = refl
number_of (Some r) = refl

-- a record that is left up to the number is its key's newest there
pub newest_left : (rs : Records) (m n : ℕ) (v : Version) → get (compacted rs m) n ≡ Some v → n ≤ m → option_map (λ (r : Record). r.0) (last_of v.key (up_to (compacted rs m) m)) ≡ Some n
newest_left rs m n v found le =
    let cs = compacted rs m in
    let row : find nat_cmp n (rows_of v.key (entries cs)) ≡ Some v.state = row_found n v (entries cs) (in_order cs) (sym (get-entries cs n) ∙ found) in
    let left = rows_left rs m v.key in
    let rows : is_sorted nat_cmp (rows_of v.key (entries rs)) ≡ true = is_sorted-map (λ (w : Version). w.state) (filter (λ r. eq_by_cmp key_cmp v.key r.1.key) (entries rs)) ∙ is_sorted-filter (λ r. eq_by_cmp key_cmp v.key r.1.key) (entries rs) (in_order rs) in
    number_of (last_of v.key (up_to cs m)) ∙ ap (option_map (λ r. r.0)) (last_to v.key m (entries cs) ∙ ap (row_to m) left)
    ∙ kept_is_last m (rows_of v.key (entries rs)) rows n v.state (ap (find nat_cmp n) (sym left) ∙ row) le

-- ---- the last record of a key

-- the last record of a key is found at its number
pub last_found : (k : Key) (es : List Record) → is_sorted nat_cmp es ≡ true → (r : Record) → last_of k es ≡ Some r → find nat_cmp r.0 es ≡ Some r.1
last_found k [] sorted r is = absurd (none-some r is)
last_found k (e ∷ es) sorted r is = by (λ at. last_found k es parts.1 r at) (last_of k es) refl (eq_by_cmp key_cmp k e.1.key) is
  where
    parts : (below_all nat_cmp e.0 es ≡ true) × (is_sorted nat_cmp es ≡ true)
    parts = and_parts (below_all nat_cmp e.0 es) (is_sorted nat_cmp es) sorted

    past : (b : Bool) → eq_by_cmp nat_cmp r.0 e.0 ≡ b → find nat_cmp r.0 es ≡ Some r.1 → cond b (Some e.1) (find nat_cmp r.0 es) ≡ Some r.1
    past true tie found = absurd (none-some r.1 (sym (none_below e.0 es parts.0) ∙ ap (λ m. find nat_cmp m es) (sym (equal_numbers r.0 e.0 tie)) ∙ found))
    past false tie found = found

    by : (last_of k es ≡ Some r → find nat_cmp r.0 es ≡ Some r.1) → (o : Option Record) → last_of k es ≡ o → (b : Bool) → option_or o (cond b (Some e) None) ≡ Some r → find nat_cmp r.0 (e ∷ es) ≡ Some r.1
    by rest (Some q) at b h = past (eq_by_cmp nat_cmp r.0 e.0) refl (rest (at ∙ h))
    by rest None at true h = subst (λ (q : Record). find nat_cmp q.0 (e ∷ es) ≡ Some q.1) (same_Some e r h) (found_here [] e es sorted)
    by rest None at false h = absurd (none-some r h)

-- it is of the key
pub last_key : (k : Key) (es : List Record) (r : Record) → last_of k es ≡ Some r → eq_by_cmp key_cmp k r.1.key ≡ true
last_key k [] r is = absurd (none-some r is)
last_key k (e ∷ es) r is = by (last_key k es r) (last_of k es) refl (eq_by_cmp key_cmp k e.1.key) refl is
  where
    by : (last_of k es ≡ Some r → eq_by_cmp key_cmp k r.1.key ≡ true) → (o : Option Record) → last_of k es ≡ o → (b : Bool) → eq_by_cmp key_cmp k e.1.key ≡ b → option_or o (cond b (Some e) None) ≡ Some r → eq_by_cmp key_cmp k r.1.key ≡ true
    by rest (Some q) at b tie h = rest (at ∙ h)
    by rest None at true tie h = ap (λ (q : Record). eq_by_cmp key_cmp k q.1.key) (sym (same_Some e r h)) ∙ tie
    by rest None at false tie h = absurd (none-some r h)
