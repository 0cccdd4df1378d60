-- What the rows of a key say, among records in the order of their numbers.
use Rattle.std.proofs.Common.{◌≡◌, ℕ, Bool, true, false, cond, List, [], ◌∷◌, ◌++◌, filter, Option, Some, None, option_map, option_and_then, refl, sym, ap, ◌∙◌}
use Rattle.std.specs.Prelude.{nat_le}
use Rattle.std.specs.Option.{option_or}
use Rattle.std.specs.Ordering.{nat_cmp, eq_by_cmp}
use Rattle.std.specs.FinMap.{find, is_sorted}
use Rattle.std.proofs.lemmas.Map.Entries.{option_filter}
use Rattle.std.proofs.lemmas.Option.{none-some, same_Some}
use Rattle.objects.specs.declared.key.Key.{Key}
use Rattle.objects.specs.declared.object.Object.{Object}
use Rattle.objects.specs.Key.{key_cmp}
use Rattle.requests.specs.declared.version.Version.{Version}
use Rattle.version_map.specs.Rows.{Row, last_row, row_to}
use Rattle.version_map.proofs.Chains.{own_key, same_key}
use Rattle.versions.specs.Held.{rows_of}
use Rattle.versions.specs.Records.{Record, last_of, version_at}
use Rattle.versions.proofs.Found.{find-filter, find-map}

abbrev pub row_at : Record → Row Object
row_at r = (r.0, r.1.state)

-- one more record, and the rows of the key before it
pub rows_cons : (k : Key) (e : Record) (es : List Record) → rows_of k (e ∷ es) ≡ cond (eq_by_cmp key_cmp k e.1.key) (row_at e ∷ rows_of k es) (rows_of k es)
rows_cons k e es = by (eq_by_cmp key_cmp k e.1.key) refl
  where
    by : (b : Bool) → eq_by_cmp key_cmp k e.1.key ≡ b → rows_of k (e ∷ es) ≡ cond b (row_at e ∷ rows_of k es) (rows_of k es)
    by true is = rw is refl
    by false is = rw is refl

-- a record at the end
pub rows_more : (k : Key) (es : List Record) (e : Record) → rows_of k (es ++ e ∷ []) ≡ rows_of k es ++ cond (eq_by_cmp key_cmp k e.1.key) (row_at e ∷ []) []
rows_more k [] e = rows_cons k e []
rows_more k (x ∷ es) e =
    rows_cons k x (es ++ e ∷ []) ∙ ap (λ rs. cond (eq_by_cmp key_cmp k x.1.key) (row_at x ∷ rs) rs) (rows_more k es e)
    ∙ by (eq_by_cmp key_cmp k x.1.key) ∙ ap (λ rs. rs ++ cond (eq_by_cmp key_cmp k e.1.key) (row_at e ∷ []) []) (sym (rows_cons k x es))
  where
    by : (b : Bool) → cond b (row_at x ∷ rows_of k es ++ cond (eq_by_cmp key_cmp k e.1.key) (row_at e ∷ []) []) (rows_of k es ++ cond (eq_by_cmp key_cmp k e.1.key) (row_at e ∷ []) [])
        ≡ cond b (row_at x ∷ rows_of k es) (rows_of k es) ++ cond (eq_by_cmp key_cmp k e.1.key) (row_at e ∷ []) []
    by true = refl
    by false = refl

-- ---- by number

find_rows : (k : Key) (n : ℕ) (es : List Record) → is_sorted nat_cmp es ≡ true
    → find nat_cmp n (rows_of k es) ≡ option_map (λ v. v.state) (option_filter (λ v. eq_by_cmp key_cmp k v.key) (find nat_cmp n es))
find_rows k n es sorted =
    find-map (λ v. v.state) n (filter (λ r. eq_by_cmp key_cmp k r.1.key) es) ∙ ap (option_map (λ v. v.state)) (find-filter (λ v. eq_by_cmp key_cmp k v.key) n es sorted)

-- a row of a key is a record
pub record_found : (k : Key) (n : ℕ) (s : Option Object) (es : List Record) → is_sorted nat_cmp es ≡ true → find nat_cmp n (rows_of k es) ≡ Some s → find nat_cmp n es ≡ Some (version_at k s)
record_found k n s es sorted found = by (find nat_cmp n es) refl
  where
    of_key : (v : Version) (b : Bool) → eq_by_cmp key_cmp k v.key ≡ b → option_map (λ (w : Version). w.state) (cond b (Some v) None) ≡ Some s → v ≡ version_at k s
    of_key v true tie is = ap (λ (q : Key). version_at q v.state) (sym (same_key k v.key tie)) ∙ ap (version_at k) (same_Some v.state s is)
    of_key v false tie is = absurd (none-some s is)

    by : (o : Option Version) → find nat_cmp n es ≡ o → o ≡ Some (version_at k s)
    by None is = absurd (none-some s (sym (find_rows k n es sorted ∙ ap (λ o. option_map (λ (v : Version). v.state) (option_filter (λ (v : Version). eq_by_cmp key_cmp k v.key) o)) is) ∙ found))
    by (Some v) is = ap Some (of_key v (eq_by_cmp key_cmp k v.key) refl (sym (find_rows k n es sorted ∙ ap (λ o. option_map (λ (w : Version). w.state) (option_filter (λ (w : Version). eq_by_cmp key_cmp k w.key) o)) is) ∙ found))

-- a record is a row of its key
pub row_found : (n : ℕ) (v : Version) (es : List Record) → is_sorted nat_cmp es ≡ true → find nat_cmp n es ≡ Some v → find nat_cmp n (rows_of v.key es) ≡ Some v.state
row_found n v es sorted found =
    find_rows v.key n es sorted ∙ ap (λ o. option_map (λ (w : Version). w.state) (option_filter (λ (w : Version). eq_by_cmp key_cmp v.key w.key) o)) found
    ∙ ap (λ b. option_map (λ (w : Version). w.state) (cond b (Some v) None)) (own_key v.key)

-- ---- the last of them

map_or : {X Y : Type 0} (f : X → Y) (o p : Option X) → option_map f (option_or o p) ≡ option_or (option_map f o) (option_map f p)
map_or f None p = refl
map_or f (Some x) p = refl

or_none : {X : Type 0} (o : Option X) → option_or o None ≡ o
or_none None = refl
or_none (Some x) = refl

pub last_is : (k : Key) (es : List Record) → option_map row_at (last_of k es) ≡ last_row (rows_of k es)
last_is k [] = refl
last_is k (e ∷ es) = by (last_is k es) (eq_by_cmp key_cmp k e.1.key) ∙ ap last_row (sym (rows_cons k e es))
  where
    by : option_map row_at (last_of k es) ≡ last_row (rows_of k es) → (b : Bool) → option_map row_at (option_or (last_of k es) (cond b (Some e) None)) ≡ last_row (cond b (row_at e ∷ rows_of k es) (rows_of k es))
    by rest true = map_or row_at (last_of k es) (Some e) ∙ ap (λ o. option_or o (Some (row_at e))) rest
    by rest false = ap (option_map row_at) (or_none (last_of k es)) ∙ rest

pub last_to : (k : Key) (n : ℕ) (es : List Record) → option_map row_at (last_of k (filter (λ r. nat_le r.0 n) es)) ≡ row_to n (rows_of k es)
last_to k n [] = refl
last_to k n (e ∷ es) = by (last_to k n es) (nat_le e.0 n) refl (eq_by_cmp key_cmp k e.1.key) refl
  where
    by : option_map row_at (last_of k (filter (λ r. nat_le r.0 n) es)) ≡ row_to n (rows_of k es) → (a : Bool) → nat_le e.0 n ≡ a → (b : Bool) → eq_by_cmp key_cmp k e.1.key ≡ b → option_map row_at (last_of k (filter (λ r. nat_le r.0 n) (e ∷ es))) ≡ row_to n (rows_of k (e ∷ es))
    by rest true le true tie = rw (le, tie) (rw le (map_or row_at (last_of k (filter (λ r. nat_le r.0 n) es)) (Some e) ∙ ap (λ o. option_or o (Some (row_at e))) (rest)))
    by rest true le false tie = rw (le, tie) (ap (option_map row_at) (or_none (last_of k (filter (λ r. nat_le r.0 n) es))) ∙ rest)
    by rest false le true tie = rw (le, tie) (rw le (rest ∙ sym (or_none (row_to n (rows_of k es)))))
    by rest false le false tie = rw (le, tie) (rest)

pub state_by_row : (o : Option Record) → option_and_then (λ r. r.1.state) o ≡ option_and_then (λ r. r.1) (option_map row_at o)
state_by_row None = refl
state_by_row (Some r) = refl
