-- What compaction leaves of the records of a key is what it leaves of the rows.
use Rattle.std.proofs.Common.{◌≡◌, ℕ, ◌<◌, ◌≤◌, Bool, true, false, not, ◌&&◌, ◌||◌, cond, List, [], ◌∷◌, ◌++◌, Option, Some, None, refl, sym, ap, ◌∙◌, subst, arith, nat_lt, nat_le, append_assoc}
use Rattle.std.specs.List.{AllByRecursion, list_any}
use Rattle.std.specs.Option.{option_map_or}
use Rattle.std.specs.Ordering.{nat_cmp, eq_by_cmp}
use Rattle.std.specs.declared.cmp.Ordering.TheVariants.{Equal}
use Rattle.std.specs.FinMap.{entries, entries-from_sorted, entries_sorted, find, from_sorted, get, get-entries, get-from_sorted, get-retain_keys, is_sorted, nat_cmp-IsAntisymmetric, retain_keys, same_map}
use Rattle.std.specs.Cmp.{nat_cmp_total}
use Rattle.std.specs.FinMap.Entries.{below_all, find-where_key, is_sorted-where_key, where_key}
use Rattle.std.proofs.lemmas.Bool.{and_parts}
use Rattle.std.proofs.lemmas.Bool.Decides.{nat_tests}
use Rattle.objects.specs.declared.key.Key.{Key}
use Rattle.objects.specs.Key.{key_cmp}
use Rattle.requests.specs.declared.version.Version.{Version}
use Rattle.version_map.specs.Rows.{begins_to, kept}
use Rattle.version_map.proofs.Chains.{same_key}
use Rattle.versions.specs.Compacted.{compacted, is_superseded}
use Rattle.versions.specs.Held.{rows_of}
use Rattle.versions.specs.Records.{Record, Records}
use Rattle.versions.proofs.Found.{found_here, is_held, less_all}
use Rattle.versions.proofs.OfKeys.{row_at, rows_cons}

-- some later one of the key is up to n
abbrev later : ℕ → Key → List Record → Bool
later n k es = list_any (λ r. nat_le r.0 n && eq_by_cmp key_cmp k r.1.key) es

-- those that have no later one of their key up to n
abbrev keep : ℕ → List Record → List Record
keep n [] = []
keep n (e ∷ es) = cond (later n e.1.key es) (keep n es) (e ∷ keep n es)

-- ---- by the rows of a key

none_later : (n : ℕ) (k : Key) (e : Record) (fs : List Record) → nat_le e.0 n ≡ false → AllByRecursion (λ (r : Record). e.0 < r.0) fs → later n k fs ≡ false
none_later n k e [] past above = refl
none_later n k e (f ∷ fs) past above =
    let up = above.0 in
    let one : nat_le f.0 n ≡ false = grind (arith, nat_tests) in
    rw one (none_later n k e fs past above.1)

-- in the order of numbers the first row is the least
pub later_rows : (n : ℕ) (k : Key) (es : List Record) → is_sorted nat_cmp es ≡ true → begins_to n (rows_of k es) ≡ later n k es
later_rows n k [] sorted = refl
later_rows n k (e ∷ es) sorted = ap (begins_to n) (rows_cons k e es) ∙ by (later_rows n k es (and_parts (below_all nat_cmp e.0 es) (is_sorted nat_cmp es) sorted).1) (nat_le e.0 n) refl (eq_by_cmp key_cmp k e.1.key)
  where
    by : begins_to n (rows_of k es) ≡ later n k es → (a : Bool) → nat_le e.0 n ≡ a → (b : Bool) → begins_to n (cond b (row_at e ∷ rows_of k es) (rows_of k es)) ≡ ((nat_le e.0 n && b) || later n k es)
    by rest true le true = rw le refl
    by rest true le false = rw le rest
    by rest false le true = rw le (sym (none_later n k e es le (less_all e es sorted)))
    by rest false le false = rw le rest

-- none of them is dropped if the first is past n
none_kept : (n : ℕ) (k : Key) (es : List Record) → is_sorted nat_cmp es ≡ true → later n k es ≡ false → kept n (rows_of k es) ≡ rows_of k es
none_kept n k [] sorted none = refl
none_kept n k (e ∷ es) sorted none = ap (kept n) (rows_cons k e es) ∙ by (λ more. none_kept n k es rest more) (eq_by_cmp key_cmp k e.1.key) (nat_le e.0 n && eq_by_cmp key_cmp k e.1.key) none ∙ sym (rows_cons k e es)
  where
    rest : is_sorted nat_cmp es ≡ true
    rest = (and_parts (below_all nat_cmp e.0 es) (is_sorted nat_cmp es) sorted).1

    other : (a : Bool) → (a || later n k es) ≡ false → later n k es ≡ false
    other true h = cc
    other false h = h

    by : (later n k es ≡ false → kept n (rows_of k es) ≡ rows_of k es) → (b a : Bool) → (a || later n k es) ≡ false → kept n (cond b (row_at e ∷ rows_of k es) (rows_of k es)) ≡ cond b (row_at e ∷ rows_of k es) (rows_of k es)
    by none_more true a h = let begins = later_rows n k es rest ∙ other a h in rw begins refl
    by none_more false a h = none_more (other a h)

pub rows_kept : (n : ℕ) (k : Key) (es : List Record) → is_sorted nat_cmp es ≡ true → rows_of k (keep n es) ≡ kept n (rows_of k es)
rows_kept n k [] sorted = refl
rows_kept n k (e ∷ es) sorted = by (later n e.1.key es) refl (eq_by_cmp key_cmp k e.1.key) refl (rows_kept n k es rest) ∙ ap (kept n) (sym (rows_cons k e es))
  where
    rest : is_sorted nat_cmp es ≡ true
    rest = (and_parts (below_all nat_cmp e.0 es) (is_sorted nat_cmp es) sorted).1

    by : (a : Bool) → later n e.1.key es ≡ a → (b : Bool) → eq_by_cmp key_cmp k e.1.key ≡ b → rows_of k (keep n es) ≡ kept n (rows_of k es)
        → rows_of k (cond (later n e.1.key es) (keep n es) (e ∷ keep n es)) ≡ kept n (cond (eq_by_cmp key_cmp k e.1.key) (row_at e ∷ rows_of k es) (rows_of k es))
    by true is true tie more =
        let begins : begins_to n (rows_of k es) ≡ true = later_rows n k es rest ∙ ap (λ q. later n q es) (same_key k e.1.key tie) ∙ is in
        rw (is, tie) (rw begins more)
    by true is false tie more = rw (is, tie) more
    by false is true tie more =
        let none : later n k es ≡ false = ap (λ q. later n q es) (same_key k e.1.key tie) ∙ is in
        let begins : begins_to n (rows_of k es) ≡ false = later_rows n k es rest ∙ none in
        rw is (rows_cons k e (keep n es) ∙ rw tie (rw begins (ap (λ rs. row_at e ∷ rs) (more ∙ none_kept n k es rest none))))
    by false is false tie more = rw is (rows_cons k e (keep n es) ∙ rw tie more)

-- ---- by the definition

entries_kept : (m : Records) (p : ℕ → Bool) → entries (retain_keys m p) ≡ where_key nat_cmp p (entries m)
entries_kept m p =
    let es = entries m in
    let sorted = is_sorted-where_key nat_cmp p es (entries_sorted m) in
    let alike : (q x : ℕ) → nat_cmp q x ≡ Equal → p x ≡ p q = λ q x tie. ap p (sym (nat_cmp-IsAntisymmetric q x tie)) in
    ap entries (same_map nat_cmp_total nat_cmp-IsAntisymmetric (retain_keys m p) (from_sorted (where_key nat_cmp p es)) (λ q.
    get-retain_keys m p q (alike q) ∙ ap (λ o. cond (p q) o None) (get-entries m q)
    ∙ sym (get-from_sorted nat_cmp (where_key nat_cmp p es) q sorted ∙ find-where_key nat_cmp p q (alike q) es)))
    ∙ entries-from_sorted nat_cmp (where_key nat_cmp p es) sorted

abbrev supersedes : ℕ → ℕ → Key → Record → Bool
supersedes n m k r = nat_lt m r.0 && nat_le r.0 n && eq_by_cmp key_cmp k r.1.key

past_none : (n m : ℕ) (k : Key) (fs es : List Record) → AllByRecursion (λ (r : Record). r.0 ≤ m) fs → list_any (supersedes n m k) (fs ++ es) ≡ list_any (supersedes n m k) es
past_none n m k [] es upto = refl
past_none n m k (f ∷ fs) es upto = let le = upto.0 in let no : nat_lt m f.0 ≡ false = grind (arith, nat_tests) in rw no (past_none n m k fs es upto.1)

all_later : (n m : ℕ) (k : Key) (es : List Record) → AllByRecursion (λ (r : Record). m < r.0) es → list_any (supersedes n m k) es ≡ later n k es
all_later n m k [] above = refl
all_later n m k (e ∷ es) above = let less = above.0 in let yes : nat_lt m e.0 ≡ true = grind (arith, nat_tests) in rw yes (ap (λ b. (nat_le e.0 n && eq_by_cmp key_cmp k e.1.key) || b) (all_later n m k es above.1))

upto_all : (m n : ℕ) (fs : List Record) → m ≤ n → AllByRecursion (λ (r : Record). r.0 ≤ m) fs → AllByRecursion (λ (r : Record). r.0 ≤ n) fs
upto_all m n [] le h = tt
upto_all m n (f ∷ fs) le h = (let here = h.0 in omega arith, upto_all m n fs le h.1)

upto_more : (fs : List Record) (e : Record) → AllByRecursion (λ (r : Record). r.0 ≤ e.0) fs → AllByRecursion (λ (r : Record). r.0 ≤ e.0) (fs ++ e ∷ [])
upto_more [] e h = (omega arith, tt)
upto_more (f ∷ fs) e h = (h.0, upto_more fs e h.1)

-- the records that are left, in a part of all of them
left_of : (rs : Records) (n : ℕ) (fs es : List Record) → entries rs ≡ fs ++ es → is_sorted nat_cmp es ≡ true → ((e : Record) (gs : List Record) → es ≡ e ∷ gs → AllByRecursion (λ (r : Record). r.0 ≤ e.0) fs)
    → where_key nat_cmp (λ m. not (is_superseded rs n m)) es ≡ keep n es
left_of rs n fs [] all sorted upto = refl
left_of rs n fs (e ∷ es) all sorted upto =
    rw superseded_is (ap (λ gs. cond (not (later n e.1.key es)) (e ∷ gs) gs) (left_of rs n (fs ++ e ∷ []) es (all ∙ sym (append_assoc fs (e ∷ []) es)) rest behind) ∙ by (later n e.1.key es))
  where
    rest : is_sorted nat_cmp es ≡ true
    rest = (and_parts (below_all nat_cmp e.0 es) (is_sorted nat_cmp es) sorted).1

    here : AllByRecursion (λ (r : Record). r.0 ≤ e.0) fs
    here = upto e es refl

    behind : (f : Record) (gs : List Record) → es ≡ f ∷ gs → AllByRecursion (λ (r : Record). r.0 ≤ f.0) (fs ++ e ∷ [])
    behind f gs is =
        let less = (subst (AllByRecursion (λ (r : Record). e.0 < r.0)) is (less_all e es sorted)).0 in
        upto_all e.0 f.0 (fs ++ e ∷ []) (omega arith) (upto_more fs e here)

    there : get rs e.0 ≡ Some e.1
    there = get-entries rs e.0 ∙ ap (find nat_cmp e.0) all ∙ found_here fs e es (subst (λ gs. is_sorted nat_cmp gs ≡ true) all (is_held (is_sorted nat_cmp (entries rs)) (entries_sorted rs)))

    superseded_is : is_superseded rs n e.0 ≡ later n e.1.key es
    superseded_is =
        ap (λ (o : Option Version). option_map_or (λ v. list_any (supersedes n e.0 v.key) (entries rs)) o false) there
        ∙ ap (list_any (supersedes n e.0 e.1.key)) all ∙ past_none n e.0 e.1.key fs (e ∷ es) here
        ∙ (let self : nat_lt e.0 e.0 ≡ false = grind (arith, nat_tests) in rw self (all_later n e.0 e.1.key es (less_all e es sorted)))

    by : (b : Bool) → cond (not b) (e ∷ keep n es) (keep n es) ≡ cond b (keep n es) (e ∷ keep n es)
    by true = refl
    by false = refl

-- what compaction leaves of a key's rows
pub rows_left : (rs : Records) (n : ℕ) (k : Key) → rows_of k (entries (compacted rs n)) ≡ kept n (rows_of k (entries rs))
rows_left rs n k =
    let sorted = is_held (is_sorted nat_cmp (entries rs)) (entries_sorted rs) in
    ap (rows_of k) (entries_kept rs (λ m. not (is_superseded rs n m)) ∙ left_of rs n [] (entries rs) refl sorted (λ e gs is. tt)) ∙ rows_kept n k (entries rs) sorted
