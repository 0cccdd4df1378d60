-- The entries of a map of objects are what it has at their keys.
use Rattle.std.proofs.Common.{◌≡◌, Bool, true, false, cond, List, [], ◌∷◌, Option, Some, None, refl, sym, ap, ◌∙◌}
use Rattle.std.specs.List.{AllByRecursion}
use Rattle.std.specs.Ordering.{eq_by_cmp, is_eq}
use Rattle.std.specs.Cmp.{tied_itself}
use Rattle.std.specs.FinMap.{FinMap, entries, entries_sorted, find, get, get-entries, get-retain_keys, is_sorted, retain_keys}
use Rattle.std.specs.FinMap.Entries.{below_all}
use Rattle.std.proofs.lemmas.Bool.{and_parts}
use Rattle.std.proofs.lemmas.Option.{none-some}
use Rattle.objects.specs.declared.key.Key.{Key}
use Rattle.objects.specs.declared.object.Object.{Object}
use Rattle.objects.specs.Key.{key_cmp}
use Rattle.objects.specs.KeyOrder.{exact_keys, key_cmp_total}
use Rattle.version_map.proofs.Chains.{below_none, is_held}
use Rattle.plain_store.proofs.Verdicts.{tied}

found_first : (e : Key × Object) (es : List (Key × Object)) → find key_cmp e.0 (e ∷ es) ≡ Some e.1
found_first e es = ap (λ r. cond (is_eq r) (Some e.1) (find key_cmp e.0 es)) (tied_itself key_cmp_total e.0)

-- what is found among the later entries is found among all: no later key is the first one
found_later : (e : Key × Object) (es : List (Key × Object)) (k : Key) (o : Object) → below_all key_cmp e.0 es ≡ true → find key_cmp k es ≡ Some o
    → find key_cmp k (e ∷ es) ≡ Some o
found_later e es k o below found = by_tie (eq_by_cmp key_cmp k e.0) refl
  where
    by_tie : (b : Bool) → eq_by_cmp key_cmp k e.0 ≡ b → find key_cmp k (e ∷ es) ≡ Some o
    by_tie true tie = absurd (none-some o (sym (below_none e.0 es below) ∙ ap (λ x. find key_cmp x es) (sym (tied k e.0 tie)) ∙ found))
    by_tie false tie = ap (λ b. cond b (Some e.1) (find key_cmp k es)) tie ∙ found

-- a map has an entry's object under its key
abbrev pub IsIn : FinMap key_cmp Object → Key × Object → Type 0
IsIn m e = get m e.0 ≡ Some e.1

-- entries in order are in each map that has what is found among them
pub all_in : (m : FinMap key_cmp Object) (es : List (Key × Object)) → is_sorted key_cmp es ≡ true → ((k : Key) (o : Object) → find key_cmp k es ≡ Some o → get m k ≡ Some o)
    → AllByRecursion (IsIn m) es
all_in m [] sorted has = tt
all_in m (e ∷ es) sorted has =
    let parts = and_parts (below_all key_cmp e.0 es) (is_sorted key_cmp es) sorted in
    (has e.0 e.1 (found_first e es), all_in m es parts.1 (λ k o found. has k o (found_later e es k o parts.0 found)))

some_of : (b : Bool) (x : Option Object) (o : Object) → cond b x None ≡ Some o → x ≡ Some o
some_of true x o h = h
some_of false x o h = absurd (none-some o h)

-- the entries that are kept by a test of their keys are in the map that they were taken from
pub kept_in : (m : FinMap key_cmp Object) (p : Key → Bool) → AllByRecursion (IsIn m) (entries (retain_keys m p))
kept_in m p =
    let kept = retain_keys m p in
    all_in m (entries kept) (is_held (is_sorted key_cmp (entries kept)) (entries_sorted kept)) (λ k o found.
    some_of (p k) (get m k) o (sym (get-retain_keys m p k (λ x tie. ap p (sym (exact_keys k x tie)))) ∙ get-entries kept k ∙ found))
