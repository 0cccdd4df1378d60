-- A list has every object of its kind and namespace, each once, and nothing else.
use Rattle.std.proofs.Common.{◌≡◌, ◌<◌, ℕ, zero, suc, Bool, true, false, cond, List, [], ◌∷◌, length, map, slice_index_or, Option, Some, None, refl, sym, ap, subst, ◌∙◌, arith}
use Rattle.std.specs.List.{AllByRecursion, Contains}
use Rattle.std.specs.List.Sorted.{IsStrictlySortedBy}
use Rattle.std.specs.Ordering.{eq_by_cmp, is_lt}
use Rattle.std.specs.declared.cmp.Ordering.{Ordering}
use Rattle.std.specs.declared.cmp.Ordering.TheVariants.{Less, Equal, Greater}
use Rattle.std.specs.FinMap.{entries, entries_sorted, find, get, get-entries, get-retain_keys, is_sorted, retain_keys}
use Rattle.std.specs.FinMap.Entries.{below_all}
use Rattle.std.proofs.lemmas.Bool.{and_parts}
use Rattle.std.proofs.lemmas.List.Elements.{Contains-append_left, Contains-append_right, Contains-push}
use Rattle.std.proofs.lemmas.Option.{none-some, same_Some}
use Rattle.objects.specs.declared.key.Key.{Key}
use Rattle.objects.specs.declared.kind.Kind.{Kind}
use Rattle.objects.specs.declared.object.Object.{Object}
use Rattle.objects.specs.Key.{key_cmp}
use Rattle.objects.specs.KeyOrder.{exact_keys}
use Rattle.version_map.proofs.Chains.{is_held}
use Rattle.version_map.proofs.Collections.{values_of}
use Rattle.plain_store.specs.Filed.{AreFiled}
use Rattle.plain_store.specs.Store.{Objects, collection, is_of}
use Rattle.version_map.proofs.Rows.{all_weaker}
use Rattle.plain_store.proofs.FoundEntries.{IsIn, all_in, kept_in}

-- ---- what is in a list

later : {X : Type 0} (x y : X) (xs : List X) → Contains xs x → Contains (y ∷ xs) x
later x y xs at = Contains-append_right (y ∷ []) xs x at

first : {X : Type 0} (x : X) (xs : List X) → Contains (x ∷ xs) x
first x xs = Contains-append_left (x ∷ []) xs x (Contains-push [] x)

-- ---- every object of the kind in the namespace

found_by : (e : Key × Object) (es : List (Key × Object)) (k : Key) (o : Object) → (find key_cmp k es ≡ Some o → Contains (values_of es) o) → (b : Bool)
    → eq_by_cmp key_cmp k e.0 ≡ b → find key_cmp k (e ∷ es) ≡ Some o → Contains (values_of (e ∷ es)) o
found_by e es k o rest true tie found =
    let same : e.1 ≡ o = same_Some e.1 o (sym (ap (λ b. cond b (Some e.1) (find key_cmp k es)) tie) ∙ found) in
    subst (Contains (values_of (e ∷ es))) same (first e.1 (values_of es))
found_by e es k o rest false tie found = later o e.1 (values_of es) (rest (sym (ap (λ b. cond b (Some e.1) (find key_cmp k es)) tie) ∙ found))

found_among : (es : List (Key × Object)) (k : Key) (o : Object) → find key_cmp k es ≡ Some o → Contains (values_of es) o
found_among [] k o found = absurd (none-some o found)
found_among (e ∷ es) k o found = found_by e es k o (found_among es k o) (eq_by_cmp key_cmp k e.0) refl found

pub listed : (m : Objects) (kind : Kind) (namespace : List ℕ) (k : Key) (o : Object) → get m k ≡ Some o → is_of kind namespace k ≡ true → Contains (collection m kind namespace) o
listed m kind namespace k o there of =
    let p = is_of kind namespace in
    let kept = retain_keys m p in
    found_among (entries kept) k o
    (sym (get-entries kept k) ∙ get-retain_keys m p k (λ x tie. ap p (sym (exact_keys k x tie))) ∙ ap (λ b. cond b (get m k) None) of ∙ there)

-- ---- and nothing else

among : (P : Key × Object → Type 0) (es : List (Key × Object)) (i : ℕ) (o : Object) → AllByRecursion P es → i < length (values_of es) → slice_index_or (values_of es) i o ≡ o
    → (e : Key × Object) × P e × (e.1 ≡ o)
among P [] i o all within at = absurd (omega (arith, within))
among P (e ∷ es) zero o all within at = (e, all.0, at)
among P (e ∷ es) (suc i) o all within at = among P es i o all.1 (omega (arith, within)) at

both_of : (b : Bool) (x : Option Object) (o : Object) → cond b x None ≡ Some o → (b ≡ true) × (x ≡ Some o)
both_of true x o h = (refl, h)
both_of false x o h = absurd (none-some o h)

pub listed_there : (m : Objects) (kind : Kind) (namespace : List ℕ) (o : Object) → AreFiled m → Contains (collection m kind namespace) o
    → (get m o.key ≡ Some o) × (is_of kind namespace o.key ≡ true)
listed_there m kind namespace o filed at =
    let p = is_of kind namespace in
    let kept = retain_keys m p in
    let all = all_in kept (entries kept) (is_held (is_sorted key_cmp (entries kept)) (entries_sorted kept)) (λ k x found. get-entries kept k ∙ found) in
    let found = among (IsIn kept) (entries kept) at.0 o all at.1 at.2 in
    let e = found.0 in
    let both = both_of (p e.0) (get m e.0) e.1 (sym (get-retain_keys m p e.0 (λ x tie. ap p (sym (exact_keys e.0 x tie)))) ∙ found.1) in
    let named = filed e.0 e.1 both.1 in
    subst (λ (x : Object). (get m x.key ≡ Some x) × (is_of kind namespace x.key ≡ true)) found.2 (ap (get m) named ∙ both.1, ap p named ∙ both.0)

-- ---- each once, in the order of their keys

abbrev keys_of : List (Key × Object) → List Key
keys_of es = map (λ (e : Key × Object). e.0) es

own_keys : (es : List (Key × Object)) → AllByRecursion (λ (e : Key × Object). e.1.key ≡ e.0) es → map (λ (o : Object). o.key) (values_of es) ≡ keys_of es
own_keys [] own = refl
own_keys (e ∷ es) own = ap (λ k. k ∷ map (λ (o : Object). o.key) (values_of es)) own.0 ∙ ap (λ ks. e.0 ∷ ks) (own_keys es own.1)

is_less : (r : Ordering) → is_lt r ≡ true → r ≡ Less
is_less Less h = refl
is_less Equal h = absurd cc
is_less Greater h = absurd cc

below : (k : Key) (es : List (Key × Object)) → below_all key_cmp k es ≡ true → AllByRecursion (λ q. key_cmp k q ≡ Less) (keys_of es)
below k [] h = tt
below k (e ∷ es) h = let parts = and_parts (is_lt (key_cmp k e.0)) (below_all key_cmp k es) h in (is_less (key_cmp k e.0) parts.0, below k es parts.1)

rising : (es : List (Key × Object)) → is_sorted key_cmp es ≡ true → IsStrictlySortedBy key_cmp (keys_of es)
unfolding IsStrictlySortedBy
rising [] sorted = tt
rising (e ∷ es) sorted = let parts = and_parts (below_all key_cmp e.0 es) (is_sorted key_cmp es) sorted in (below e.0 es parts.0, rising es parts.1)

pub once : (m : Objects) (kind : Kind) (namespace : List ℕ) → AreFiled m → IsStrictlySortedBy key_cmp (map (λ (o : Object). o.key) (collection m kind namespace))
once m kind namespace filed =
    let es = entries (retain_keys m (is_of kind namespace)) in
    let own = all_weaker (IsIn m) (λ (e : Key × Object). e.1.key ≡ e.0) es (λ e there. filed e.0 e.1 there) (kept_in m (is_of kind namespace)) in
    subst (IsStrictlySortedBy key_cmp) (sym (own_keys es own)) (rising es (is_held (is_sorted key_cmp es) (entries_sorted (retain_keys m (is_of kind namespace)))))
