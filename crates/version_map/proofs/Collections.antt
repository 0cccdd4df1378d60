-- The names of a kind in a namespace, which are in the order of their keys.
use Rattle.std.proofs.Common.{◌≡◌, ℕ, ◌==◌, ◌<◌, length, get_or, bytes_eq, Bool, true, false, cond, T, List, [], ◌∷◌, map, Option, Some, None, refl, sym, ap, ◌∙◌, subst}
use Rattle.std.specs.List.{AllByRecursion}
use Rattle.std.specs.List.Sorted.{IsStrictlySortedBy}
use Rattle.std.specs.Map.{keys_of}
use Rattle.std.specs.Ordering.{nat_cmp}
use Rattle.std.specs.declared.cmp.Ordering.TheVariants.{Equal, Less}
use Rattle.std.specs.declared.cmp.Ordering.{Ordering}
use Rattle.std.specs.Option.{option_or}
use Rattle.std.specs.Cmp.{nat_cmp_total}
use Rattle.std.specs.Cmp.Lexicographic.{slice_cmp, nat_list_cmp_total}
use Rattle.std.specs.FinMap.{from_sorted, entries-from_sorted, find, get, get-from_sorted, get-retain_keys, is_sorted, retain_keys, same_map, values}
use Rattle.std.specs.FinMap.Entries.{below_all}
use Rattle.std.proofs.lemmas.Bool.{and_parts, eqb-true}
use Rattle.std.proofs.lemmas.Cmp.{tied_itself}
use Rattle.std.proofs.lemmas.Slice.Eq.{bytes_eq-Decides}
use Rattle.objects.specs.declared.key.Key.{Key}
use Rattle.objects.specs.declared.kind.Kind.{Kind}
use Rattle.objects.specs.Key.{key_cmp, key_parts, kind_index}
use Rattle.objects.specs.KeyOrder.{exact_keys, key_cmp_total}
use Rattle.version_map.specs.Keyed.{collection}
use Rattle.version_map.specs.Keys.{is_of}
use Rattle.version_map.specs.Named.{at_name, at_text, AreNames, AreValues, Names, Namespaces, KeySlots, both, named, slot_among, slotted}
use Rattle.version_map.proofs.Named.{Text, by_bytes, find_named, find_other, get_both, slot_read}

abbrev pub values_of : {X : Type 0} → List (Key × X) → List X
values_of {X} es = map (λ (e : Key × X). e.1) es

of_parts : (kind : Kind) (namespace : List ℕ) (k : Key) → is_of kind namespace k ≡ true → (kind_index k.kind ≡ kind_index kind) × (k.namespace ≡ namespace)
of_parts kind namespace k h =
    let both = and_parts (kind_index k.kind == kind_index kind) (bytes_eq k.namespace namespace) h in
    (eqb-true (kind_index k.kind) (kind_index kind) both.0, (bytes_eq-Decides k.namespace namespace).0 both.1)

names_apart : (kind : Kind) (namespace a b : List ℕ) → slice_cmp nat_cmp a b ≡ Less → key_cmp (key_parts kind namespace a) (key_parts kind namespace b) ≡ Less
names_apart kind namespace a b less =
    rw (tied_itself nat_cmp_total (kind_index kind), tied_itself nat_list_cmp_total namespace) less

module _ {K : Type 0} (bytes : K → List ℕ) where
  abbrev pub by_bytes_cmp : K → K → Ordering
  by_bytes_cmp x y = slice_cmp nat_cmp (bytes x) (bytes y)

  below_named : (kind : Kind) (namespace : List ℕ) (s : K) (es : List (K × ℕ)) → AllByRecursion (λ q. by_bytes_cmp s q ≡ Less) (keys_of es)
      → below_all key_cmp (key_parts kind namespace (bytes s)) (named bytes kind namespace es) ≡ true
  below_named kind namespace s [] h = refl
  below_named kind namespace s (e ∷ es) h = rw (names_apart kind namespace (bytes s) (bytes e.0) h.0, below_named kind namespace s es h.1) refl

  sorted_named : (kind : Kind) (namespace : List ℕ) (es : List (K × ℕ)) → IsStrictlySortedBy by_bytes_cmp (keys_of es) → is_sorted key_cmp (named bytes kind namespace es) ≡ true
  unfolding IsStrictlySortedBy
  sorted_named kind namespace [] h = refl
  sorted_named kind namespace (e ∷ es) h = rw (below_named kind namespace e.0 es h.0, sorted_named kind namespace es h.1) refl

  values_named : (kind : Kind) (namespace : List ℕ) (es : List (K × ℕ)) → values_of (named bytes kind namespace es) ≡ map (λ e. e.1) es
  values_named kind namespace [] = refl
  values_named kind namespace (e ∷ es) = ap (λ ps. e.1 ∷ ps) (values_named kind namespace es)

  -- the names with their slots make the collection, if the map has at the keys of the kind in the namespace what they have
  pub collected : (m : KeySlots) (kind : Kind) (namespace : List ℕ) (es : List (K × ℕ)) → IsStrictlySortedBy by_bytes_cmp (keys_of es)
      → ((q : Key) → kind_index q.kind ≡ kind_index kind → q.namespace ≡ namespace → get m q ≡ by_bytes bytes es q.name) → collection m kind namespace ≡ map (λ e. e.1) es
  collected m kind namespace es ascending same =
      let sorted : T (is_sorted key_cmp (named bytes kind namespace es)) = subst T (sym (sorted_named kind namespace es ascending)) tt in
      ap values (same_map key_cmp_total exact_keys (retain_keys m (is_of kind namespace)) (from_sorted (named bytes kind namespace es)) (λ q.
      get-retain_keys m (is_of kind namespace) q (λ x tie. ap (is_of kind namespace) (sym (exact_keys q x tie)))
      ∙ by q (is_of kind namespace q) refl ∙ sym (get-from_sorted key_cmp (named bytes kind namespace es) q sorted)))
      ∙ ap values_of (entries-from_sorted key_cmp (named bytes kind namespace es) sorted) ∙ values_named kind namespace es
    where
      by : (q : Key) (b : Bool) → is_of kind namespace q ≡ b → cond b (get m q) None ≡ find key_cmp q (named bytes kind namespace es)
      by q true is = let parts = of_parts kind namespace q is in same q parts.0 parts.1 ∙ sym (find_named bytes kind namespace q es is)
      by q false is = sym (find_other bytes kind namespace q es is)

-- maps that agree at the keys of a kind in a namespace have one collection there
pub same_collection : (m n : KeySlots) (kind : Kind) (namespace : List ℕ) → ((q : Key) → kind_index q.kind ≡ kind_index kind → q.namespace ≡ namespace → get m q ≡ get n q)
    → collection m kind namespace ≡ collection n kind namespace
same_collection m n kind namespace same = ap values (same_map key_cmp_total exact_keys (retain_keys m p) (retain_keys n p) (λ q.
    get-retain_keys m p q (alike q) ∙ by q (p q) refl ∙ sym (get-retain_keys n p q (alike q))))
  where
    p : Key → Bool
    p = is_of kind namespace

    alike : (q x : Key) → key_cmp q x ≡ Equal → p x ≡ p q
    alike q x tie = ap p (sym (exact_keys q x tie))

    by : (q : Key) (b : Bool) → p q ≡ b → cond b (get m q) None ≡ cond b (get n q) None
    by q true is = let parts = of_parts kind namespace q is in same q parts.0 parts.1
    by q false is = refl

-- ---- names, as they are read

module _ (m : KeySlots) (kind : Kind) (namespace : List ℕ) where
  pub collection_of : (names : Names) (values : List ℕ) → AreNames m kind namespace (Some names) → AreValues values (at_name names) → collection m kind namespace ≡ values
  collection_of names values are all = collected (λ w. w) m kind namespace all.0 all.1 (λ q kinds same. are q kinds same ∙ sym (all.3 q.name)) ∙ all.2

  pub none_collected : AreNames m kind namespace None → collection m kind namespace ≡ []
  unfolding IsStrictlySortedBy
  none_collected are = collected {K = Text} (λ w. w) m kind namespace [] tt are

  -- and of other slots with them
  module _ (n : KeySlots) where
    pub first_alone : AreNames n kind namespace None → collection m kind namespace ≡ collection (both m n) kind namespace
    first_alone none = same_collection m (both m n) kind namespace (λ q kinds same. sym (get_both m n q ∙ ap (option_or (get m q)) (none q kinds same) ∙ or_none (get m q)))
      where
        or_none : (o : Option ℕ) → option_or o None ≡ o
        or_none None = refl
        or_none (Some p) = refl

    pub second_alone : (names : Names) (values : List ℕ) → AreNames m kind namespace None → AreNames n kind namespace (Some names) → AreValues values (at_name names)
        → collection (both m n) kind namespace ≡ values
    second_alone names values none are all = collected (λ w. w) (both m n) kind namespace all.0 all.1 (λ q kinds same.
        get_both m n q ∙ ap (λ o. option_or o (get n q)) (none q kinds same) ∙ are q kinds same ∙ sym (all.3 q.name)) ∙ all.2

    pub both_collected : (names more : Names) (values : List ℕ) → AreNames m kind namespace (Some names) → AreNames n kind namespace (Some more)
        → AreValues values (λ word. option_or (at_name names word) (at_name more word)) → collection (both m n) kind namespace ≡ values
    both_collected names more values first second all =
        collected (λ w. w) (both m n) kind namespace all.0 all.1 (λ q kinds same.
        get_both m n q ∙ ap (λ o. option_or o (get n q)) (first q kinds same) ∙ ap (option_or (at_name names q.name)) (second q kinds same) ∙ sym (all.3 q.name))
        ∙ all.2

-- the names of a kind in a namespace, as they are found
module _ (ms : List Namespaces) (m : KeySlots) (i : ℕ) (d : Namespaces) (view : slotted ms ≡ m) (many : length ms ≡ 4) (within : i < 4)
    (kind : Kind) (namespace text : List ℕ) (index : i ≡ kind_index kind) (spaces : text ≡ namespace) where
  pub names_read : (names : Option Names) → names ≡ at_text (get_or ms i d) text → AreNames m kind namespace names
  names_read names found q kinds same =
      slot_read ms m i d view many within q (index ∙ sym kinds)
      ∙ ap (λ o. slot_among o q.name) (ap (at_text (get_or ms i d)) (same ∙ sym spaces) ∙ sym found)
