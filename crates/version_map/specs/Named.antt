-- The slots of keys: for each kind, for each namespace, the slot of each name.
use Rattle.std.specs.Prelude.{◌≡◌, ◌<◌, ◌≤◌, length, ℕ, Bool, ◌==◌, ◌&&◌, not, List, [], ◌∷◌, map, bytes_eq, Option, None, option_and_then, slice_get, if◌then◌else◌}
use Rattle.std.specs.BTreeMap.{BTreeMap, get_by, is_at}
use Rattle.std.specs.List.Sorted.{IsStrictlySortedBy}
use Rattle.std.specs.Map.{keys_of, lookup}
use Rattle.std.specs.Borrow.{Bor}
use Rattle.std.specs.Cmp.Lexicographic.{slice_cmp}
use Rattle.std.specs.Ordering.{nat_cmp}
use Rattle.std.specs.Option.{option_map_or}
use Rattle.std.specs.FinMap as finite
use Rattle.std.specs.FinMap.{FinMap, entries}
use Rattle.objects.specs.declared.key.Key.{Key}
use Rattle.objects.specs.declared.kind.Kind.{Kind}
use Rattle.objects.specs.declared.kind.Kind.TheVariants.{StatefulSet, Pod, PersistentVolumeClaim, ControllerRevision}
use Rattle.objects.specs.Key.{key_cmp, key_parts, kind_index}
use Rattle.version_map.specs.Keys.{is_of}

-- names with their slots
abbrev pub Names : Type 0
Names = List (List ℕ × ℕ)

abbrev pub Namespaces : Type 0
Namespaces = BTreeMap (List ℕ) Names

abbrev pub KeySlots : Type 0
KeySlots = FinMap key_cmp ℕ

-- what is at a text
abbrev pub at_text : {X : Type 0} → BTreeMap (List ℕ) X → List ℕ → Option X
at_text m word = get_by (slice_cmp nat_cmp word) m

-- the slot of a name
abbrev pub at_name : Names → List ℕ → Option ℕ
at_name names name = lookup (is_at (slice_cmp nat_cmp name)) names

-- names of at most 15 bytes are in the first, and others in the second
abbrev pub AreApart : BTreeMap (List ℕ) ℕ → BTreeMap (List ℕ) ℕ → Type 0
AreApart short long = ((word : List ℕ) → 15 < length word → at_text short word ≡ None) × ((word : List ℕ) → length word ≤ 15 → at_text long word ≡ None)

-- the slot of a name of a namespace
abbrev pub slot_in : Namespaces → List ℕ → List ℕ → Option ℕ
slot_in m namespace name = option_and_then (λ (names : Names). at_name names name) (at_text m namespace)

-- each name of each namespace has the slot that it had, but for the one that was given another, or none
abbrev pub HasNow : Namespaces → Namespaces → List ℕ → List ℕ → Option ℕ → Type 0
HasNow old new namespace name slot =
    (space word : List ℕ) → slot_in new space word ≡ (if bytes_eq namespace space && bytes_eq name word then slot else slot_in old space word)

-- the slot of a name, if there are names
abbrev pub slot_among : Option Names → List ℕ → Option ℕ
slot_among names name = option_and_then (λ (x : Names). at_name x name) names

-- the keys of the kind in the namespace have the slots of these names
abbrev pub AreNames : FinMap key_cmp ℕ → Kind → List ℕ → Option Names → Type 0
AreNames m kind namespace names = (q : Key) → kind_index q.kind ≡ kind_index kind → q.namespace ≡ namespace → finite.get m q ≡ slot_among names q.name

abbrev pub AreAsBefore : Namespaces → Namespaces → Type 0
AreAsBefore old new = (space word : List ℕ) → slot_in new space word ≡ slot_in old space word

-- the slot of a text among borrowed ones
abbrev pub slot_at_text : BTreeMap (Bor (List ℕ)) ℕ → List ℕ → Option ℕ
slot_at_text m word = get_by (λ k. slice_cmp nat_cmp word k.now) m

-- the values are those of texts in their byte order, each of which has its value
abbrev pub AreValues : List ℕ → (List ℕ → Option ℕ) → Type 0
AreValues values value = (es : Names) × IsStrictlySortedBy (slice_cmp nat_cmp) (keys_of es) × (map (λ e. e.1) es ≡ values) × ((word : List ℕ) → at_name es word ≡ value word)

-- ---- as one map by keys

abbrev pub put_all : List (Key × ℕ) → KeySlots → KeySlots
put_all [] n = n
put_all (e ∷ es) n = finite.insert (put_all es n) e.0 e.1

-- what m has, and for other keys what n has
abbrev pub both : KeySlots → KeySlots → KeySlots
both m n = put_all (entries m) n

-- what m has for keys that pass the test, and what n has for others
abbrev pub joined : (Key → Bool) → KeySlots → KeySlots → KeySlots
joined holds m n = put_all (entries (finite.retain_keys m holds)) (finite.retain_keys n (λ k. not (holds k)))

abbrev pub named : {K : Type 0} → (K → List ℕ) → Kind → List ℕ → List (K × ℕ) → List (Key × ℕ)
named bytes kind namespace es = map (λ e. (key_parts kind namespace (bytes e.0), e.1)) es

abbrev pub in_namespaces : Kind → List (List ℕ × Names) → KeySlots
in_namespaces kind [] = finite.empty
in_namespaces kind (e ∷ es) = joined (is_of kind e.0) (finite.from_entries (named (λ w. w) kind e.0 e.1)) (in_namespaces kind es)

abbrev pub of_kind : List Namespaces → Kind → KeySlots
of_kind ms kind = in_namespaces kind (option_map_or (λ m. m.entries) (slice_get ms (kind_index kind)) [])

abbrev pub is_kind : Kind → Key → Bool
is_kind kind k = kind_index k.kind == kind_index kind

abbrev pub of_kinds : List Namespaces → List Kind → KeySlots
of_kinds ms [] = finite.empty
of_kinds ms (kind ∷ kinds) = joined (is_kind kind) (of_kind ms kind) (of_kinds ms kinds)

abbrev pub all_kinds : List Kind
all_kinds = StatefulSet ∷ Pod ∷ PersistentVolumeClaim ∷ ControllerRevision ∷ []

abbrev pub slotted : List Namespaces → KeySlots
slotted ms = of_kinds ms all_kinds
