-- The slots of keys as one map: what it has at a key is what is found by kind, by namespace and by name.
use Rattle.std.proofs.Common.{◌≡◌, ℕ, ◌==◌, ◌<◌, length, get_or, Bool, true, false, ◌&&◌, not, cond, List, [], ◌∷◌, bytes_eq, Option, Some, None, option_and_then, refl, sym, ap, ◌∙◌, arith}
use Rattle.std.specs.Prelude.{slice_get}
use Rattle.std.specs.BTreeMap.{BTreeMap, UpdatesBy, is_at}
use Rattle.std.specs.Cmp.{both_tied}
use Rattle.std.specs.Cmp.Lexicographic.{slice_cmp}
use Rattle.std.specs.Map.{lookup}
use Rattle.std.specs.Option.{option_map_or, option_or}
use Rattle.std.specs.Ordering.{eq_by_cmp, is_eq, nat_cmp}
use Rattle.std.specs.FinMap.{entries, find, from_entries, get, empty, get-empty, get-entries, get-from_entries, get-insert, get-retain_keys, retain_keys, same_map}
use Rattle.std.proofs.lemmas.Bool.Decides.{nat_tests}
use Rattle.std.proofs.lemmas.Option.{slice_get-get_or}
use Rattle.std.proofs.lemmas.Map.Text.{is_eq-slice_cmp}
use Rattle.objects.specs.declared.key.Key.{Key}
use Rattle.objects.specs.declared.kind.Kind.{Kind}
use Rattle.objects.specs.declared.kind.Kind.TheVariants.{StatefulSet, Pod, PersistentVolumeClaim, ControllerRevision}
use Rattle.objects.specs.Key.{key_cmp, key_parts, kind_index}
use Rattle.objects.specs.KeyOrder.{exact_keys, key_cmp_total}
use Rattle.version_map.specs.Keys.{is_of}
use Rattle.version_map.specs.Named.{at_name, at_text, Names, Namespaces, KeySlots, all_kinds, both, in_namespaces, is_kind, joined, named, of_kind, of_kinds, slot_in, slotted, put_all}

abbrev pub Text : Type 0
Text = List ℕ

-- ---- when keys are equal

nat_tied : (m n : ℕ) → (m == n) ≡ is_eq (nat_cmp m n)
nat_tied m n = grind (arith, nat_tests)

and_again : (a b c : Bool) → ((a && b) && c) ≡ (a && (b && c))
and_again true b c = refl
and_again false b c = refl

pub tied : (k q : Key) → eq_by_cmp key_cmp k q ≡ (is_of q.kind q.namespace k && bytes_eq k.name q.name)
tied k q = sym (and_again (kind_index k.kind == kind_index q.kind) (bytes_eq k.namespace q.namespace) (bytes_eq k.name q.name)
    ∙ both_tied _ _ (nat_cmp (kind_index k.kind) (kind_index q.kind)) _ (nat_tied (kind_index k.kind) (kind_index q.kind))
    (both_tied _ _ (slice_cmp nat_cmp k.namespace q.namespace) (slice_cmp nat_cmp k.name q.name) (sym (is_eq-slice_cmp k.namespace q.namespace)) (sym (is_eq-slice_cmp k.name q.name))))

-- ---- the names of a namespace

module _ {K : Type 0} (bytes : K → List ℕ) where
  abbrev pub by_bytes : {X : Type 0} → List (K × X) → List ℕ → Option X
  by_bytes es name = lookup (is_at (λ s. slice_cmp nat_cmp name (bytes s))) es

  pub find_named : (kind : Kind) (namespace : List ℕ) (k : Key) (es : List (K × ℕ)) → is_of kind namespace k ≡ true → find key_cmp k (named bytes kind namespace es) ≡ by_bytes es k.name
  find_named kind namespace k [] is = refl
  find_named kind namespace k (e ∷ es) is =
      ap (λ b. cond b (Some e.1) (find key_cmp k (named bytes kind namespace es)))
      (tied k (key_parts kind namespace (bytes e.0)) ∙ ap (λ b. b && bytes_eq k.name (bytes e.0)) is ∙ sym (is_eq-slice_cmp k.name (bytes e.0)))
      ∙ ap (cond (is_eq (slice_cmp nat_cmp k.name (bytes e.0))) (Some e.1)) (find_named kind namespace k es is)

  pub find_other : (kind : Kind) (namespace : List ℕ) (k : Key) (es : List (K × ℕ)) → is_of kind namespace k ≡ false → find key_cmp k (named bytes kind namespace es) ≡ None
  find_other kind namespace k [] is = refl
  find_other kind namespace k (e ∷ es) is =
      ap (λ b. cond b (Some e.1) (find key_cmp k (named bytes kind namespace es))) (tied k (key_parts kind namespace (bytes e.0)) ∙ ap (λ b. b && bytes_eq k.name (bytes e.0)) is)
      ∙ find_other kind namespace k es is

-- what is at a text
abbrev pub by_name : {X : Type 0} → List (Text × X) → List ℕ → Option X
by_name es name = by_bytes (λ w. w) es name

-- a change at a text, at any text
pub updates_text : {X : Type 0} (text : List ℕ) (m n : BTreeMap Text X) (w : Option X) → UpdatesBy (slice_cmp nat_cmp) (slice_cmp nat_cmp text) m n w
    → (q : List ℕ) → at_text n q ≡ cond (bytes_eq text q) w (at_text m q)
updates_text text m n w written q = written.0 q ∙ ap (λ b. cond b w (at_text m q)) (is_eq-slice_cmp text q)

-- ---- maps that are joined

pub get_put_all : (es : List (Key × ℕ)) (n : KeySlots) (k : Key) → get (put_all es n) k ≡ option_or (find key_cmp k es) (get n k)
get_put_all [] n k = refl
get_put_all (e ∷ es) n k =
    get-insert key_cmp_total (put_all es n) e.0 e.1 k ∙ ap (cond (eq_by_cmp key_cmp k e.0) (Some e.1)) (get_put_all es n k)
    ∙ elim (eq_by_cmp key_cmp k e.0) as (λ b. cond b (Some e.1) (option_or (find key_cmp k es) (get n k)) ≡ option_or (cond b (Some e.1) (find key_cmp k es)) (get n k)) [
      | true ↦ refl
      | false ↦ refl
    ]

pub get_both : (m n : KeySlots) (k : Key) → get (both m n) k ≡ option_or (get m k) (get n k)
get_both m n k = get_put_all (entries m) n k ∙ ap (λ o. option_or o (get n k)) (sym (get-entries m k))

get_kept : (holds : Key → Bool) (m : KeySlots) (k : Key) → get (retain_keys m holds) k ≡ cond (holds k) (get m k) None
get_kept holds m k = get-retain_keys m holds k (λ x tie. ap holds (sym (exact_keys k x tie)))

chosen : (b : Bool) (p q : Option ℕ) → option_or (cond b p None) (cond (not b) q None) ≡ cond b p q
chosen true None q = refl
chosen true (Some p) q = refl
chosen false p q = refl

get_joined : (holds : Key → Bool) (m n : KeySlots) (k : Key) → get (joined holds m n) k ≡ cond (holds k) (get m k) (get n k)
get_joined holds m n k =
    get_put_all (entries (retain_keys m holds)) (retain_keys n (λ q. not (holds q))) k
    ∙ ap (λ o. option_or o (get (retain_keys n (λ q. not (holds q))) k)) (sym (get-entries (retain_keys m holds) k) ∙ get_kept holds m k)
    ∙ ap (option_or (cond (holds k) (get m k) None)) (get_kept (λ q. not (holds q)) n k) ∙ chosen (holds k) (get m k) (get n k)

-- ---- the namespaces of a kind

abbrev slot_by : List (Text × Names) → Key → Option ℕ
slot_by es k = option_and_then (λ (names : Names). by_name names k.name) (by_name es k.namespace)

either : (b : Bool) (o : Option ℕ) → o ≡ cond b o o
either true o = refl
either false o = refl

abbrev first_of : Kind → Text × Names → KeySlots
first_of kind e = from_entries (named (λ w. w) kind e.0 e.1)

get_namespaces : (kind : Kind) (es : List (Text × Names)) (k : Key) → get (in_namespaces kind es) k ≡ cond (is_kind kind k) (slot_by es k) None
get_namespaces kind [] k = get-empty key_cmp k ∙ either (is_kind kind k) None
get_namespaces kind (e ∷ es) k = get_joined (is_of kind e.0) (first_of kind e) (in_namespaces kind es) k ∙ by (is_kind kind k) refl (bytes_eq k.namespace e.0) refl (get_namespaces kind es k)
  where
    -- the first namespace, if it is the key's
    first : (b : Bool) → bytes_eq k.namespace e.0 ≡ b → slot_by (e ∷ es) k ≡ cond b (by_name e.1 k.name) (slot_by es k)
    first b is = ap (λ c. option_and_then (λ (names : Names). by_name names k.name) (cond c (Some e.1) (by_name es k.namespace))) (is_eq-slice_cmp k.namespace e.0 ∙ is)
        ∙ elim b as (λ c. option_and_then (λ (names : Names). by_name names k.name) (cond c (Some e.1) (by_name es k.namespace)) ≡ cond c (by_name e.1 k.name) (slot_by es k)) [ true ↦ refl | false ↦ refl ]

    by : (a : Bool) → is_kind kind k ≡ a → (b : Bool) → bytes_eq k.namespace e.0 ≡ b
        → get (in_namespaces kind es) k ≡ cond (is_kind kind k) (slot_by es k) None
        → cond (is_of kind e.0 k) (get (first_of kind e) k) (get (in_namespaces kind es) k) ≡ cond (is_kind kind k) (slot_by (e ∷ es) k) None
    by true kinds true spaces rest =
        let is : is_of kind e.0 k ≡ true = rw (kinds, spaces) refl in
        ap (λ c. cond c (get (first_of kind e) k) (get (in_namespaces kind es) k)) is ∙ get-from_entries key_cmp_total (named (λ w. w) kind e.0 e.1) k
        ∙ find_named (λ w. w) kind e.0 k e.1 is ∙ sym (ap (λ c. cond c (slot_by (e ∷ es) k) None) kinds ∙ first true spaces)
    by true kinds false spaces rest =
        let is : is_of kind e.0 k ≡ false = rw (kinds, spaces) refl in
        ap (λ c. cond c (get (first_of kind e) k) (get (in_namespaces kind es) k)) is ∙ rest ∙ ap (λ c. cond c (slot_by es k) None) kinds
        ∙ sym (ap (λ c. cond c (slot_by (e ∷ es) k) None) kinds ∙ first false spaces)
    by false kinds b spaces rest =
        let is : is_of kind e.0 k ≡ false = rw kinds refl in
        ap (λ c. cond c (get (first_of kind e) k) (get (in_namespaces kind es) k)) is ∙ rest ∙ ap (λ c. cond c (slot_by es k) None) kinds
        ∙ sym (ap (λ c. cond c (slot_by (e ∷ es) k) None) kinds)

-- ---- all kinds

abbrev pub slot_of : List Namespaces → Key → Option ℕ
slot_of ms k = option_and_then (λ m. slot_in m k.namespace k.name) (slice_get ms (kind_index k.kind))

get_kind : (ms : List Namespaces) (kind : Kind) (k : Key)
    → get (of_kind ms kind) k ≡ cond (is_kind kind k) (option_and_then (λ m. slot_in m k.namespace k.name) (slice_get ms (kind_index kind))) None
get_kind ms kind k = get_namespaces kind (option_map_or (λ (m : Namespaces). m.entries) (slice_get ms (kind_index kind)) []) k ∙ ap (λ o. cond (is_kind kind k) o None) (by (slice_get ms (kind_index kind)))
  where
    by : (o : Option Namespaces) → slot_by (option_map_or (λ (m : Namespaces). m.entries) o []) k ≡ option_and_then (λ m. slot_in m k.namespace k.name) o
    by None = refl
    by (Some m) = refl

abbrev by_kind : List Namespaces → List Kind → Key → Option ℕ
by_kind ms [] k = None
by_kind ms (kind ∷ kinds) k = cond (is_kind kind k) (get (of_kind ms kind) k) (by_kind ms kinds k)

get_kinds : (ms : List Namespaces) (kinds : List Kind) (k : Key) → get (of_kinds ms kinds) k ≡ by_kind ms kinds k
get_kinds ms [] k = get-empty key_cmp k
get_kinds ms (kind ∷ kinds) k = get_joined (is_kind kind) (of_kind ms kind) (of_kinds ms kinds) k ∙ ap (cond (is_kind kind k) (get (of_kind ms kind) k)) (get_kinds ms kinds k)

pub get_slotted : (ms : List Namespaces) (k : Key) → get (slotted ms) k ≡ slot_of ms k
get_slotted ms k = get_kinds ms all_kinds k ∙ at k.kind k.namespace k.name
  where
    at : (kind : Kind) (namespace name : List ℕ) → by_kind ms all_kinds (key_parts kind namespace name) ≡ slot_of ms (key_parts kind namespace name)
    at StatefulSet s n = get_kind ms StatefulSet (key_parts StatefulSet s n)
    at Pod s n = get_kind ms Pod (key_parts Pod s n)
    at PersistentVolumeClaim s n = get_kind ms PersistentVolumeClaim (key_parts PersistentVolumeClaim s n)
    at ControllerRevision s n = get_kind ms ControllerRevision (key_parts ControllerRevision s n)

-- none if no kind has a namespace
pub none_slotted : (a b c d : Namespaces) → a.entries ≡ [] → b.entries ≡ [] → c.entries ≡ [] → d.entries ≡ [] → slotted (a ∷ b ∷ c ∷ d ∷ []) ≡ empty
none_slotted a b c d none_a none_b none_c none_d = same_map key_cmp_total exact_keys _ _ (λ k. get_slotted (a ∷ b ∷ c ∷ d ∷ []) k ∙ at k.kind k.namespace k.name ∙ sym (get-empty key_cmp k))
  where
    at : (kind : Kind) (namespace name : List ℕ) → slot_of (a ∷ b ∷ c ∷ d ∷ []) (key_parts kind namespace name) ≡ None
    at StatefulSet s n = ap (λ (es : List (Text × Names)). slot_by es (key_parts StatefulSet s n)) none_a
    at Pod s n = ap (λ (es : List (Text × Names)). slot_by es (key_parts Pod s n)) none_b
    at PersistentVolumeClaim s n = ap (λ (es : List (Text × Names)). slot_by es (key_parts PersistentVolumeClaim s n)) none_c
    at ControllerRevision s n = ap (λ (es : List (Text × Names)). slot_by es (key_parts ControllerRevision s n)) none_d

-- ---- what is read

-- the namespaces of the key's kind, as they are read
module _ (ms : List Namespaces) (m : KeySlots) (i : ℕ) (d : Namespaces) (view : slotted ms ≡ m) (many : length ms ≡ 4) (within : i < 4) where
  pub slot_read : (k : Key) → i ≡ kind_index k.kind → get m k ≡ slot_in (get_or ms i d) k.namespace k.name
  slot_read k is =
      ap (λ n. get n k) (sym view) ∙ get_slotted ms k
      ∙ ap (option_and_then (λ y. slot_in y k.namespace k.name)) (ap (slice_get ms) (sym is) ∙ slice_get-get_or ms i d (omega (arith, many, within)))

  pub key_read : (k : Key) (kind : Kind) (space name : List ℕ) → key_parts kind space name ≡ k → i ≡ kind_index kind → get m k ≡ slot_in (get_or ms i d) space name
  key_read k kind space name parts is = sym (ap (λ q. get m q) parts) ∙ slot_read (key_parts kind space name) is

pub name_read : (x : Namespaces) (names : Names) (a space name : List ℕ) → a ≡ space → Some names ≡ at_text x a → slot_in x space name ≡ at_name names name
name_read x names a space name same is = ap (option_and_then (λ (y : Names). at_name y name)) (ap (at_text x) (sym same) ∙ sym is)

pub none_read : (x : Namespaces) (a space name : List ℕ) → a ≡ space → None ≡ at_text x a → slot_in x space name ≡ None
none_read x a space name same is = ap (option_and_then (λ (y : Names). at_name y name)) (ap (at_text x) (sym same) ∙ sym is)
