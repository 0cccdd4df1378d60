-- What holds of the parts of a map of versions: the slots of its keys, the chains at them, and the queue of the rows
-- that supersede another one.
use Rattle.std.specs.Prelude.{◌≡◌, ℕ, ◌<◌, ◌≤◌, ◌==◌, Bool, true, false, List, [], ◌∷◌, length, map, drop, Option, Some, None, slice_index_or, option_map, if◌then◌else◌}
use Rattle.std.specs.List.{AllByRecursion, find, flat_map}
use Rattle.std.specs.Option.{option_map_or, option_to_list}
use Rattle.std.specs.FinMap as finite
use Rattle.std.specs.FinMap.{entries}
use Rattle.objects.specs.declared.key.Key.{Key}
use Rattle.version_map.specs.declared.map.Superseding.{Superseding}
use Rattle.version_map.specs.Rows.{Chain, Row, state_to}
use Rattle.version_map.specs.Versions.{RowsByKey, count}
use Rattle.version_map.specs.Index.{Index}
pub use Rattle.version_map.specs.Named.{KeySlots}

abbrev pub Chains : Type 0 → Type 0
Chains X = List (Chain X)

abbrev pub no_chain : {X : Type 0} → Chain X
no_chain = record { rows = []; roomy = false }

-- the chain at a slot; past the last it has no rows, and no room
abbrev pub chain_there : {X : Type 0} → Chains X → ℕ → Chain X
chain_there cs p = slice_index_or cs p no_chain

abbrev pub rows_there : {X : Type 0} → Chains X → ℕ → List (Row X)
rows_there cs p = (chain_there cs p).rows

-- whether the chain at the slot has room for one more
abbrev pub is_roomy : {X : Type 0} → Chains X → ℕ → Bool
is_roomy cs p = (chain_there cs p).roomy

-- what the chains at some slots say at a number
abbrev pub values_in : {X : Type 0} → ℕ → Chains X → List ℕ → List X
values_in n cs ps = flat_map (λ p. option_to_list (state_to n (rows_there cs p))) ps

-- the rows of a key; one that has no slot has none
abbrev pub rows_in : {X : Type 0} → KeySlots → Chains X → Key → List (Row X)
rows_in ps cs k = option_map_or (rows_there cs) (finite.get ps k) []

abbrev pub put_rows : {X : Type 0} → RowsByKey X → Key → List (Row X) → RowsByKey X
put_rows m k [] = finite.remove m k
put_rows m k (r ∷ rs) = finite.insert m k (r ∷ rs)

abbrev pub rows_by : {X : Type 0} → Chains X → List (Key × ℕ) → RowsByKey X
rows_by cs [] = finite.empty
rows_by cs (e ∷ es) = put_rows (rows_by cs es) e.0 (rows_there cs e.1)

-- the rows of each key that has any
abbrev pub by_key : {X : Type 0} → KeySlots → Chains X → RowsByKey X
by_key ps cs = rows_by cs (entries ps)

-- the key that has the slot
abbrev pub key_at : KeySlots → ℕ → Option Key
key_at ps p = option_map (λ e. e.0) (find (λ e. e.1 == p) (entries ps))

-- the numbers that wait under a slot, in their order
abbrev pub waiting : ℕ → List Superseding → List ℕ
waiting p [] = []
waiting p (s ∷ ss) = if p == s.slot then s.number ∷ waiting p ss else waiting p ss

-- each number is at most the later ones
abbrev pub IsInOrder : List Superseding → Type 0
IsInOrder [] = Unit {0}
IsInOrder (s ∷ ss) = AllByRecursion (λ t. s.number ≤ t.number) ss × IsInOrder ss

abbrev pub numbers : {X : Type 0} → List (Row X) → List ℕ
numbers rows = map (λ r. r.0) rows

-- some key has the slot
abbrev pub IsOwned : KeySlots → ℕ → Type 0
IsOwned ps p = (k : Key) × (finite.get ps k ≡ Some p)

abbrev pub HasRoom : {X : Type 0} → KeySlots → Chains X → ℕ → Type 0
HasRoom ps cs p = IsOwned ps p × (is_roomy cs p ≡ true)

-- a key that is listed has the slot
abbrev pub IsListed : Index → ℕ → Type 0
IsListed i p = (k : Key) × (finite.get i.all k ≡ Some p) × (finite.get i.listed k ≡ Some p)

-- from a number on, a key that is not listed has no value
abbrev pub AreListed : {X : Type 0} → ℕ → Index → Chains X → Type 0
AreListed since i cs = (k : Key) → finite.get i.listed k ≡ None → (n : ℕ) → since ≤ n → state_to n (rows_in i.all cs k) ≡ None

-- each key has a slot of its own, with a chain, and a chain with rows has a key
pub record HaveSlots {X : Type 0} (ps : KeySlots) (cs : Chains X) : Type 0 where
  pub within : (k : Key) (p : ℕ) → finite.get ps k ≡ Some p → p < length cs
  pub apart : (k q : Key) (p : ℕ) → finite.get ps k ≡ Some p → finite.get ps q ≡ Some p → k ≡ q
  pub owned : (p : ℕ) → 0 < length (rows_there cs p) → IsOwned ps p

-- each row but the first of a chain waits, under the slot and in the order of all numbers, and nothing else waits
pub record IsConsistent {X : Type 0} (ps : KeySlots) (cs : Chains X) (ss : List Superseding) (many : ℕ) : Type 0 where
  pub slotted : HaveSlots ps cs
  pub order : IsInOrder ss
  pub waits : (p : ℕ) → waiting p ss ≡ numbers (drop 1 (rows_there cs p))
  pub counted : many ≡ count (by_key ps cs)

-- the same rows at the slots and of the keys, with at least as much room
pub record AreStill {X : Type 0} (ps : KeySlots) (cs : Chains X) (qs : KeySlots) (ds : Chains X) : Type 0 where
  pub keys : (k : Key) (p : ℕ) → finite.get ps k ≡ Some p → finite.get qs k ≡ Some p
  pub rows : (p : ℕ) → rows_there ds p ≡ rows_there cs p
  pub room : (p : ℕ) → is_roomy cs p ≡ true → is_roomy ds p ≡ true
  pub by_key : (k : Key) → rows_in qs ds k ≡ rows_in ps cs k
