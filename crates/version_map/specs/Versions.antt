-- Versions: the rows of each key that has any, the number from which on they can be read, and the key that has room for
-- one more.
use Rattle.std.specs.Prelude.{ℕ, nat_lt, List, [], ◌∷◌, ◌+◌, ◌++◌, map, length, Option, Some, None, refl, if◌then◌else◌}
use Rattle.std.specs.Coded.{Coded, code_by, coded×, coded_option, coded_ℕ}
use Rattle.std.specs.Option.{unwrap_or}
use Rattle.std.specs.FinMap as map
use Rattle.std.specs.FinMap.{FinMap, entries}
use Rattle.objects.specs.declared.key.Key.{Key}
use Rattle.objects.specs.Key.{key_cmp, key_coded}
use Rattle.version_map.specs.Rows.{AreBelow, Row, kept, last_row, rows_coded, state_to}

abbrev pub RowsByKey : Type 0 → Type 0
RowsByKey X = FinMap key_cmp (List (Row X))

pub record Versions (X : Type 0) : Type 0 where
  pub rows : RowsByKey X
  pub floor : ℕ
  pub room : Option Key

abbrev pub versions_coded : {X : Type 0} → Coded X → Coded (Versions X)
versions_coded {X} x =
    code_by (RowsByKey X × (ℕ × Option Key)) (coded× (map.code key_coded (rows_coded x)) (coded× coded_ℕ (coded_option key_coded)))
    (λ v. (v.rows, (v.floor, v.room))) (λ p. record { rows = p.0; floor = p.1.0; room = p.1.1 }) (λ _. refl)

-- the rows of a key, in the order of their numbers
abbrev pub rows_at : {X : Type 0} → RowsByKey X → Key → List (Row X)
rows_at m k = unwrap_or (map.get m k) []

-- the key's last row: what it is now, and since which number
abbrev pub newest : {X : Type 0} → RowsByKey X → Key → Option (Row X)
newest m k = last_row (rows_at m k)

-- what the key was at a number
abbrev pub value : {X : Type 0} → RowsByKey X → ℕ → Key → Option X
value m n k = state_to n (rows_at m k)

abbrev pub with_state : {X : Type 0} → Key → Option X → List (Key × X) → List (Key × X)
with_state k None es = es
with_state k (Some x) es = (k, x) ∷ es

abbrev pub states_to : {X : Type 0} → ℕ → List (Key × List (Row X)) → List (Key × X)
states_to n [] = []
states_to n (e ∷ es) = with_state e.0 (state_to n e.1) (states_to n es)

-- all that was there at a number
abbrev pub state_at : {X : Type 0} → RowsByKey X → ℕ → FinMap key_cmp X
state_at m n = map.from_entries (states_to n (entries m))

-- the number is above those of all rows
abbrev pub IsAbove : {X : Type 0} → RowsByKey X → ℕ → Type 0
IsAbove m n = (k : Key) → AreBelow n (rows_at m k)

abbrev pub count_in : {X : Type 0} → List (Key × List (Row X)) → ℕ
count_in [] = 0
count_in (e ∷ es) = length e.1 + count_in es

-- how many rows there are
abbrev pub count : {X : Type 0} → RowsByKey X → ℕ
count m = count_in (entries m)

-- of the rows of each key up to n, only the last; and all those above n
abbrev pub compacted : {X : Type 0} → RowsByKey X → ℕ → RowsByKey X
compacted m n = map.from_entries (map (λ e. (e.0, kept n e.1)) (entries m))

-- as they are at first
abbrev pub opening : {X : Type 0} → Versions X
opening = record { rows = map.empty; floor = 0; room = None }

-- with room for one more row of that key, and of no other
abbrev pub with_room : {X : Type 0} → Versions X → Key → Versions X
with_room v k = record { rows = v.rows; floor = v.floor; room = Some k }

-- with one more row, which uses up the room
abbrev pub pushed : {X : Type 0} → Versions X → ℕ → Key → Option X → Versions X
pushed v n k s = record { rows = map.insert v.rows k (rows_at v.rows k ++ (n, s) ∷ []); floor = v.floor; room = None }

-- with the floor at n and what is not read from there on dropped; a floor that is higher stays
abbrev pub raised : {X : Type 0} → Versions X → ℕ → Versions X
raised v n = if nat_lt n v.floor then v else record { rows = compacted v.rows n; floor = n; room = v.room }
