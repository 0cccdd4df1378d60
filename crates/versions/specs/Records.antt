-- Records: what keys were, by the numbers at which they were written.
use Rattle.std.specs.Prelude.{◌≡◌, ℕ, ◌<◌, nat_le, true, List, [], ◌∷◌, fold, Option, Some, None, option_map, option_and_then, refl, if◌then◌else◌}
use Rattle.std.specs.Coded.{Coded, code_by, coded×, coded_option}
use Rattle.std.specs.List.{filter}
use Rattle.std.specs.Option.{option_or}
use Rattle.std.specs.Ordering.{nat_cmp, eq_by_cmp}
use Rattle.std.specs.FinMap as map
use Rattle.std.specs.FinMap.{FinMap, entries, contains_key}
use Rattle.objects.specs.declared.key.Key.{Key}
use Rattle.objects.specs.declared.object.Object.{Object}
use Rattle.objects.specs.Key.{key_cmp, key_coded}
use Rattle.objects.specs.Object.{object_coded}
use Rattle.requests.specs.declared.version.Version.{Version}
use Rattle.version_map.specs.Keyed.{put_at}

-- A set of records: each has a number of its own, a key, and an object or, after a removal, none.
abbrev pub Records : Type 0
Records = FinMap nat_cmp Version

abbrev pub Record : Type 0
Record = ℕ × Version

abbrev pub version_at : Key → Option Object → Version
version_at k o = record { key = k; state = o }

abbrev pub version_coded : Coded Version
version_coded = code_by (Key × Option Object) (coded× key_coded (coded_option object_coded)) (λ v. (v.key, v.state)) (λ p. version_at p.0 p.1) (λ _. refl)

-- the number is above those of all records
abbrev pub IsAbove : Records → ℕ → Type 0
IsAbove rs n = (m : ℕ) → contains_key rs m ≡ true → m < n

-- the last one of a key, in a list of records
abbrev pub last_of : Key → List Record → Option Record
last_of k [] = None
last_of k (r ∷ rs) = option_or (last_of k rs) (if eq_by_cmp key_cmp k r.1.key then Some r else None)

-- the records up to a number, in the order of their numbers
abbrev pub up_to : Records → ℕ → List Record
up_to rs n = filter (λ r. nat_le r.0 n) (entries rs)

-- the record of the key with the largest number
abbrev pub newest_record : Records → Key → Option Record
newest_record rs k = last_of k (entries rs)

-- its number, and what the key is since then
abbrev pub newest : Records → Key → Option (ℕ × Option Object)
newest rs k = option_map (λ r. (r.0, r.1.state)) (newest_record rs k)

-- what the key is now
abbrev pub current : Records → Key → Option Object
current rs k = option_and_then (λ r. r.1.state) (newest_record rs k)

-- what the key was at a number: what its record with the largest number up to that one says
abbrev pub value : Records → ℕ → Key → Option Object
value rs n k = option_and_then (λ r. r.1.state) (last_of k (up_to rs n))

-- all that was there at a number: what the writes up to it leave, in the order of their numbers
abbrev pub written : List Record → FinMap key_cmp Object
written rs = fold (λ m r. put_at m r.1.key r.1.state) map.empty rs

abbrev pub state_at : Records → ℕ → FinMap key_cmp Object
state_at rs n = written (up_to rs n)
