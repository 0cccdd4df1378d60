-- The store that a map of versions holds, by the number of the last write.
use Rattle.std.specs.Prelude.{◌≤◌, ◌+◌, ◌-◌, ℕ, map}
use Rattle.std.specs.List.{range_with_len}
use Rattle.objects.specs.declared.object.Object.{Object}
use Rattle.version_map.specs.Versions.{IsAbove, Versions, state_at}
use Rattle.plain_store.specs.Store.{Store}

-- the map at each number is what is read there
abbrev pub store_of : Versions Object → (counter capacity : ℕ) → Store
store_of v counter capacity = record {
  objects = state_at v.rows counter;
  counter = counter;
  capacity = capacity;
  floor = v.floor;
  past = map (state_at v.rows) (range_with_len v.floor (counter - v.floor));
}

-- the floor is not above the last write, and each version is of a write up to it
pub record IsUpTo (v : Versions Object) (counter : ℕ) : Type 0 where
  pub floor : v.floor ≤ counter
  pub rows : IsAbove v.rows (counter + 1)
