-- A shard by the map of versions that holds it: the rows of each key are its records.
use Rattle.std.specs.Prelude.{◌≡◌, List, [], ◌∷◌, ◌++◌, map, filter}
use Rattle.std.specs.Ordering.{eq_by_cmp}
use Rattle.std.specs.FinMap.{entries, from_entries}
use Rattle.objects.specs.declared.key.Key.{Key}
use Rattle.objects.specs.declared.object.Object.{Object}
use Rattle.objects.specs.Key.{key_cmp}
use Rattle.version_map.specs.Rows.{Row}
use Rattle.version_map.specs.Versions.{RowsByKey, Versions, rows_at}
use Rattle.versions.specs.Records.{Record, Records, version_at}
use Rattle.versions.specs.Shard.{Shard}

abbrev pub records_in : List (Key × List (Row Object)) → List Record
records_in [] = []
records_in (e ∷ es) = map (λ r. (r.0, version_at e.0 r.1)) e.1 ++ records_in es

abbrev pub records_of : RowsByKey Object → Records
records_of m = from_entries (records_in (entries m))

abbrev pub shard_of : Versions Object → Shard
shard_of v = record { records = records_of v.rows; floor = v.floor; room = v.room }

-- the rows of a key, among records in the order of their numbers
abbrev pub rows_of : Key → List Record → List (Row Object)
rows_of k es = map (λ r. (r.0, r.1.state)) (filter (λ r. eq_by_cmp key_cmp k r.1.key) es)

-- the rows of each key are its records
abbrev pub AreRows : RowsByKey Object → Records → Type 0
AreRows m rs = (k : Key) → rows_at m k ≡ rows_of k (entries rs)
