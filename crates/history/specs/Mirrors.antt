-- One shard of versions compared with the log of all shards.
use Rattle.std.specs.Prelude.{◌≡◌, ◌≢◌, ℕ, zero, suc, ◌≤◌, true, List, Option, Some, None}
use Rattle.std.specs.FinMap as map
use Rattle.objects.specs.declared.key.Key.{Key}
use Rattle.objects.specs.declared.kind.Kind.{Kind}
use Rattle.objects.specs.declared.object.Object.{Object}
use Rattle.requests.specs.declared.request.Request.{Request}
use Rattle.plain_store.specs.Store.{Objects, collection}
use Rattle.versions.specs.Records as versions
use Rattle.versions.specs.Records.{IsAbove, Records}
use Rattle.versions.specs.Shard.{Shard, raised}
use Rattle.versions.specs.Gathered.{with_objects}
use Rattle.interleavings.specs.Log.{Log, Writing, last_write, value}
use Rattle.interleavings.specs.Step.{with_part}
use Rattle.interleavings.specs.World.{Size, shard}

-- the number of the last write, and what it left; nothing if the number is 0
abbrev pub last_seen : ℕ → Option Object → Option (ℕ × Option Object)
last_seen zero o = None
last_seen (suc n) o = Some (suc n, o)

-- a number at which a write of the shard s is published
pub record IsPublished (z : Size) (log : Log) (s number : ℕ) : Type 0 where
  pub index : ℕ
  pub writing : Writing
  pub follows : number ≡ suc index
  pub filled : log index ≡ Some writing
  pub here : shard z writing.key ≡ s

-- The records are those of the shard s, when so many numbers are allocated: they say of its keys what the log says, at
-- the numbers from the floor on, and of other keys nothing.
pub record Mirrors (z : Size) (log : Log) (drawn s : ℕ) (records : Records) (floor : ℕ) : Type 0 where
  pub newest : (k : Key) → shard z k ≡ s → versions.newest records k ≡ last_seen (last_write log drawn k) (value log drawn k)
  pub values : (n : ℕ) (k : Key) → floor ≤ n → shard z k ≡ s → versions.value records n k ≡ value log n k
  pub others : (n : ℕ) (k : Key) → floor ≤ n → shard z k ≢ s → versions.value records n k ≡ None
  -- none has a number that is not allocated
  pub above : IsAbove records (suc drawn)
  -- each is of a write
  pub published : (n : ℕ) → map.contains_key records n ≡ true → IsPublished z log s n

-- b is the shard a, compacted to a number
pub record IsCompacted (n : ℕ) (a b : Shard) : Type 0 where
  pub raised_is : b ≡ raised a n
  pub newest_stays : (k : Key) → versions.newest b.records k ≡ versions.newest a.records k
  pub values_stay : (m : ℕ) (k : Key) → b.floor ≤ m → versions.value b.records m k ≡ versions.value a.records m k

-- ---- what a caller finds

-- with an object too, if there is one
abbrev pub with_object : Objects → Option Object → Objects
with_object found None = found
with_object found (Some o) = map.insert found o.key o

-- what a request finds in the shards below s, as the log has it at a number
abbrev pub read_up_to : Size → Log → (number : ℕ) → Request → (s : ℕ) → Objects
read_up_to z log number r zero = map.empty
read_up_to z log number r (suc s) = with_part z log number r s (read_up_to z log number r s)

-- the objects of a kind in a namespace that the records of the shards below s have at a number
abbrev pub found_in : (records : ℕ → Records) → (number : ℕ) → Kind → List ℕ → (s : ℕ) → Objects
found_in records number kind namespace zero = map.empty
found_in records number kind namespace (suc s) = with_objects (found_in records number kind namespace s) (collection (versions.state_at (records s) number) kind namespace)
