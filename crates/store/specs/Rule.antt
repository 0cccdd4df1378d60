-- The rule of a lock: how a shard and its seat at the line agree whenever the lock is free.
use Rattle.std.specs.Prelude.{◌≡◌, ℕ, ◌<◌, ◌≤◌, true, List, length, map, slice_index, Option, Some, option_map}
use Rattle.std.specs.List.{Contains}
use Rattle.std.specs.FinMap.{contains_key, get}
use Rattle.objects.specs.declared.key.Key.{Key}
use Rattle.objects.specs.declared.object.Object.{Object}
use Rattle.requests.specs.declared.version.Version.{Version}
use Rattle.versions.specs.Records.{last_of, newest, up_to, value}
use Rattle.versions.specs.Shard.{Shard}
use Rattle.line.specs.declared.view.NotedView.{NotedView}
use Rattle.line.specs.Notes.{notes_up_to}
use Rattle.store.specs.declared.writing.Writing.{Writing}
use Rattle.store.specs.History.{current_of, records_of}

abbrev pub IsRising : List ℕ → Type 0
IsRising xs = (i j : ℕ) → i < j → j < length xs → slice_index xs i < slice_index xs j

-- the number of the key's newest record at a number
abbrev pub newest_at : Shard → ℕ → Version → Option ℕ
newest_at s n v = option_map (λ r. r.0) (last_of v.key (up_to s.records n))

abbrev pub number_of : ℕ × Writing → ℕ
number_of p = p.0

-- the number of a key's last write, and what the key is since then
abbrev pub newest_of : List (ℕ × Writing) → Key → Option (ℕ × Option Object)
newest_of ps k = option_map (λ r. (r.0, r.1.state)) (last_of k (records_of ps))

-- a shard, the notes of its seat, the numbers that the seat filled, and how much of the frontier it has seen
pub record Agrees (shard : Shard) (has : List (ℕ × Writing)) (filled : List ℕ) (seen : ℕ) : Type 0 where
  -- the numbers of the notes are those that were filled, and rise
  pub noted : map number_of has ≡ filled
  pub rising : IsRising filled
  pub positive : (n : ℕ) → Contains filled n → 0 < n
  -- the number of each record is one that was filled
  pub numbers : (n : ℕ) → contains_key shard.records n ≡ true → Contains filled n
  -- each number above the floor that was filled has its record
  pub above : (n : ℕ) → Contains filled n → shard.floor < n → contains_key shard.records n ≡ true
  -- each record up to the floor is its key's newest at the floor
  pub least : (n : ℕ) (r : Version) → get shard.records n ≡ Some r → n ≤ shard.floor → newest_at shard shard.floor r ≡ Some n
  -- from the floor on each key reads as the notes say
  pub values : (m : ℕ) (k : Key) → shard.floor ≤ m → value shard.records m k ≡ current_of (notes_up_to m has) k
  -- and so does its newest record, a removal too
  pub latest : (k : Key) → newest shard.records k ≡ newest_of has k
  -- the frontier has reached the floor
  pub floor : shard.floor ≤ seen

-- whenever the lock of a shard is free
abbrev pub AgreesWith : Shard → NotedView Writing → Type 0
AgreesWith shard v = Agrees shard v.notes v.plain.filled (length v.seen)

-- a shard under its lock: which it is, the writes of its keys with their numbers, and its versions
pub record Locked : Type 0 where
  pub index : ℕ
  pub notes : List (ℕ × Writing)
  pub shard : Shard
