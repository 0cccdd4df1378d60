-- The world that the callers share: the log, the numbers allocated, the frontier up to which all are filled, the floor
-- below which nothing is read, the shards that are held, and the phase of each caller.
use Rattle.std.specs.Prelude.{ℕ, cond, nat_eq, List, [], Option, None}
use Rattle.objects.specs.declared.key.Key.{Key}
use Rattle.objects.specs.ShardOf.{shard_of}
use Rattle.requests.specs.declared.request.Request.{Request}
use Rattle.requests.specs.declared.reply.Reply.{Reply}
use Rattle.interleavings.specs.declared.trace.Item.{Item}
use Rattle.interleavings.specs.Log.{Log, Writing}
use Rattle.plain_store.specs.Store.{Objects}

-- how many numbers the store may allocate, and how many shards it has
pub record Size : Type 0 where
  pub capacity : ℕ
  pub shards : ℕ

-- a write and its index in the log; its number is the index plus one
pub record Draw : Type 0 where
  pub index : ℕ
  pub writing : Writing

-- The phase of a caller. A request that was called is named by the place of its call. A caller that waits has its
-- reply, and the number that it saw; one that reads has the number that it reads at, the shards that it has still to
-- read, and what it has found. One that has crashed may leave a number that it allocated.
pub data Phase : Type 0 where
  Idle : Phase
  Called : (place : ℕ) → Request → Phase
  Holding : Writing → Phase
  Drawn : Draw → Phase
  Waiting : (saw place : ℕ) → Reply → Phase
  Reading : (number place : ℕ) → Request → (parts : List ℕ) → (found : Objects) → Phase
  Gone : Option Draw → Phase

-- `now` is the place of the next event.
pub record World : Type 0 where
  pub log : Log
  pub drawn : ℕ
  pub frontier : ℕ
  pub floor : ℕ
  pub holder : ℕ → Option ℕ
  pub phase : ℕ → Phase
  pub trace : List Item
  pub now : ℕ

-- when a run begins: nothing is there, and all callers are idle
abbrev pub opening : World
opening = record { log = λ i. None; drawn = 0; frontier = 0; floor = 0; holder = λ s. None; phase = λ c. Idle; trace = []; now = 0 }

-- the function with another value at one number
unfoldable pub changed : {A : Type 0} → (ℕ → A) → ℕ → A → ℕ → A
changed f i x = λ j. cond (nat_eq j i) x (f j)

unfoldable pub shard : Size → Key → ℕ
shard z k = shard_of k z.shards
