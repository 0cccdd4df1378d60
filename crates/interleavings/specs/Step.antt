-- One event of the world: an atomic step of one caller, or of the frontier. What is not enabled changes nothing.
use Rattle.std.specs.Prelude.{ℕ, suc, Bool, true, false, ◌&&◌, nat_eq, nat_lt, nat_le, List, [], ◌∷◌, ◌++◌, Option, Some, None}
use Rattle.std.specs.Ordering.{eq_by_cmp}
use Rattle.std.specs.List.{range_with_len}
use Rattle.std.specs.FinMap as map
use Rattle.objects.specs.declared.key.Key.{Key}
use Rattle.objects.specs.declared.object.Object.{Object}
use Rattle.objects.specs.Key.{key_cmp}
use Rattle.requests.specs.declared.request.Request.{Request}
use Rattle.requests.specs.declared.reply.Reply.{Reply}
use Rattle.requests.specs.declared.reply.Reply.TheVariants.{Compacted, Refused, Unchanged}
use Rattle.requests.specs.declared.reply.Reason.{Reason}
use Rattle.requests.specs.declared.reply.Reason.TheVariants.{StoreFull}
use Rattle.requests.specs.declared.verdict.Verdict.{Verdict}
use Rattle.requests.specs.declared.verdict.Verdict.TheVariants.{Refuse, Same, Write}
use Rattle.requests.specs.Change.{Change, accepted, stamp}
use Rattle.requests.specs.Verdict.{verdict}
use Rattle.interleavings.specs.declared.event.Event.{Event}
use Rattle.interleavings.specs.declared.event.Event.TheVariants.{Call, Check, Reserve, Publish, Raise, Read, ReadAt, Compact, Part, Crash}
use Rattle.interleavings.specs.declared.event.Event.TheVariants as event
use Rattle.interleavings.specs.declared.trace.Item.TheVariants as item
use Rattle.interleavings.specs.Log.{Log, Writing, last_write, state_at, value}
use Rattle.plain_store.specs.Route.{Route, compacts, gets, lists, lists_at, route, writes}
use Rattle.plain_store.specs.Store.{Objects, Store, denied, is_of}
use Rattle.plain_store.specs.Store as store
use Rattle.interleavings.specs.World.{Draw, Phase, Idle, Called, Holding, Drawn, Waiting, Reading, Gone, Size, World, changed, shard}

-- ---- the caller's next phase
abbrev pub enters : World → ℕ → Phase → World
enters w c phase = record w { phase = changed w.phase c phase }

-- the same, and the shard of the key has this holder
abbrev pub enters_with : Size → World → ℕ → Key → Option ℕ → Phase → World
enters_with z w c k holder phase = record w { holder = changed w.holder (shard z k) holder; phase = changed w.phase c phase }

-- ---- Call
abbrev pub called : World → ℕ → Request → Phase → World
called w c r Idle = record w { phase = changed w.phase c (Called w.now r); trace = w.trace ++ item.Call w.now c r ∷ [] }
called w c r _ = w

-- ---- Check: a write by its verdict over what its key is now
abbrev pub judged : Size → World → ℕ → ℕ → Key → Verdict → World
judged z w c place k (Refuse reason) = enters w c (Waiting (last_write w.log w.drawn k) place (Refused reason))
judged z w c place k (Same o) = enters w c (Waiting (last_write w.log w.drawn k) place (Unchanged o))
judged z w c place k (Write change) = enters_with z w c k (Some c) (Holding (record { place = place; key = k; change = change }))

-- a check waits for a shard that is held
abbrev pub checked_in : Size → World → ℕ → ℕ → Request → Key → Option ℕ → World
checked_in z w c place r k None = judged z w c place k (verdict r (value w.log w.drawn k))
checked_in z w c place r k (Some holder) = w

abbrev pub checked_by : Size → World → ℕ → ℕ → Request → Route → World
checked_by z w c place r (writes k) = checked_in z w c place r k (w.holder (shard z k))
checked_by z w c place r (gets k) = w
checked_by z w c place r (lists kind namespace) = w
checked_by z w c place r (lists_at kind namespace number) = w
checked_by z w c place r (compacts to) = w

abbrev pub checked : Size → World → ℕ → Phase → World
checked z w c (Called place r) = checked_by z w c place r (route r)
checked z w c _ = w

-- ---- Reserve: the next number, if one is left
abbrev pub drawn_by : Size → World → ℕ → Writing → Bool → World
drawn_by z w c t true = record w { drawn = suc w.drawn; phase = changed w.phase c (Drawn (record { index = w.drawn; writing = t })) }
drawn_by z w c t false = enters_with z w c t.key None (Waiting z.capacity t.place (Refused StoreFull))

abbrev pub reserved : Size → World → ℕ → Phase → World
reserved z w c (Holding t) = drawn_by z w c t (nat_lt w.drawn z.capacity)
reserved z w c _ = w

-- ---- Publish, also for a caller that has crashed
abbrev pub filled : Size → World → ℕ → Draw → Phase → World
filled z w c d phase = record w { log = changed w.log d.index (Some d.writing); holder = changed w.holder (shard z d.writing.key) None; phase = changed w.phase c phase }

-- the reply to a write of that number
unfoldable pub accepted_reply : Change → ℕ → Reply
accepted_reply change n = accepted change (stamp change n)

abbrev pub published : Size → World → ℕ → Phase → World
published z w c (Drawn d) = filled z w c d (Waiting (suc d.index) d.writing.place (accepted_reply d.writing.change (suc d.index)))
published z w c (Gone (Some d)) = filled z w c d (Gone None)
published z w c _ = w

-- ---- Raise: the frontier passes the next number, if it is filled
abbrev pub raised : World → Option Writing → World
raised w None = w
raised w (Some t) = record w { frontier = suc w.frontier }

-- ---- Read: a get has one part, the shard of its key; a list has one for each shard
abbrev pub begun : World → ℕ → ℕ → ℕ → Request → List ℕ → World
begun w c number place r parts = enters w c (Reading number place r parts map.empty)

abbrev pub all_shards : Size → List ℕ
all_shards z = range_with_len 0 z.shards

abbrev pub read_by : Size → World → ℕ → ℕ → Request → Route → World
read_by z w c place r (gets k) = begun w c w.frontier place r (shard z k ∷ [])
read_by z w c place r (lists kind namespace) = begun w c w.frontier place r (all_shards z)
read_by z w c place r (writes k) = w
read_by z w c place r (lists_at kind namespace number) = w
read_by z w c place r (compacts to) = w

abbrev pub read : Size → World → ℕ → Phase → World
read z w c (Called place r) = read_by z w c place r (route r)
read z w c _ = w

-- ---- ReadAt: a list at a number, unless it is denied
abbrev pub begun_unless : Size → World → ℕ → ℕ → Request → ℕ → Option Reason → World
begun_unless z w c place r number (Some reason) = enters w c (Waiting 0 place (Refused reason))
begun_unless z w c place r number None = begun w c number place r (all_shards z)

abbrev pub read_at_by : Size → World → ℕ → ℕ → Request → Route → World
read_at_by z w c place r (lists_at kind namespace number) = begun_unless z w c place r number (denied w.floor w.frontier number)
read_at_by z w c place r (gets k) = w
read_at_by z w c place r (lists kind namespace) = w
read_at_by z w c place r (writes k) = w
read_at_by z w c place r (compacts to) = w

abbrev pub read_at : Size → World → ℕ → Phase → World
read_at z w c (Called place r) = read_at_by z w c place r (route r)
read_at z w c _ = w

-- ---- Compact: the floor is set, unless the number is denied
abbrev pub floored : World → ℕ → ℕ → ℕ → Option Reason → World
floored w c place to (Some reason) = enters w c (Waiting 0 place (Refused reason))
floored w c place to None = record w { floor = to; phase = changed w.phase c (Waiting 0 place (Compacted to)) }

abbrev pub compacted_by : World → ℕ → ℕ → Route → World
compacted_by w c place (compacts to) = floored w c place to (denied w.floor w.frontier to)
compacted_by w c place (gets k) = w
compacted_by w c place (lists kind namespace) = w
compacted_by w c place (writes k) = w
compacted_by w c place (lists_at kind namespace number) = w

abbrev pub compacted : World → ℕ → Phase → World
compacted w c (Called place r) = compacted_by w c place (route r)
compacted w c _ = w

-- ---- Part: what the request reads of the next shard, at the number
abbrev pub reads : Route → Key → Bool
reads (gets k) q = eq_by_cmp key_cmp q k
reads (lists kind namespace) q = is_of kind namespace q
reads (lists_at kind namespace number) q = is_of kind namespace q
reads (writes k) q = false
reads (compacts to) q = false

abbrev pub objects_in : Size → Log → ℕ → Request → ℕ → Objects
objects_in z log number r s = map.retain_keys (state_at log number) (λ k. reads (route r) k && nat_eq (shard z k) s)

abbrev pub insert_all : List (Key × Object) → Objects → Objects
insert_all [] m = m
insert_all (e ∷ es) m = map.insert (insert_all es m) e.0 e.1

unfoldable pub with_part : Size → Log → ℕ → Request → ℕ → Objects → Objects
with_part z log number r s found = insert_all (map.entries (objects_in z log number r s)) found

abbrev pub part_of : Size → World → ℕ → ℕ → ℕ → Request → List ℕ → Objects → World
part_of z w c number place r [] found = w
part_of z w c number place r (s ∷ parts) found = enters w c (Reading number place r parts (with_part z w.log number r s found))

abbrev pub part : Size → World → ℕ → Phase → World
part z w c (Reading number place r parts found) = part_of z w c number place r parts found
part z w c _ = w

-- ---- Reply: once the frontier is at least what was seen, or all parts are read
abbrev pub with_reply : World → ℕ → Reply → World
with_reply w c reply = record w { phase = changed w.phase c Idle; trace = w.trace ++ item.Reply w.now c reply ∷ [] }

abbrev pub with_reply_if : Bool → World → ℕ → Reply → World
with_reply_if true w c reply = with_reply w c reply
with_reply_if false w c reply = w

-- a store that begins with this map at this number
abbrev pub only : Size → ℕ → Objects → Store
only z n m = record { objects = m; counter = n; capacity = z.capacity; floor = n; past = [] }

-- the reply to a read is what it has found
abbrev pub with_read_reply : Size → World → ℕ → ℕ → Request → List ℕ → Objects → World
with_read_reply z w c number r [] found = with_reply w c (store.step (only z number found) r).1
with_read_reply z w c number r (s ∷ parts) found = w

abbrev pub replied : Size → World → ℕ → Phase → World
replied z w c (Waiting saw place reply) = with_reply_if (nat_le saw w.frontier) w c reply
replied z w c (Reading number place r parts found) = with_read_reply z w c number r parts found
replied z w c _ = w

-- ---- Crash: a shard that was held is free, and a number that was allocated is still to be published
abbrev pub crashed : Size → World → ℕ → Phase → World
crashed z w c Idle = enters w c (Gone None)
crashed z w c (Called place r) = enters w c (Gone None)
crashed z w c (Holding t) = enters_with z w c t.key None (Gone None)
crashed z w c (Drawn d) = enters w c (Gone (Some d))
crashed z w c (Waiting saw place reply) = enters w c (Gone None)
crashed z w c (Reading number place r parts found) = enters w c (Gone None)
crashed z w c (Gone left) = w

abbrev pub happens : Size → World → Event → World
happens z w (Call c r) = called w c r (w.phase c)
happens z w (Check c) = checked z w c (w.phase c)
happens z w (Reserve c) = reserved z w c (w.phase c)
happens z w (Publish c) = published z w c (w.phase c)
happens z w Raise = raised w (w.log w.frontier)
happens z w (Read c) = read z w c (w.phase c)
happens z w (ReadAt c) = read_at z w c (w.phase c)
happens z w (Compact c) = compacted w c (w.phase c)
happens z w (Part c) = part z w c (w.phase c)
happens z w (event.Reply c) = replied z w c (w.phase c)
happens z w (Crash c) = crashed z w c (w.phase c)

-- each event has one place
abbrev pub later : World → World
later w = record w { now = suc w.now }

abbrev pub step : Size → World → Event → World
step z w e = later (happens z w e)
