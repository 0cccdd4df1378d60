-- What the pieces of a replay show of the world, and of the order that is built.
use Rattle.std.specs.Prelude.{◌≡◌, ℕ, suc, ◌+◌, ◌-◌, ◌<◌, ◌≤◌, Bool, true, false, cond, nat_eq, nat_le, List, [], ◌∷◌, ◌++◌, length, get_or, Option, Some, None, option_map}
use Rattle.std.specs.BTreeMap.{get}
use Rattle.std.specs.Option.{option_map_or}
use Rattle.std.specs.Ordering.{nat_cmp}
use Rattle.requests.specs.declared.reply.Reply.{Reply}
use Rattle.requests.specs.declared.reply.Reply.TheVariants.{Compacted, Refused}
use Rattle.requests.specs.declared.reply.Reason.{Reason}
use Rattle.requests.specs.declared.request.Request.{Request}
use Rattle.requests.specs.declared.version.Version.{Version}
use Rattle.plain_store.specs.Reached.{most_revisions}
use Rattle.plain_store.specs.Route.{Route, compacts, gets, lists, lists_at, route}
use Rattle.plain_store.specs.Store.{Objects, step}
use Rattle.requests.specs.Change.{kept}
use Rattle.objects.specs.declared.kind.Kind.{Kind}
use Rattle.versions.specs.Records.{Records, version_at}
use Rattle.versions.specs.Shard as versions
use Rattle.versions.specs.Shard.{Shard}
use Rattle.history.specs.declared.callers.CallerPhases.{CallerPhases}
use Rattle.history.specs.declared.decision.Decision.{Decision}
use Rattle.history.specs.declared.decision.Decision.TheVariants.{Hold, Wait}
use Rattle.interleavings.specs.declared.event.Event.{Event}
use Rattle.interleavings.specs.declared.event.Event.TheVariants.{Check}
use Rattle.interleavings.specs.declared.event.Event.TheVariants as event
use Rattle.history.specs.declared.machine.Machine.{Machine}
use Rattle.history.specs.declared.parking.Parking.{Parking}
use Rattle.history.specs.declared.parking.Waiter.{Waiter}
use Rattle.history.specs.declared.phase.Draw.{Draw as CodeDraw}
use Rattle.history.specs.declared.phase.Phase.{Phase as CodePhase}
use Rattle.history.specs.declared.phase.Phase.TheVariants as code
use Rattle.history.specs.declared.phase.Writing.{Writing as CodeWriting}
use Rattle.interleavings.specs.declared.trace.Item.{Item}
use Rattle.interleavings.specs.declared.trace.Item.TheVariants as item
use Rattle.interleavings.specs.Log.{Log, Writing, state_at}
use Rattle.history.specs.Mirrors.{IsCompacted, Mirrors}
use Rattle.interleavings.specs.Order.{Arrangement, Parked, arranged, arrangement, beginning, last_or_parked, moved, with_last}
use Rattle.interleavings.specs.Step.{step as step_world}
use Rattle.interleavings.specs.Step.{begun, enters, with_reply, happens, only, replied, accepted_reply}
use Rattle.interleavings.specs.Trace.{after}
use Rattle.interleavings.specs.World.{Draw, Phase, Idle, Called, Holding, Drawn, Waiting, Reading, Gone, Size, World, changed, opening, shard}
use Rattle.history.specs.Begun.{is_open}
use Rattle.interleavings.specs.Facts.{Facts}
use Rattle.interleavings.specs.Spared.{IsLeastRead}

-- ---- callers
abbrev pub writing_of : CodeWriting → Writing
writing_of t = record { place = t.place; key = t.key; change = t.change }

abbrev pub draw_of : CodeDraw → Draw
draw_of d = record { index = d.index; writing = writing_of d.writing }

-- a caller's phase; of a read only how many parts are left
abbrev pub IsShown : CodePhase → Phase → Type 0
IsShown code.Idle ph = ph ≡ Idle
IsShown (code.Called p r) ph = ph ≡ Called p r
IsShown (code.Holding t) ph = ph ≡ Holding (writing_of t)
IsShown (code.Drawn d) ph = ph ≡ Drawn (draw_of d)
IsShown (code.Waiting s p r) ph = ph ≡ Waiting s p r
IsShown (code.Reading n p r left) ph = (parts : List ℕ) × ((found : Objects) × ((ph ≡ Reading n p r parts found) × (length parts ≡ left)))
IsShown code.Gone ph = ph ≡ Gone None
IsShown (code.Left d) ph = ph ≡ Gone (Some (draw_of d))
IsShown code.Dropped ph = ph ≡ Gone None

abbrev pub or_idle : Option CodePhase → CodePhase
or_idle None = code.Idle
or_idle (Some ph) = ph

abbrev pub named_phase : CallerPhases → ℕ → Option CodePhase
named_phase callers c = get nat_cmp callers.phases c

abbrev pub phase_at : CallerPhases → ℕ → CodePhase
phase_at callers c = or_idle (named_phase callers c)

abbrev pub is_dropped : CodePhase → Bool
is_dropped code.Dropped = true
is_dropped phase = false

abbrev pub drops : CallerPhases → ℕ → Bool
drops callers c = is_dropped (phase_at callers c)

abbrev pub is_idle : CodePhase → Bool
is_idle code.Idle = true
is_idle phase = false

-- whether the caller's request is still to be decided
abbrev pub is_undecided : CodePhase → Bool
is_undecided (code.Called p r) = true
is_undecided (code.Holding t) = true
is_undecided phase = false

abbrev pub is_replying : CodePhase → Bool
is_replying (code.Waiting s p r) = true
is_replying (code.Reading n p r left) = true
is_replying phase = false

abbrev pub called_in : CodePhase → Option (ℕ × Request)
called_in (code.Called p r) = Some (p, r)
called_in phase = None

abbrev pub holding_in : CodePhase → Option CodeWriting
holding_in (code.Holding t) = Some t
holding_in phase = None

abbrev pub waiting_in : CodePhase → Option (ℕ × Reply)
waiting_in (code.Waiting s p r) = Some (s, r)
waiting_in phase = None

abbrev pub reading_in : CodePhase → Option (ℕ × Request × ℕ)
reading_in (code.Reading n p r left) = Some (n, r, left)
reading_in phase = None

abbrev pub drawn_in : CodePhase → Option CodeDraw
drawn_in (code.Drawn d) = Some d
drawn_in (code.Left d) = Some d
drawn_in phase = None

abbrev pub is_called : CodePhase → Bool
is_called (code.Called p r) = true
is_called phase = false

-- ---- the next phase of a caller that allocates an index, whose draw is published, that begins to read, of whose read
-- one more shard is read, and that crashes; any other phase stays
abbrev pub with_draw : ℕ → CodePhase → CodePhase
with_draw i (code.Holding t) = code.Drawn (record { index = i; writing = t })
with_draw i phase = phase

abbrev pub published_phase : CodePhase → CodePhase
published_phase (code.Drawn d) = code.Waiting (d.index + 1) d.writing.place (accepted_reply d.writing.change (d.index + 1))
published_phase (code.Left d) = code.Gone
published_phase phase = phase

abbrev pub begun_phase : ℕ → ℕ → CodePhase → CodePhase
begun_phase number left (code.Called p r) = code.Reading number p r left
begun_phase number left phase = phase

abbrev pub parted : CodePhase → CodePhase
parted (code.Reading n p r left) = code.Reading n p r (left - 1)
parted phase = phase

abbrev pub gone_phase : CodePhase → CodePhase
gone_phase (code.Drawn d) = code.Left d
gone_phase (code.Waiting s p r) = code.Dropped
gone_phase (code.Left d) = code.Left d
gone_phase code.Dropped = code.Dropped
gone_phase phase = code.Gone

-- whether a phase reads at a number
abbrev pub reads_at : ℕ → CodePhase → Bool
reads_at n p = option_map_or (λ t. nat_eq t.0 n) (reading_in p) false

-- the reads that are open are those of the phases
abbrev pub IsTracked : CallerPhases → Type 0
IsTracked callers = (n c : ℕ) → is_open callers.open_reads n c ≡ reads_at n (phase_at callers c)

-- the caller is in this phase, and each other where it was
abbrev pub Replaces : CallerPhases → CallerPhases → ℕ → CodePhase → Type 0
Replaces old new c ph = (d : ℕ) → named_phase new d ≡ cond (nat_eq d c) (Some ph) (named_phase old d)

-- and the reads that are open are still those of the phases
abbrev pub Enters : CallerPhases → CallerPhases → ℕ → CodePhase → Type 0
Enters old new c ph = Replaces old new c ph × (IsTracked old → IsTracked new)

abbrev pub Same : CallerPhases → CallerPhases → Type 0
Same old new = ((d : ℕ) → named_phase new d ≡ named_phase old d) × (IsTracked old → IsTracked new)

-- ---- what a request that was called reads of now, or at a number, and the floor that it sets
abbrev pub parts_in : ℕ → Route → Option ℕ
parts_in shards (gets k) = Some 1
parts_in shards (lists kind namespace) = Some shards
parts_in shards other = None

abbrev pub exact_in : Route → Option ℕ
exact_in (lists_at kind namespace number) = Some number
exact_in other = None

abbrev pub floor_in : Route → Option ℕ
floor_in (compacts to) = Some to
floor_in other = None

-- ---- what is parked
abbrev pub lot_at : Parking → ℕ → List Waiter
lot_at parking n = option_map_or (λ lot. lot.items) (get nat_cmp parking.lots n) []

-- those parked at a number, first to last
abbrev pub waiters_at : ℕ → List Parked → List Waiter
waiters_at n [] = []
waiters_at n (p ∷ ps) = cond (nat_eq p.number n) (record { caller = p.caller; place = p.place } ∷ waiters_at n ps) (waiters_at n ps)

-- without those whose caller has crashed
abbrev pub staying : (ℕ → Bool) → List Waiter → List Waiter
staying gone [] = []
staying gone (x ∷ xs) = cond (gone x.caller) (staying gone xs) (x ∷ staying gone xs)

-- ---- the pieces together
abbrev pub shard_at : List Shard → ℕ → Shard
shard_at shards s = get_or shards s versions.opening

-- the log, by the shards, which are compacted to a number, and by the places of the calls whose numbers are filled
pub record ShowsLog (z : Size) (log : Log) (drawn : ℕ) (places : List (Option ℕ)) (shards : List Shard) (compacted : ℕ) : Type 0 where
  pub drawn_is : length places ≡ drawn
  pub filled : (i : ℕ) → get_or places i None ≡ option_map (λ t. t.place) (log i)
  pub count : length shards ≡ z.shards
  pub mirrors : (s : ℕ) → s < z.shards → Mirrors z log drawn s (shard_at shards s).records (shard_at shards s).floor
  pub floors : (s : ℕ) → s < z.shards → (shard_at shards s).floor ≡ compacted

-- the phase reads at no lower number
abbrev pub IsUnread : ℕ → Phase → Type 0
IsUnread low (Reading n p r parts found) = low ≤ n
IsUnread low ph = Unit {0}

-- the first i shards are compacted to a number, and the others unchanged
pub record AreCompacted (n i : ℕ) (old new : List Shard) : Type 0 where
  pub count : length new ≡ length old
  pub each : (s : ℕ) → s < i → IsCompacted n (shard_at old s) (shard_at new s)
  pub others : (s : ℕ) → i ≤ s → shard_at new s ≡ shard_at old s

-- who holds the shards
pub record ShowsSeats (z : Size) (holder : ℕ → Option ℕ) (holders : List (Option ℕ)) : Type 0 where
  pub count : length holders ≡ z.shards
  pub same : (s : ℕ) → s < z.shards → get_or holders s None ≡ holder s

pub record Shows (z : Size) (w : World) (a : Arrangement) (m : Machine) : Type 0 where
  pub capacity : m.capacity ≡ z.capacity
  pub small : z.capacity ≤ most_revisions
  pub frontier : m.frontier ≡ w.frontier
  pub floor : m.floor ≡ w.floor
  pub place : m.now_at ≡ w.now
  pub items : m.items.items ≡ w.trace
  pub order : m.order.items ≡ a.order
  pub log : ShowsLog z w.log w.drawn m.places.items m.shards.items m.compacted
  pub seats : ShowsSeats z w.holder m.holders.items
  pub phases : (c : ℕ) → IsShown (phase_at m.callers c) (w.phase c)
  pub tracked : IsTracked m.callers
  -- nothing is read below what the shards are compacted to
  pub low : m.compacted ≤ w.floor
  pub unread : (c : ℕ) → IsUnread m.compacted (w.phase c)
  pub parked : (n : ℕ) → waiters_at n a.parked ≡ staying (drops m.callers) (lot_at m.parking n)

-- ---- what one event does

-- whatever was shown is still shown, and the shards are compacted no further
unfoldable pub Keeps : Machine → Machine → Type 0
Keeps old new = (new.compacted ≡ old.compacted) × ((z : Size) (w : World) (a : Arrangement) → Shows z w a old → Shows z w a new)

-- that, and each caller has the same phase as before, or none if no event had named it
unfoldable pub Stays : Machine → Machine → Type 0
Stays old new = Keeps old new × ((c : ℕ) → named_phase new.callers c ≡ named_phase old.callers c)

-- the request of a caller is put into the order, or parked
unfoldable pub Settles : ℕ → ℕ → ℕ → Machine → Machine → Type 0
Settles saw c place old new = (z : Size) (w : World) (a : Arrangement) → Shows z w a old → Shows z w (last_or_parked (nat_le saw w.frontier) saw c place a) new

-- and the caller waits
unfoldable pub Waits : ℕ → ℕ → ℕ → Reply → Machine → Machine → Type 0
Waits c saw place reply old new = (z : Size) (w : World) (a : Arrangement) → Shows z w a old → Shows z (enters w c (Waiting saw place reply)) (last_or_parked (nat_le saw w.frontier) saw c place a) new

-- the caller's write holds its shard
unfoldable pub Holds : ℕ → ℕ → Writing → Machine → Machine → Type 0
Holds c s t old new = (z : Size) (w : World) (a : Arrangement) → Shows z w a old → Shows z (record w { holder = changed w.holder s (Some c); phase = changed w.phase c (Holding t) }) a new

-- the caller begins to read at a number, with so many parts
unfoldable pub Begins : ℕ → ℕ → ℕ → ℕ → Machine → Machine → Type 0
Begins c place number left old new = (z : Size) (w : World) (a : Arrangement) (r : Request) (parts : List ℕ) → Shows z w a old → w.phase c ≡ Called place r → length parts ≡ left
    → Shows z (begun w c number place r parts) (with_last a place) new

-- the caller gets a reply
unfoldable pub Tells : ℕ → Reply → Machine → Machine → Type 0
Tells c reply old new = (z : Size) (w : World) (a : Arrangement) → Shows z w a old → Shows z (with_reply w c reply) a new

-- the caller's wait or its read is over, and this is its reply
unfoldable pub IsDelivered : Size → World → ℕ → Reply → Phase → Type 0
IsDelivered z w c reply ph = (replied z w c ph ≡ with_reply w c reply) × ((a : Arrangement) → moved w.frontier c ph Idle a ≡ a)

-- the reply to a read at a number is that of a store with what was there
unfoldable pub Answers : ℕ → Request → Reply → Machine → Type 0
Answers number r reply m = (z : Size) (w : World) (a : Arrangement) → Shows z w a m → Facts z w → reply ≡ (step (only z number (state_at w.log number)) r).1

-- the reply that a caller can get now, or that it can get none
abbrev pub IsDue : ℕ → Option Reply → Machine → Type 0
IsDue c None m = (z : Size) (w : World) (a : Arrangement) → Shows z w a m → Facts z w → replied z w c (w.phase c) ≡ w
IsDue c (Some reply) m = (is_replying (phase_at m.callers c) ≡ true) × ((z : Size) (w : World) (a : Arrangement) → Shows z w a m → Facts z w → IsDelivered z w c reply (w.phase c))

-- a list at a number is read at that number
abbrev pub IsNumbered : ℕ → Request → Type 0
IsNumbered n r = (kind : Kind) (namespace : List ℕ) (number : ℕ) → route r ≡ lists_at kind namespace number → number ≡ n

-- the reply to a compaction
abbrev pub compaction_at : (number to : ℕ) → Option Reason → Reply
compaction_at number to None = Compacted to
compaction_at number to (Some reason) = Refused reason

-- the records of each shard
abbrev pub records_of : Machine → ℕ → Records
records_of m s = (shard_at m.shards.items s).records

-- the places of those that wait
abbrev pub places_in : List Waiter → List ℕ
places_in [] = []
places_in (x ∷ xs) = x.place ∷ places_in xs

-- a write of an index is put into its shard, its number is filled, and the shard is free
unfoldable pub Fills : (s index place : ℕ) → Version → Machine → Machine → Type 0
Fills s i place v old new = (z : Size) (w : World) (a : Arrangement) (t : Writing) → Shows z w a old → t.place ≡ place → v ≡ version_at t.key (kept t.change (suc i)) → shard z t.key ≡ s
    → i < w.drawn → w.log i ≡ None → ((j : ℕ) → w.drawn ≤ j → w.log j ≡ None)
    → Shows z (record w { log = changed w.log i (Some t); holder = changed w.holder s None }) a new

-- the machine shows the world after the event
unfoldable pub Does : Event → Machine → Machine → Type 0
Does e old new = (z : Size) (w : World) (a : Arrangement) → Shows z w a old → Facts z w → Shows z (happens z w e) (arranged w e (happens z w e) a) new

-- what the check of a caller does
abbrev pub IsDecision : ℕ → Option Decision → Machine → Type 0
IsDecision c None m = Does (Check c) m m
IsDecision c (Some (Wait saw place reply)) m = (is_undecided (phase_at m.callers c) ≡ true) × ((m' : Machine) → Waits c saw place reply m m' → Does (Check c) m m')
IsDecision c (Some (Hold s t)) m = (is_called (phase_at m.callers c) ≡ true) × ((s < length m.holders.items) × ((m' : Machine) → Holds c s (writing_of t) m m' → Does (Check c) m m'))

-- a machine that some run leads to
abbrev pub Stands : Machine → Type 0
Stands m = (z : Size) × ((w : World) × ((a : Arrangement) × (Shows z w a m × Facts z w)))

-- what a reply adds to the trace
abbrev pub delivered_at : ℕ → ℕ → Option Reply → List Item
delivered_at place caller None = []
delivered_at place caller (Some reply) = item.Reply place caller reply ∷ []

-- only a Reply gives a reply: what it adds to the trace
abbrev pub IsAnswer : Event → Machine → Machine → Option Reply → Type 0
IsAnswer (event.Reply c) old new delivered = new.items.items ≡ old.items.items ++ delivered_at old.now_at c delivered
IsAnswer other old new delivered = delivered ≡ None

-- whatever was shown is still shown, and the shards are compacted to the greatest number below which nothing is read
unfoldable pub Thins : Machine → Machine → Type 0
Thins old new = (z : Size) (w : World) (a : Arrangement) → Shows z w a old → Shows z w a new × IsLeastRead w new.compacted

-- the machine shows the world after the event, its place is counted, and the shards are compacted
unfoldable pub Steps : Event → Machine → Machine → Type 0
Steps e old new = (z : Size) (w : World) (a : Arrangement) → Shows z w a old → Facts z w → Shows z (step_world z w e) (arranged w e (step_world z w e) a) new × IsLeastRead (step_world z w e) new.compacted

-- the machine of a run of these events
pub record IsRun (z : Size) (events : List Event) (m : Machine) : Type 0 where
  pub some : 0 < z.shards
  pub count : m.now_at ≡ length events
  pub shows : Shows z (after z opening events) (arrangement z opening beginning events) m
  pub compacted : IsLeastRead (after z opening events) m.compacted
