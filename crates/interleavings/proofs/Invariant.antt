-- What holds of the world after each event.
use Rattle.std.proofs.Common.{◌≡◌, ◌≢◌, ℕ, suc, ◌<◌, ◌≤◌, ◌⊎◌, true, List, [], ◌∷◌, Some, None}
use Rattle.std.specs.FinMap as map
use Rattle.objects.specs.declared.key.Key.{Key}
use Rattle.requests.specs.declared.request.Request.{Request}
use Rattle.requests.specs.declared.reply.Reply.{Reply}
use Rattle.requests.specs.Verdict.{verdict}
use Rattle.interleavings.specs.declared.trace.Item.{Item}
use Rattle.interleavings.specs.declared.trace.Item.TheVariants as item
use Rattle.plain_store.specs.Route.{route, writes}
use Rattle.plain_store.specs.Store.{Objects, step}
use Rattle.interleavings.specs.Log.{Log, Writing, state_at, value}
use Rattle.interleavings.specs.World.{Phase, Idle, Called, Holding, Drawn, Waiting, Reading, Gone, Size, World, shard}
use Rattle.interleavings.specs.Order.{Parked}
use Rattle.interleavings.specs.Step.{only, reads, accepted_reply}
use Rattle.interleavings.specs.Linearization.{Answers, Has, IsHistory, place_of}
use Rattle.interleavings.proofs.Jobs.{InTime, Job, Once, Tells, state_after}
use Rattle.interleavings.proofs.Plainly.{by_verdict, judge, moves, plainly, stays}

-- where a called request is: with its caller; set aside until the frontier passes a number; with the write of an index;
-- in the order
pub data Status : Type 0 where
  Live : ℕ → Status
  Aside : Status
  Queued : ℕ → Status
  Placed : Status

-- nothing was called at the place, or a request that now has this status
pub data Fate : Type 0 where
  New : Fate
  Known : Request → Status → Fate

-- What no code holds: the status of each place, who allocated each index, and for each key a number that all its writes
-- and parked requests are at or below, and all its open numbers are above; the order so far, and what is parked.
pub record Ghost : Type 0 where
  pub fate : ℕ → Fate
  pub taker : ℕ → ℕ
  pub settled : Key → ℕ
  pub jobs : List Job
  pub parked : List Parked

-- the order explains the trace so far
pub record Explains (z : Size) (trace : List Item) (now : ℕ) (order : List Job) (fate : ℕ → Fate) : Type 0 where
  pub listed : (j : Job) → Has j order → fate j.place ≡ Known j.request Placed
  pub once : Once order
  pub in_time : InTime trace order
  pub known : (p : ℕ) (q : Request) (st : Status) → fate p ≡ Known q st → (p < now) × ((c : ℕ) × Has (item.Call p c q) trace)
  pub answered : (at p : ℕ) (r : Reply) → Answers trace at p r → Tells z order p r
  pub dated : (i : Item) → Has i trace → place_of i < now
  pub history : IsHistory trace

-- ---- what holds of a caller in its phase
pub record HeldFacts (z : Size) (w : World) (g : Ghost) (c : ℕ) (t : Writing) (q : Request) : Type 0 where
  pub live : g.fate t.place ≡ Known q (Live c)
  pub holds : w.holder (shard z t.key) ≡ Some c
  pub routed : route q ≡ writes t.key

pub record HoldingFacts (z : Size) (w : World) (g : Ghost) (c : ℕ) (t : Writing) : Type 0 where
  pub request : Request
  pub held : HeldFacts z w g c t request
  pub judged : by_verdict (verdict request (value w.log w.drawn t.key)) ≡ moves t.change

pub record DrawnFacts (z : Size) (w : World) (g : Ghost) (c i : ℕ) (t : Writing) : Type 0 where
  pub request : Request
  pub held : HeldFacts z w g c t request
  pub ahead : w.frontier ≤ i
  pub below : i < w.drawn
  pub empty : w.log i ≡ None
  pub taken : g.taker i ≡ c
  pub later : g.settled t.key ≤ i
  pub judged : judge z i (value w.log i t.key) request ≡ moves t.change

-- a request that changes nothing has this reply over what its key is at the number s
pub record StaysFacts (z : Size) (log : Log) (b : Key → ℕ) (s : ℕ) (q : Request) (r : Reply) : Type 0 where
  pub key : Key
  pub routed : route q ≡ writes key
  pub settled : s ≤ b key
  pub judged : judge z s (value log s key) q ≡ stays r

-- a caller waits for a number: its request is parked there, or is the write of that number
pub data AwaitFacts (z : Size) (log : Log) (ps : List Parked) (φ : ℕ → Fate) (b : Key → ℕ) (c s p : ℕ) (r : Reply) : Type 0 where
  is_aside : (q : Request) → Has (record { number = s; caller = c; place = p }) ps → φ p ≡ Known q Aside → StaysFacts z log b s q r → AwaitFacts z log ps φ b c s p r
  is_queued : (i : ℕ) (t : Writing) → s ≡ suc i → log i ≡ Some t → t.place ≡ p → accepted_reply t.change (suc i) ≡ r → AwaitFacts z log ps φ b c s p r

pub record WaitingFacts (z : Size) (w : World) (g : Ghost) (c s p : ℕ) (r : Reply) : Type 0 where
  pub passed : s ≤ w.frontier → Tells z g.jobs p r
  pub awaits : w.frontier < s → AwaitFacts z w.log g.parked g.fate g.settled c s p r

pub record ReadingFacts (z : Size) (w : World) (g : Ghost) (n p : ℕ) (q : Request) (parts : List ℕ) (found : Objects) : Type 0 where
  pub past : n ≤ w.frontier
  pub tells : Tells z g.jobs p (step (only z n (state_at w.log n)) q).1
  pub no_write : (k : Key) → route q ≡ writes k → ⊥
  pub seen : (k : Key) → reads (route q) k ≡ true → (Has (shard z k) parts × (map.get found k ≡ None)) ⊎ (map.get found k ≡ value w.log n k)

abbrev pub PhaseFacts : Size → World → Ghost → ℕ → Phase → Type 0
PhaseFacts z w g c Idle = Unit {0}
PhaseFacts z w g c (Called p q) = g.fate p ≡ Known q (Live c)
PhaseFacts z w g c (Holding t) = HoldingFacts z w g c t
PhaseFacts z w g c (Drawn d) = DrawnFacts z w g c d.index d.writing
PhaseFacts z w g c (Waiting s p r) = WaitingFacts z w g c s p r
PhaseFacts z w g c (Reading n p q parts found) = ReadingFacts z w g n p q parts found
PhaseFacts z w g c (Gone None) = Unit {0}
PhaseFacts z w g c (Gone (Some d)) = DrawnFacts z w g c d.index d.writing

-- the caller's last call is at this place, and has no reply
pub record IsLastCall (trace : List Item) (c p : ℕ) : Type 0 where
  pub request : Request
  pub called : Has (item.Call p c request) trace
  pub last : (x : ℕ) (y : Request) → Has (item.Call x c y) trace → x ≤ p
  pub no_reply : (x : ℕ) (y : Reply) → Has (item.Reply x c y) trace → x < p

abbrev pub AllAnswered : List Item → ℕ → Type 0
AllAnswered trace c = (p : ℕ) (r : Request) → Has (item.Call p c r) trace → (at : ℕ) × ((reply : Reply) × Answers trace at p reply)

-- an idle caller has all its replies; any other is at its last call, unless it has crashed
abbrev pub Opens : List Item → ℕ → Phase → Type 0
Opens trace c Idle = AllAnswered trace c
Opens trace c (Called p q) = IsLastCall trace c p
Opens trace c (Holding t) = IsLastCall trace c t.place
Opens trace c (Drawn d) = IsLastCall trace c d.writing.place
Opens trace c (Waiting s p r) = IsLastCall trace c p
Opens trace c (Reading n p q parts found) = IsLastCall trace c p
Opens trace c (Gone left) = Unit {0}

-- ---- what holds of a write of the log, and of a parked request
pub record WritingFacts (z : Size) (w : World) (g : Ghost) (i : ℕ) (t : Writing) : Type 0 where
  pub request : Request
  pub routed : route request ≡ writes t.key
  pub settled : suc i ≤ g.settled t.key
  pub judged : judge z i (value w.log i t.key) request ≡ moves t.change
  pub queued : w.frontier ≤ i → g.fate t.place ≡ Known request (Queued i)

pub record ParkedFacts (z : Size) (w : World) (g : Ghost) (p : Parked) : Type 0 where
  pub ahead : w.frontier < p.number
  pub request : Request
  pub aside : g.fate p.place ≡ Known request Aside
  pub reply : Reply
  pub stays : StaysFacts z w.log g.settled p.number request reply

abbrev pub Apart : List Parked → Type 0
Apart [] = Unit {0}
Apart (p ∷ ps) = ((q : Parked) → Has q ps → q.place ≢ p.place) × Apart ps

pub record Invariant (z : Size) (w : World) (g : Ghost) : Type 0 where
  pub within : w.frontier ≤ w.drawn
  pub standing : w.floor ≤ w.frontier
  pub room : w.drawn ≤ z.capacity
  pub above : (i : ℕ) → w.drawn ≤ i → w.log i ≡ None
  pub bound : (k : Key) → g.settled k ≤ w.drawn
  pub state : state_after z g.jobs ≡ plainly z w.log w.floor w.frontier
  pub good : Explains z w.trace w.now g.jobs g.fate
  pub phases : (c : ℕ) → PhaseFacts z w g c (w.phase c)
  pub opens : (c : ℕ) → Opens w.trace c (w.phase c)
  pub writings : (i : ℕ) (t : Writing) → w.log i ≡ Some t → WritingFacts z w g i t
  pub asides : (p : Parked) → Has p g.parked → ParkedFacts z w g p
  pub apart : Apart g.parked
