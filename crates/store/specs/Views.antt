-- What seats know as they serve a caller and a shard.
use Rattle.std.specs.Prelude.{◌≡◌, ◌⊎◌, ℕ, ◌+◌, ◌<◌, ◌≤◌, true, false, List, [], ◌∷◌, ◌++◌, length, take, Option, Some, None, IsSome, IfSome}
use mathlib.Core.List.{IsPrefix}
use mathlib.Core.Option.{some}
use lib.ListN.{get_elem?}
use Rattle.std.specs.FinMap as finite
use Rattle.objects.specs.declared.object.Object.{Object}
use Rattle.requests.specs.declared.request.Request.{Request}
use Rattle.requests.specs.declared.reply.Reply.{Reply}
use Rattle.requests.specs.declared.reply.Reply.TheVariants.{Unchanged, Refused}
use Rattle.requests.specs.declared.reply.Reason.TheVariants.{StoreFull}
use Rattle.requests.specs.declared.verdict.Verdict.{Verdict}
use Rattle.requests.specs.declared.verdict.Verdict.TheVariants.{Refuse, Same, Write}
use Rattle.requests.specs.Change.{Change, accepted, stamp, version_of}
use Rattle.versions.specs.Records.{Records}
use Rattle.versions.specs.Shard.{Shard}
use Rattle.line.specs.declared.view.Observation.{Observation}
use Rattle.line.specs.declared.view.NotedView.{NotedView}
use Rattle.line.specs.Notes.{IsLegal, observation, name_of, notes_of, notes_up_to}
use Rattle.line.specs.NotedView.{drew_noted, with_plain, left_over}
use Rattle.line.specs.Seat.{LineName, Seat}
use Rattle.store.specs.declared.writing.Writing.{Writing}
use Rattle.store.specs.History.{Accepts, IsHistory, by_of, home_of}
use Rattle.store.specs.Callers.{Caller}
use Rattle.store.specs.Rule.{AgreesWith}
use Rattle.requests.specs.DrawnRevisions.{drew_revision}
use Rattle.store.specs.Tickets.{Ticket}

-- ---- a caller

abbrev pub view_or : Option (Seat Writing) → NotedView Writing
view_or None = left_over
view_or (Some s) = s.view

abbrev pub caller_by : NotedView Writing → Caller
caller_by v = record { name = name_of v.caller; seen = v.seen; reported = v.reported; own_notes = v.own_notes; observations = v.observations; loads = v.plain.loads; tries = length v.plain.tries }

-- no two own writes have the same count, and all counts are below the next one
pub record AreTagged (own : List (ℕ × Writing)) (next : ℕ) : Type 0 where
  pub below : (j : ℕ) (p : ℕ × Writing) → get_elem? own j ≡ some p → p.1.count < next
  pub apart : (j k : ℕ) (p q : ℕ × Writing) → get_elem? own j ≡ some p → get_elem? own k ≡ some q → p.1.count ≡ q.1.count → j ≡ k

-- what holds of a caller's seat, also while it is in a shard's
pub record IsCallerView (shards : ℕ) (v : NotedView Writing) : Type 0 where
  pub named : IsSome v.caller
  pub legal : IsLegal (home_of shards) Accepts v.seen
  pub own_there : notes_up_to (length v.seen) v.own_notes ≡ notes_of by_of (name_of v.caller) 1 v.seen
  pub long : length v.seen ≡ v.plain.seen
  pub tagged : AreTagged v.own_notes (length v.observations)

-- whenever no call is in progress, a caller has its seat
abbrev pub IsCaller : LineName → ℕ → Option (Seat Writing) → Type 0
IsCaller line shards None = ⊥
IsCaller line shards (Some s) = (s.line ≡ line) × IsCallerView shards s.view

-- after a load of the frontier f
pub record HasLoaded (shards capacity : ℕ) (c : Caller) (f : ℕ) (d : Caller) : Type 0 where
  pub name : d.name ≡ c.name
  pub own_notes : d.own_notes ≡ c.own_notes
  pub observations : d.observations ≡ c.observations
  pub loads : d.loads ≡ c.loads + 1
  pub begins : IsPrefix c.seen d.seen
  pub long : length d.seen ≡ f
  pub within : f ≤ capacity
  pub legal : IsLegal (home_of shards) Accepts d.seen
  pub history : IsHistory capacity d.seen
  -- of the caller's own writes exactly those up to there are in what is now seen, each at its number
  pub own_there : notes_up_to (length d.seen) d.own_notes ≡ notes_of by_of d.name 1 d.seen
  -- what was observed of shards is so in what is now seen
  pub shown : (k m : ℕ) (x : Observation Writing) → get_elem? c.observations k ≡ some x → m ≤ x.drawn → m ≤ f → notes_up_to m x.notes ≡ notes_of (home_of shards) x.shard 1 (take m d.seen)

-- the caller after a call, which has seen no more
pub record Stays (c d : Caller) : Type 0 where
  pub name : d.name ≡ c.name
  pub own_notes : d.own_notes ≡ c.own_notes
  pub observations : IsPrefix c.observations d.observations
  pub loads : d.loads ≡ c.loads
  pub seen : d.seen ≡ c.seen

-- a caller noted what the shard i has, when so many numbers were drawn, and its floor
pub record HasObserved (shards capacity i : ℕ) (notes : List (ℕ × Writing)) (floor : ℕ) (c : Caller) (count : ℕ) (d : Caller) : Type 0 where
  pub name : d.name ≡ c.name
  pub own_notes : d.own_notes ≡ c.own_notes
  pub observations : d.observations ≡ c.observations ++ observation i count notes floor ∷ []
  pub loads : d.loads ≡ c.loads
  pub seen : d.seen ≡ c.seen
  pub within : count ≤ capacity
  pub drawn : length c.seen ≤ count
  pub all : notes_up_to count notes ≡ notes
  pub legal : IsLegal (home_of shards) Accepts c.seen
  pub shown : notes_up_to (length c.seen) notes ≡ notes_of (home_of shards) i 1 c.seen

-- ---- a write

-- the note of a write by the caller in a shard's seat
abbrev pub writing_by : NotedView Writing → Request → Change → Writing
writing_by v request change = record { by = name_of v.caller; count = length v.observations; request = request; change = change }

-- a number was drawn for a write, and filled
abbrev pub IsPublished : NotedView Writing → ℕ → Writing → NotedView Writing → Type 0
IsPublished v n w u = (u ≡ with_plain (drew_noted v n w) u.plain) × (u.plain.seen ≡ v.plain.seen) × (u.plain.capacity ≡ v.plain.capacity) × (u.plain.pending ≡ None) × (u.plain.loads ≡ v.plain.loads)

-- the reply to a write that changes nothing
abbrev pub Unwritten : Verdict → Reply → Type 0
Unwritten (Refuse reason) reply = reply ≡ Refused reason
Unwritten (Same o) reply = reply ≡ Unchanged o
Unwritten (Write c) reply = ⊥

-- the ticket of a write that was published at a number, with its reply, or found all numbers drawn
abbrev pub ticket_by : ℕ → Request → ℕ → Option (ℕ × Reply) → Ticket
ticket_by capacity request since None = record { request = request; since = since; saw = capacity; place = capacity; reply = Some (Refused StoreFull) }
ticket_by capacity request since (Some p) = record { request = request; since = since; saw = p.0; place = p.0; reply = Some p.1 }

-- the number of a newest record, 0 if there is none
abbrev pub number_in : Option (ℕ × Option Object) → ℕ
number_in None = 0
number_in (Some p) = p.0

-- how a write changes its shard's notes: an accepted one is added, at its place; any other changes nothing
abbrev pub WritesNotes : List (ℕ × Writing) → Ticket → List (ℕ × Writing) → Type 0
WritesNotes old t new = (IfSome t.reply (λ r. drew_revision r ≡ false) × (new ≡ old)) ⊎ (IfSome t.reply (λ r. drew_revision r ≡ true) × ((w : Writing) × (new ≡ old ++ (t.place, w) ∷ []) × (w.request ≡ t.request)))

-- What a write does to the records of its shard, by its verdict over the newest one of its key, which has the number
-- `newest`: its ticket, and the records afterwards. Only an accepted one adds a record, at its place.
abbrev pub IsOutcome : (capacity : ℕ) → Records → (newest : ℕ) → Verdict → Ticket → Records → Type 0
IsOutcome capacity old newest (Refuse reason) t new = (t.reply ≡ Some (Refused reason)) × (t.saw ≡ newest) × (new ≡ old)
IsOutcome capacity old newest (Same o) t new = (t.reply ≡ Some (Unchanged o)) × (t.saw ≡ newest) × (new ≡ old)
IsOutcome capacity old newest (Write c) t new =
    ((t.reply ≡ Some (accepted c (stamp c t.place))) × (new ≡ finite.insert old t.place (version_of c t.place)))
    ⊎ ((t.reply ≡ Some (Refused StoreFull)) × (t.saw ≡ capacity) × (new ≡ old))

-- what a part of a write leaves, by a shard's seat with a caller's in it whose view was v: the shard s and the view u
pub record Holds (shards : ℕ) (v : NotedView Writing) (s : Shard) (u : NotedView Writing) : Type 0 where
  pub shard : u.shard ≡ v.shard
  pub seen : u.seen ≡ v.seen
  pub frontier : u.plain.seen ≡ v.plain.seen
  pub loads : u.plain.loads ≡ v.plain.loads
  pub pending : u.plain.pending ≡ None
  pub agrees : AgreesWith s u
  pub caller : IsCallerView shards u
