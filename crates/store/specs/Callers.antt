-- What contracts see of a caller, and how that changes from call to call.
use Rattle.std.specs.Prelude.{◌≡◌, ℕ, zero, suc, ◌<◌, ◌≤◌, List, [], ◌∷◌, ◌++◌, length, map}
use mathlib.Core.List.{IsPrefix}
use Rattle.line.specs.declared.view.Observation.{Observation}
use Rattle.line.specs.Notes.{notes_of, notes_up_to}
use Rattle.line.specs.Seat.{Line, LineName}
use Rattle.store.specs.declared.writing.Writing.{Writing}
use Rattle.store.specs.History.{IsHistory, by_of}

-- the line at hand is the one that is named
abbrev pub IsLine : LineName → ℕ → Line → Type 0
IsLine name capacity line = (line.name ≡ name) × (line.capacity ≡ capacity)

-- the most callers of one store
abbrev pub most_callers : ℕ
most_callers = 4096

-- a caller: its name; the history that it has seen, which is as long as the frontier that it loaded last; what another
-- caller that met it had seen; its own accepted writes with their numbers; what it noted of shards, one entry for each
-- time it held a lock; how often it loaded the frontier, and how often it looked whether the frontier can be raised
pub record Caller : Type 0 where
  pub name : ℕ
  pub seen : List Writing
  pub reported : List Writing
  pub own_notes : List (ℕ × Writing)
  pub observations : List (Observation Writing)
  pub loads : ℕ
  pub tries : ℕ

-- from one call to the next: it keeps its name and its own writes, and has seen no less
pub record GoesOn (c d : Caller) : Type 0 where
  pub name : d.name ≡ c.name
  pub own_notes : d.own_notes ≡ c.own_notes
  pub observations : IsPrefix c.observations d.observations
  pub begins : IsPrefix c.seen d.seen
  pub loads : c.loads ≤ d.loads

-- which shard it was, and from which number on that could be read
abbrev pub floor_noted : Observation Writing → ℕ × ℕ
floor_noted o = (o.shard, o.floor)

-- the shards 0, 1, .. of n, each with that floor
abbrev pub in_turn : (n floor : ℕ) → List (ℕ × ℕ)
in_turn zero floor = []
in_turn (suc n) floor = in_turn n floor ++ (n, floor) ∷ []

-- a caller noted the shards 0, 1, .. of n in turn, each under its lock and with that floor, and no others
abbrev pub HeldInTurn : (n floor : ℕ) → Caller → Caller → Type 0
HeldInTurn n floor c d = map floor_noted d.observations ≡ map floor_noted c.observations ++ in_turn n floor

-- a caller noted one shard, under its lock, that can't be read at n any more
abbrev pub FoundAbove : (n : ℕ) → Caller → Caller → Type 0
FoundAbove n c d = (o : Observation Writing) × (d.observations ≡ c.observations ++ o ∷ []) × (n < o.floor)

-- after a call that loaded the frontier at least once: what the caller has seen is a history, of whose writes its own
-- are just the accepted ones with a number up to its length, each at its number
pub record HasRead (capacity : ℕ) (c d : Caller) : Type 0 where
  pub on : GoesOn c d
  pub loaded : c.loads < d.loads
  pub history : IsHistory capacity d.seen
  pub own_there : notes_up_to (length d.seen) d.own_notes ≡ notes_of by_of d.name 1 d.seen
