-- What contracts see of a line and of its seats.
use Rattle.std.specs.Prelude.{◌≡◌, ℕ, ◌+◌, ◌<◌, nat_lt, List, [], ◌∷◌, ◌++◌, Bool, false, Option, Some, None}
use Rattle.atomic_table.specs.Seated.{TableId}
use mathlib.Core.Option.{some}
use lib.ListN.{get_elem?}
use Rattle.line.specs.declared.view.View.{View}
use Rattle.line.specs.declared.view.NotedView.{NotedView}
use Rattle.line.specs.NotedView.{first_noted, shard_noted}

-- what names a line
abbrev pub LineName : Type 0
LineName = TableId

-- the name of no line
abbrev pub no_line : LineName
no_line = record { words = 0; slots = 0; views_name = 0; atom = 0; block = 0; offset = 0; slot_names = [] }

-- a line with the numbers from 1 to the capacity
pub record Line : Type 0 where
  pub name : LineName
  pub capacity : ℕ

-- a shard's seat: the numbers that it filled in the order of its draws, its open number, and whether it found all numbers drawn
pub record ShardSeat : Type 0 where
  pub line : LineName
  pub filled : List ℕ
  pub pending : Option ℕ
  pub spent : Bool

-- a caller's seat: the highest frontier that it knows of, how often it loaded the frontier, and the numbers whose marks it looked at, each with whether the mark was set
pub record CallerSeat : Type 0 where
  pub line : LineName
  pub seen : ℕ
  pub loads : ℕ
  pub tries : List (ℕ × Bool)

abbrev pub new_shard_seat : LineName → ShardSeat
new_shard_seat line = record { line = line; filled = []; pending = None; spent = false }

abbrev pub new_caller_seat : LineName → ℕ → CallerSeat
new_caller_seat line seen = record { line = line; seen = seen; loads = 0; tries = [] }

-- a seat of a line, and what it knows
pub record Seat (E : Type 0) : Type 0 where
  pub line : LineName
  pub view : NotedView E

abbrev pub shard_seat : {E : Type 0} → Seat E → ShardSeat
shard_seat s = record { line = s.line; filled = s.view.plain.filled; pending = s.view.plain.pending; spent = s.view.plain.spent }

abbrev pub caller_seat : {E : Type 0} → Seat E → CallerSeat
caller_seat s = record { line = s.line; seen = s.view.plain.seen; loads = s.view.plain.loads; tries = s.view.plain.tries }

-- a new shard's seat, the i-th of a line
abbrev pub new_shard : {E : Type 0} → LineName → ℕ → ℕ → Seat E
new_shard line capacity i = record { line = line; view = record (shard_noted (first_noted capacity)) { shard = Some i } }

abbrev pub AreShards : {E : Type 0} → LineName → ℕ → List (Seat E) → Type 0
AreShards line capacity seats = (i : ℕ) (s : Seat _) → get_elem? seats i ≡ some s → s ≡ new_shard line capacity i

-- after its open number n was filled
abbrev pub after_fill : ShardSeat → ℕ → ShardSeat
after_fill s n = record s { filled = s.filled ++ n ∷ []; pending = None }

-- after one load of the frontier, which found f
abbrev pub after_load : CallerSeat → ℕ → CallerSeat
after_load s f = record s { seen = f; loads = s.loads + 1 }

-- after a look at the mark of the number after what it had seen, when it then knows of the frontier f: the mark was set
-- exactly if f is higher than what it had seen
abbrev pub after_try : CallerSeat → ℕ → CallerSeat
after_try s f = record s { seen = f; tries = s.tries ++ (s.seen + 1, nat_lt s.seen f) ∷ [] }

-- a seat at that table, with that view, is one of the line's
abbrev pub IsOf : LineName → TableId → View → Type 0
IsOf line table v = (table ≡ line) × (line.words ≡ v.capacity + 2) × (0 < v.capacity)
