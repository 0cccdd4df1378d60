-- What the seats of a line know with the notes, and what each call makes of it.
use Rattle.std.specs.Prelude.{◌≡◌, ℕ, ◌+◌, ◌-◌, List, [], ◌∷◌, ◌++◌, false, Option, Some, None}
use Rattle.line.specs.declared.view.View.{View}
use Rattle.line.specs.declared.view.NotedView.{NotedView}
use Rattle.line.specs.View.{first_view, one_fewer, shard_view, caller_view, drew, saw, looked}
use Rattle.line.specs.Notes.{observation}

abbrev pub made_after : Option ℕ → Option ℕ
made_after None = None
made_after (Some m) = Some (m + 1)

-- of no seat that can step
abbrev pub blank_view : View
blank_view = record { capacity = 0; seats = 0; filled = []; pending = None; spent = false; seen = 0; found = 0; loads = 0; tries = [] }

module _ {E : Type 0} where
  abbrev pub with_plain : NotedView E → View → NotedView E
  with_plain v p = record v { plain = p }

  -- ---- after a step

  -- the number n was drawn for the note e
  abbrev pub drew_noted : NotedView E → ℕ → E → NotedView E
  drew_noted v n e = record v { plain = drew v.plain n; notes = v.notes ++ (n, e) ∷ []; own_notes = v.own_notes ++ (n, e) ∷ [] }

  -- the same for the note that a call picked
  abbrev pub drew_for : Option E → NotedView E → ℕ → NotedView E
  drew_for None v n = v
  drew_for (Some e) v n = drew_noted v n e

  -- it learned that the frontier is at f, up to which the notes are s
  abbrev pub saw_noted : NotedView E → ℕ → List E → NotedView E
  saw_noted v f s = record v { plain = saw v.plain f; seen = s }

  -- it loaded the frontier f, up to which the notes are s
  abbrev pub looked_noted : NotedView E → ℕ → List E → NotedView E
  looked_noted v f s = record v { plain = looked v.plain f; seen = s }

  -- it was noted what the shard i has, when d numbers were drawn, and its floor
  abbrev pub observed : NotedView E → (i d floor : ℕ) → NotedView E
  observed v i d floor = record v { observations = v.observations ++ observation i d v.notes floor ∷ [] }

  -- its caller got the name c
  abbrev pub named : NotedView E → ℕ → NotedView E
  named v c = record v { caller = Some c; own_notes = [] }

  -- what a seat knows besides the notes seen stays
  abbrev pub KeepsNotes : NotedView E → NotedView E → Type 0
  KeepsNotes v w = (w.shard ≡ v.shard) × (w.caller ≡ v.caller) × (w.own_notes ≡ v.own_notes) × (w.reported ≡ v.reported) × (w.observations ≡ v.observations)

  -- ---- new seats

  -- the first seat of a line, from which the shards' seats are cut off
  abbrev pub first_noted : ℕ → NotedView E
  first_noted capacity = record { plain = first_view capacity; made = Some 0; shard = None; notes = []; caller = None; own_notes = []; seen = []; reported = []; observations = [] }

  -- the first seat, once one more shard's seat is cut off
  abbrev pub cut_off : NotedView E → NotedView E
  cut_off v = record v { plain = one_fewer v.plain; made = made_after v.made }

  -- the first seat, once so many shards' seats are cut off
  abbrev pub IsCut : ℕ → NotedView E → NotedView E → Type 0
  IsCut n v w = w ≡ record v { plain = record v.plain { seats = v.plain.seats - n }; made = Some n }

  -- the seat of the next shard
  abbrev pub shard_noted : NotedView E → NotedView E
  shard_noted v = record { plain = shard_view v.plain; made = None; shard = v.made; notes = []; caller = None; own_notes = []; seen = []; reported = []; observations = [] }

  -- another caller's seat, which has no name yet
  abbrev pub caller_noted : NotedView E → NotedView E
  caller_noted v = record { plain = caller_view v.plain; made = None; shard = None; notes = []; caller = None; own_notes = []; seen = v.seen; reported = []; observations = [] }

  -- ---- two seats

  -- a shard's seat v with a caller's seat w in it, after a report of what the shard's last caller had seen
  abbrev pub entered : NotedView E → NotedView E → NotedView E
  entered v w = record v { plain = record v.plain { seen = w.plain.seen; found = 0; loads = w.plain.loads; tries = w.plain.tries }; caller = w.caller; own_notes = w.own_notes; seen = w.seen; reported = v.seen; observations = w.observations }

  -- the shard's part of it, which knows of the frontier what the caller does
  abbrev pub stayed : NotedView E → NotedView E
  stayed v = record v { caller = None; own_notes = []; observations = [] }

  -- the caller's part of it
  abbrev pub left_with : NotedView E → NotedView E
  left_with v = record { plain = record (caller_view v.plain) { loads = v.plain.loads; tries = v.plain.tries }; made = None; shard = None; notes = []; caller = v.caller; own_notes = v.own_notes; seen = v.seen; reported = v.reported; observations = v.observations }

  -- a seat v after a report of what w has seen
  abbrev pub told : NotedView E → NotedView E → NotedView E
  told v w = record v { reported = w.seen }

  -- what is left of a seat that another took in
  abbrev pub left_over : NotedView E
  left_over = record { plain = blank_view; made = None; shard = None; notes = []; caller = None; own_notes = []; seen = []; reported = []; observations = [] }
