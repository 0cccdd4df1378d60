-- What a seat learns by each kind of step that it makes, with the notes: how its view v becomes w, if the word was
-- found to be n.
use Rattle.std.specs.Prelude.{◌≡◌, ℕ, ◌+◌, ◌<◌, ◌≤◌, max, All, List, [], length, take, true, Option, Some, None}
use mathlib.Core.Option.{some}
use mathlib.Core.List.{IsPrefix}
use lib.ListN.{get_elem?}
use Rattle.line.specs.declared.view.Observation.{Observation}
use Rattle.line.specs.declared.view.NotedView.{NotedView}
use Rattle.line.specs.View.{used_up}
use Rattle.line.specs.Steps.{Fills, Tries}
use Rattle.line.specs.Notes.{IsLegal, name_of, notes_of, notes_up_to}
use Rattle.line.specs.NotedView.{drew_noted, looked_noted, named, observed, saw_noted, with_plain}

module _ {E : Type 0} where
  module _ (home by : E → ℕ) (accepts : List (ℕ × E) → E → Type 0) where
    -- The notes s from 1 to f are those of a legal log, and match all that a seat with the view v knew.
    pub record Matches (v : NotedView E) (f : ℕ) (s : List E) : Type 0 where
      -- they begin with what was seen before, and with what was reported
      pub more : IsPrefix v.seen s
      pub reported : IsPrefix v.reported s
      pub long : length s ≡ f
      pub legal : IsLegal home accepts s
      -- the shard's notes up to f are those seen, and so are the caller's own
      pub of_shard : (i : ℕ) → v.shard ≡ Some i → notes_up_to f v.notes ≡ notes_of home i 1 s
      pub of_caller : (c : ℕ) → v.caller ≡ Some c → notes_up_to f v.own_notes ≡ notes_of by c 1 s
      -- what was observed of a shard is so in the notes seen, up to each number
      pub observations : (k m : ℕ) (o : Observation E) → get_elem? v.observations k ≡ some o → m ≤ o.drawn → m ≤ f → notes_up_to m o.notes ≡ notes_of home o.shard 1 (take m s)

    -- the frontier is raised to k, if it is not higher
    abbrev pub LiftsNoted : ℕ → NotedView E → ℕ → NotedView E → Type 0
    LiftsNoted k v n w = (w ≡ saw_noted v (max n k) w.seen) × Matches v (max n k) w.seen × (v.plain.seen ≤ n) × (max n k ≤ v.plain.capacity)

    -- the frontier is loaded
    abbrev pub LooksNoted : NotedView E → ℕ → NotedView E → Type 0
    LooksNoted v n w = (w ≡ looked_noted v n w.seen) × Matches v n w.seen × (v.plain.seen ≤ n) × (n ≤ v.plain.capacity)

    -- What holds of the seat v of the shard i, with a caller in it, when d numbers are drawn.
    pub record IsObserved (v : NotedView E) (i d : ℕ) : Type 0 where
      pub within : d ≤ v.plain.capacity
      pub seen : length v.seen ≤ d
      -- all notes of the shard have numbers up to d, and a spent seat found all numbers drawn
      pub all : notes_up_to d v.notes ≡ v.notes
      pub spent : v.plain.spent ≡ true → d ≡ v.plain.capacity
      pub legal : IsLegal home accepts v.seen
      -- as far as was seen, the shard's notes and the caller's are those seen
      pub of_shard : notes_up_to (length v.seen) v.notes ≡ notes_of home i 1 v.seen
      pub of_caller : (c : ℕ) → v.caller ≡ Some c → notes_up_to (length v.seen) v.own_notes ≡ notes_of by c 1 v.seen
      pub long : length v.seen ≡ v.plain.seen

    -- what the shard has is noted with its floor, by a load of the frontier whose value is not used
    abbrev pub Observes : (floor : ℕ) → NotedView E → NotedView E → Type 0
    Observes floor v w = (i d : ℕ) × (v.shard ≡ Some i) × IsObserved v i d × (w ≡ observed v i d floor)

    -- the caller gets a name that no other has, by such a load too
    abbrev pub IsNamed : NotedView E → NotedView E → Type 0
    IsNamed v w = (c : ℕ) × (w ≡ named v c) × IsLegal home accepts v.seen × (notes_of by c 1 v.seen ≡ []) × (length v.seen ≡ v.plain.seen)

    -- whether the shard's seat may draw a number for the note: it is of this shard, of the caller in the seat, and accepted over the shard's notes
    abbrev pub MayDraw : Option E → NotedView E → Type 0
    MayDraw None v = ⊥
    MayDraw (Some e) v = (v.shard ≡ Some (home e)) × (by e ≡ name_of v.caller) × accepts v.notes e

  -- a number is drawn for the note, above all that the seat knows of, or all were drawn before
  abbrev pub DrawsNoted : Option E → NotedView E → ℕ → NotedView E → Type 0
  DrawsNoted None v n w = Unit {0}
  DrawsNoted (Some e) v n w = (n < v.plain.capacity → (w ≡ drew_noted v (n + 1) e) × All (λ x. x ≤ n) v.plain.filled × (notes_up_to n v.notes ≡ v.notes) × (v.plain.seen ≤ n)) × (v.plain.capacity ≤ n → w ≡ with_plain v (used_up v.plain))

  -- the mark at that word is set
  abbrev pub FillsNoted : ℕ → NotedView E → NotedView E → Type 0
  FillsNoted word v w = (w ≡ with_plain v w.plain) × Fills word v.plain w.plain

  -- the mark at that word is loaded
  abbrev pub TriesNoted : ℕ → NotedView E → ℕ → NotedView E → Type 0
  TriesNoted word v n w = (w ≡ with_plain v w.plain) × Tries word v.plain n w.plain
