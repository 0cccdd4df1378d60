-- The rule of a line with notes: the plain rule, and that all seats know parts of one log.
use Rattle.std.specs.Prelude.{◌≡◌, ℕ, ◌<◌, ◌≤◌, List, length, take, map, Option, Some, None}
use mathlib.Core.Option.{some}
use mathlib.Core.List.{IsPrefix}
use lib.ListN.{get_elem?}
use Rattle.line.specs.declared.view.View.{View}
use Rattle.line.specs.declared.view.Observation.{Observation}
use Rattle.line.specs.declared.view.NotedView.{NotedView}
use Rattle.line.specs.Rule.{Rule, drawn_of, frontier_of}
use Rattle.line.specs.Notes.{IsLegal, notes_of}

abbrev pub zero_if : Option ℕ → Option ℕ
zero_if None = None
zero_if (Some n) = Some 0

module _ {E : Type 0} where
  abbrev pub plain_of : NotedView E → View
  plain_of v = v.plain

  abbrev pub shard_of : NotedView E → Option ℕ
  shard_of v = v.shard

  abbrev pub caller_of : NotedView E → Option ℕ
  caller_of v = v.caller

  -- whether shards' seats are cut off it
  abbrev pub cutter_of : NotedView E → Option ℕ
  cutter_of v = zero_if v.made

  -- no two seats are of the same
  abbrev pub IsApart : (NotedView E → Option ℕ) → List (NotedView E) → Type 0
  IsApart g vs = (j k i : ℕ) (v w : NotedView E) → get_elem? vs j ≡ some v → get_elem? vs k ≡ some w → g v ≡ Some i → g w ≡ Some i → j ≡ k

  module _ (home : E → ℕ) where
    -- these were the shard's notes when so many numbers were drawn
    abbrev pub IsTrueObservation : List E → Observation E → Type 0
    IsTrueObservation log o = (o.drawn ≤ length log) × (o.notes ≡ notes_of home o.shard 1 (take o.drawn log))

    -- so many shards' seats were cut off, and no note is of another shard
    pub record AreCutOff (made : ℕ) (log : List E) (vs : List (NotedView E)) : Type 0 where
      pub noted : (n : ℕ) (e : E) → get_elem? log n ≡ some e → home e < made
      pub seats : (j i : ℕ) (v : NotedView E) → get_elem? vs j ≡ some v → v.shard ≡ Some i → i < made
      pub cutter : (j m : ℕ) (v : NotedView E) → get_elem? vs j ≡ some v → v.made ≡ Some m → m ≡ made

  -- callers' names are from 1 and below this, also those in the log
  pub record AreBelow (by : E → ℕ) (most : ℕ) (log : List E) (vs : List (NotedView E)) : Type 0 where
    pub first : 0 < most
    pub noted : (n : ℕ) (e : E) → get_elem? log n ≡ some e → by e < most
    pub named : (j c : ℕ) (v : NotedView E) → get_elem? vs j ≡ some v → v.caller ≡ Some c → (0 < c) × (c < most)

  module _ (home by : E → ℕ) where
    -- what the seat knows is so in the log
    pub record IsTrueOf (log : List E) (v : NotedView E) : Type 0 where
      -- the notes of a shard's seat are all those of its shard, and a caller's own are all those of the caller
      pub of_shard : (i : ℕ) → v.shard ≡ Some i → v.notes ≡ notes_of home i 1 log
      pub of_caller : (c : ℕ) → v.caller ≡ Some c → v.own_notes ≡ notes_of by c 1 log
      pub seen : IsPrefix v.seen log
      pub long : length v.seen ≡ v.plain.seen
      pub observations : (k : ℕ) (o : Observation E) → get_elem? v.observations k ≡ some o → IsTrueObservation home log o

    module _ (accepts : List (ℕ × E) → E → Type 0) where
      pub record NotedRule (capacity : ℕ) (words : List ℕ) (views : List (NotedView E)) : Type 0 where
        pub kept : Rule capacity words (map plain_of views)
        -- the notes of the numbers drawn, which never change
        pub log : List E
        pub long : length log ≡ drawn_of capacity words
        pub legal : IsLegal home accepts log
        pub each : (j : ℕ) (v : NotedView E) → get_elem? views j ≡ some v → IsTrueOf log v
        pub reported : (j : ℕ) (v : NotedView E) → get_elem? views j ≡ some v → IsPrefix v.reported log × (length v.reported ≤ frontier_of words)
        -- no two seats are of one shard, of one caller, or cut shards' seats off
        pub most : ℕ
        pub below : AreBelow by most log views
        pub count : ℕ
        pub made : AreCutOff home count log views
        pub shards : IsApart shard_of views
        pub callers : IsApart caller_of views
        pub cutters : IsApart cutter_of views
