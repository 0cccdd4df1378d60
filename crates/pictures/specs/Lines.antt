-- The line of each event that is enabled, by its index and by its caller's state before and after it. Callers are named
-- `C` and their number, shards `S` and their index, and the frontier `F`. An event that is not enabled has no line.
use Rattle.std.specs.Prelude.{ℕ, suc, ◌-◌, ◌+◌, Bool, true, false, List, [], ◌++◌, Option, Some, None, codes, decimal}
use Rattle.requests.specs.declared.request.Request.{Request}
use Rattle.requests.specs.declared.reply.Reply.{Reply}
use Rattle.history.specs.declared.caller_phase.FirstStep.TheVariants.{Write, Read, ReadAt, Compaction}
use Rattle.history.specs.declared.caller_phase.CallerPhase.{CallerPhase}
use Rattle.history.specs.declared.caller_phase.CallerPhase.TheVariants.{Idle, Called, Holding, Drawn, Waiting, Reading, Gone, Left}
use Rattle.pictures.specs.Labels.{reply_words, request_words}

-- ---- the forms of a line: `FROM ARROW TO: PLACE: TEXT`, and `Note over WHO: PLACE: TEXT`
abbrev pub labelled : (place : ℕ) → (text : List ℕ) → List ℕ
labelled place text = codes ": " ++ (decimal place ++ (codes ": " ++ text))

abbrev pub caller_to_shard : (caller shard place : ℕ) → (text : List ℕ) → List ℕ
caller_to_shard c s place text = codes "    C" ++ (decimal c ++ (codes "->>S" ++ (decimal s ++ labelled place text)))

abbrev pub caller_to_frontier : (caller place : ℕ) → (text : List ℕ) → List ℕ
caller_to_frontier c place text = codes "    C" ++ (decimal c ++ (codes "->>F" ++ labelled place text))

abbrev pub shard_to_caller : (shard caller place : ℕ) → (text : List ℕ) → List ℕ
shard_to_caller s c place text = codes "    S" ++ (decimal s ++ (codes "-->>C" ++ (decimal c ++ labelled place text)))

abbrev pub frontier_to_caller : (caller place : ℕ) → (text : List ℕ) → List ℕ
frontier_to_caller c place text = codes "    F-->>C" ++ (decimal c ++ labelled place text)

abbrev pub note_over_caller : (caller place : ℕ) → (text : List ℕ) → List ℕ
note_over_caller c place text = codes "    Note over C" ++ (decimal c ++ labelled place text)

abbrev pub note_over_shard : (shard place : ℕ) → (text : List ℕ) → List ℕ
note_over_shard s place text = codes "    Note over S" ++ (decimal s ++ labelled place text)

abbrev pub note_over_frontier : (place : ℕ) → (text : List ℕ) → List ℕ
note_over_frontier place text = codes "    Note over F" ++ labelled place text

-- ---- Call
abbrev pub call_line : (place caller : ℕ) → Request → (before : CallerPhase) → List ℕ
call_line place c r Idle = note_over_caller c place (request_words r ++ codes "\n")
call_line place c r _ = []

-- ---- Check: an accepted write holds its shard. Another one is refused or changes nothing, and waits for the frontier to
-- reach what it saw
abbrev pub checked_line : (place caller shard : ℕ) → (after : CallerPhase) → List ℕ
checked_line place c s (Holding held) = caller_to_shard c s place (codes "check, holds the shard\n")
checked_line place c s (Waiting saw) = caller_to_shard c s place (codes "check, not accepted, sees " ++ (decimal saw ++ codes "\n"))
checked_line place c s _ = []

abbrev pub check_line : (place caller : ℕ) → (before after : CallerPhase) → List ℕ
check_line place c (Called (Write s)) after = checked_line place c s after
check_line place c _ after = []

-- ---- Reserve
abbrev pub drawn_line : (place caller : ℕ) → (after : CallerPhase) → List ℕ
drawn_line place c (Drawn number s) = note_over_caller c place (codes "draws " ++ (decimal number ++ codes "\n"))
drawn_line place c (Waiting saw) = note_over_caller c place (codes "no number is left\n")
drawn_line place c _ = []

abbrev pub reserve_line : (place caller : ℕ) → (before after : CallerPhase) → List ℕ
reserve_line place c (Holding s) after = drawn_line place c after
reserve_line place c _ after = []

-- ---- Publish: if the next number after the frontier is then not filled, a second line says so
abbrev pub hole_line : (can_rise : Bool) → (frontier : ℕ) → List ℕ
hole_line true frontier = []
hole_line false frontier = codes "    Note over F: hole at " ++ (decimal (frontier + 1) ++ codes "\n")

abbrev pub published_line : (place caller number shard : ℕ) → List ℕ
published_line place c number s = caller_to_shard c s place (codes "publish " ++ (decimal number ++ codes "\n"))

abbrev pub left_line : (place caller number shard : ℕ) → List ℕ
left_line place c number s =
    note_over_shard s place (codes "publish " ++ (decimal number ++ (codes " of caller " ++ (decimal c ++ codes "\n"))))

abbrev pub publish_lines : (place caller : ℕ) → (before : CallerPhase) → (can_rise : Bool) → (frontier : ℕ) → List ℕ
publish_lines place c (Drawn number s) can_rise frontier = published_line place c number s ++ hole_line can_rise frontier
publish_lines place c (Left number s) can_rise frontier = left_line place c number s ++ hole_line can_rise frontier
publish_lines place c _ can_rise frontier = []

-- ---- Raise
abbrev pub raise_line : (place : ℕ) → (could_rise : Bool) → (frontier : ℕ) → List ℕ
raise_line place true frontier = note_over_frontier place (codes "raised to " ++ (decimal frontier ++ codes "\n"))
raise_line place false frontier = []

-- ---- Read, ReadAt and Compact
abbrev pub begun_line : (place caller : ℕ) → (after : CallerPhase) → List ℕ
begun_line place c (Reading number s left) = caller_to_frontier c place (codes "read at " ++ (decimal number ++ codes "\n"))
begun_line place c (Waiting saw) = caller_to_frontier c place (codes "read, denied\n")
begun_line place c _ = []

abbrev pub read_line : (place caller : ℕ) → (before after : CallerPhase) → List ℕ
read_line place c (Called Read) after = begun_line place c after
read_line place c _ after = []

abbrev pub read_at_line : (place caller : ℕ) → (before after : CallerPhase) → List ℕ
read_at_line place c (Called ReadAt) after = begun_line place c after
read_at_line place c _ after = []

abbrev pub compact_line : (place caller : ℕ) → (before : CallerPhase) → List ℕ
compact_line place c (Called Compaction) = caller_to_frontier c place (codes "compact\n")
compact_line place c _ = []

-- ---- Part: of the shard of a get, or of the first shard of a list that has not answered
abbrev pub answering : (shards : ℕ) → (of_get : Option ℕ) → (left : ℕ) → ℕ
answering shards (Some s) left = s
answering shards None left = shards - left

abbrev pub part_line : (shards place caller : ℕ) → (before : CallerPhase) → List ℕ
part_line shards place c (Reading number of_get (suc left)) =
    shard_to_caller (answering shards of_get (suc left)) c place (codes "part at " ++ (decimal number ++ codes "\n"))
part_line shards place c _ = []

-- ---- Reply
abbrev pub reply_line : (place caller : ℕ) → Option Reply → List ℕ
reply_line place c (Some reply) = frontier_to_caller c place (reply_words reply ++ codes "\n")
reply_line place c None = []

-- ---- Crash
abbrev pub crash_line : (place caller : ℕ) → (before : CallerPhase) → List ℕ
crash_line place c Gone = []
crash_line place c (Left number s) = []
crash_line place c _ = codes "    C" ++ (decimal c ++ (codes "-xF" ++ labelled place (codes "crash\n")))
