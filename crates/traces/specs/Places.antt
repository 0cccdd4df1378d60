-- The state of a caller, and of the frontier, in words.
use Rattle.std.specs.Prelude.{ℕ, ◌+◌, Bool, true, false, nat_le, List, ◌++◌, Option, Some, None, codes, decimal, if◌then◌else◌, ◌==◌}
use Rattle.history.specs.declared.caller_phase.FirstStep.{FirstStep}
use Rattle.history.specs.declared.caller_phase.FirstStep.TheVariants.{Write, Read, ReadAt, Compaction}
use Rattle.history.specs.declared.caller_phase.CallerPhase.{CallerPhase}
use Rattle.history.specs.declared.caller_phase.CallerPhase.TheVariants.{Idle, Called, Holding, Drawn, Waiting, Reading, Gone, Left}
use Rattle.traces.specs.declared.run_state.RunState.{RunState}

-- ---- `next is check, in shard 2`, and if the shard is held, `next is check, in shard 2, which is held`
abbrev pub check_words : (shard : ℕ) → (is_held : Bool) → List ℕ
check_words shard true = codes "next is check, in shard " ++ (decimal shard ++ codes ", which is held")
check_words shard false = codes "next is check, in shard " ++ decimal shard

abbrev pub first_step_words : FirstStep → (is_held : Bool) → List ℕ
first_step_words (Write shard) held = check_words shard held
first_step_words Read held = codes "next is read"
first_step_words ReadAt held = codes "next is readat"
first_step_words Compaction held = codes "next is compact"

-- ---- a reply is given once the frontier has reached what its caller saw
abbrev pub waiting_words : (saw frontier : ℕ) → List ℕ
waiting_words saw frontier =
    if nat_le saw frontier then codes "next is reply" else codes "waits for the frontier to reach " ++ decimal saw

-- ---- a reply is given once all shards have answered
abbrev pub reading_words : (number left : ℕ) → List ℕ
reading_words number left =
    if left == 0 then codes "has read at " ++ (decimal number ++ codes ", next is reply")
    else codes "reads at " ++ (decimal number ++ (codes ", parts left: " ++ decimal left))

abbrev pub drawn_words : (number shard : ℕ) → List ℕ
drawn_words number shard = codes "holds shard " ++ (decimal shard ++ (codes ", has drawn " ++ decimal number))

abbrev pub left_words : (number shard : ℕ) → List ℕ
left_words number shard = codes "gone, " ++ (decimal number ++ (codes " is still to be published in shard " ++ decimal shard))

abbrev pub caller_phase_words : CallerPhase → (is_held : Bool) → (frontier : ℕ) → List ℕ
caller_phase_words Idle held frontier = codes "idle"
caller_phase_words (Called first_step) held frontier = first_step_words first_step held
caller_phase_words (Holding shard) held frontier = codes "holds shard " ++ decimal shard
caller_phase_words (Drawn number shard) held frontier = drawn_words number shard
caller_phase_words (Waiting saw) held frontier = waiting_words saw frontier
caller_phase_words (Reading number shard left) held frontier = reading_words number left
caller_phase_words Gone held frontier = codes "gone"
caller_phase_words (Left number shard) held frontier = left_words number shard

-- ---- where the frontier is, and why it does not rise
abbrev pub frontier_words : (enabled : Bool) → (frontier : ℕ) → List ℕ
frontier_words true frontier = codes "the frontier is " ++ decimal frontier
frontier_words false frontier = codes "the frontier is " ++ (decimal frontier ++ (codes ", and " ++ (decimal (frontier + 1) ++ codes " is not filled")))

-- ---- for an event that names a caller the caller's state, and for a Raise, which names none, where the frontier is
abbrev pub place_words : (caller : Option ℕ) → (enabled : Bool) → (after : RunState) → List ℕ
place_words None enabled after = frontier_words enabled after.frontier
place_words (Some c) enabled after = caller_phase_words after.standing after.is_held after.frontier
