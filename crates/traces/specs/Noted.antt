-- The text of notes, by index.
use Rattle.std.specs.Prelude.{ℕ, ◌==◌, List, Option, Some, None, option_map, if◌then◌else◌}
use Rattle.std.specs.Borrow.{Bor}
use Rattle.std.specs.BTreeMap.{BTreeMap, get}
use Rattle.std.specs.Ordering.{nat_cmp}
use Rattle.traces.specs.declared.refused_notes.RefusedNotes.{RefusedNotes}
use Rattle.traces.specs.declared.refused_plan.RefusedPlan.{RefusedPlan}
use Rattle.traces.specs.RefusedLines.{line_of}

abbrev pub noted_in : BTreeMap ℕ (Bor RefusedPlan) → ℕ → Option RefusedPlan
noted_in noted place = option_map (λ r. r.now) (get nat_cmp noted place)

-- the plan, if it was refused at the index
abbrev pub plan_if : (place : ℕ) → RefusedPlan → Option RefusedPlan
plan_if place plan = if plan.place == place then Some plan else None

-- the text at an index
unfoldable pub note_in : RefusedNotes → (place : ℕ) → List ℕ
note_in notes place = line_of notes.sets.now (noted_in notes.by_place place)
