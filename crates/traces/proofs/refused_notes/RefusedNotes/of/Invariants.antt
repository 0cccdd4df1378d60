use Rattle.std.proofs.Common.{◌≡◌, ℕ, drop}
use Rattle.std.specs.Option.{option_or}
use Rattle.traces.specs.Noted.{noted_in}
use Rattle.traces.specs.RefusedLines.{plan_in}
use Rattle.traces.proofs.refused_notes.RefusedNotes.of.Given as goal

abbrev pub invariant-loop-plan : goal.invariant-loop-plan
invariant-loop-plan l = (place : ℕ) → option_or (noted_in l.by_place place) (plan_in (drop l.plan-index l.plans) place) ≡ plan_in l.plans place
