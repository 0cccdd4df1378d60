-- Which plans of a run were refused, and at which index. Each incarnation of a controller is a caller of its own, so
-- the replies to that caller give its phase. After a crash the controller continues as another caller, which has read
-- nothing.
use Rattle.std.specs.Prelude.{ℕ, List, [], ◌∷◌, ◌++◌, Option, Some, None, slice_get}
use Rattle.requests.specs.declared.reply.Reply.{Reply}
use Rattle.interleavings.specs.declared.trace.Item.{Item}
use Rattle.interleavings.specs.declared.trace.Item.TheVariants as item
use Rattle.set_views.specs.declared.fault.PlanError.{PlanError}
use Rattle.rounds.specs.Phase.{Phase, reading_set, takes}
use Rattle.rounds.specs.World.{put}
use Rattle.controllers.specs.declared.set_spec.SetSpec.{SetSpec}
use Rattle.controllers.specs.Cluster.{reconciler_for}
use Rattle.controllers.specs.Controller.{Refusals, refusal_after, refusals_with}
use Rattle.traces.specs.declared.refused_plan.RefusedPlan.{RefusedPlan}

-- for each caller the number of the controller that it is or was, none for another client
abbrev pub Owners : Type 0
Owners = ℕ → Option ℕ

-- what the controller with the number is made of
abbrev pub set_of : List SetSpec → Option ℕ → Option SetSpec
set_of sets None = None
set_of sets (Some controller) = slice_get sets controller

-- ---- the phase of each caller in its round
abbrev pub Phases : Type 0
Phases = ℕ → Phase

abbrev pub none_read : Phases
none_read caller = reading_set

-- the phase of a controller of this set after a reply; for another client it stays as it is
abbrev pub phase_after : Option SetSpec → Phase → Reply → Phase
phase_after None phase reply = phase
phase_after (Some spec) phase reply = takes (reconciler_for spec) phase reply

abbrev pub phases_after : Owners → List SetSpec → Phases → Item → Phases
phases_after owners sets phases (item.Call place caller request) = phases
phases_after owners sets phases (item.Reply place caller reply) =
    put phases caller (phase_after (set_of sets (owners caller)) (phases caller) reply)

abbrev pub phases_from : Owners → List SetSpec → Phases → List Item → Phases
phases_from owners sets phases [] = phases
phases_from owners sets phases (i ∷ items) = phases_from owners sets (phases_after owners sets phases i) items

-- ---- the refusal at a reply
abbrev pub refusals_for : SetSpec → Refusals
refusals_for spec = refusals_with spec.digits spec.moment

-- why the plan is refused for which the reply completes the reading; none if it completes no reading, or the plan is
-- made
abbrev pub refusal_at : Option SetSpec → Phase → Reply → Option PlanError
refusal_at None phase reply = None
refusal_at (Some spec) phase reply = refusal_after (refusals_for spec) phase reply None

abbrev pub told : (place : ℕ) → Option ℕ → Option PlanError → List RefusedPlan
told place (Some c) (Some e) = record { place = place; controller = c; reason = e } ∷ []
told place controller reason = []

abbrev pub told_at : Owners → List SetSpec → Phases → Item → List RefusedPlan
told_at owners sets phases (item.Call place caller request) = []
told_at owners sets phases (item.Reply place caller reply) =
    told place (owners caller) (refusal_at (set_of sets (owners caller)) (phases caller) reply)

-- ---- those of a trace, from these phases of the callers on
abbrev pub told_from : Owners → List SetSpec → Phases → List Item → List RefusedPlan
told_from owners sets phases [] = []
told_from owners sets phases (i ∷ items) =
    told_at owners sets phases i ++ told_from owners sets (phases_after owners sets phases i) items

abbrev pub refused_plans : Owners → List SetSpec → List Item → List RefusedPlan
refused_plans owners sets items = told_from owners sets none_read items
