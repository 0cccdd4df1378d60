-- A refused plan as text for a person, as `30: web, controller 0: plan refused: Foreign web-1`.
use Rattle.std.specs.Prelude.{ℕ, List, [], ◌++◌, ◌==◌, Option, Some, None, codes, decimal, slice_get}
use Rattle.std.specs.List.{find}
use Rattle.std.specs.Option.{option_map_or}
use Rattle.set_views.specs.declared.fault.PlanError.{PlanError}
use Rattle.set_views.specs.declared.fault.PlanError.TheVariants.{Foreign}
use Rattle.plan_lines.specs.Refusals.{plan_error_name}
use Rattle.controllers.specs.declared.set_spec.SetSpec.{SetSpec}
use Rattle.traces.specs.declared.refused_plan.RefusedPlan.{RefusedPlan}

-- the pod that is not the set's
abbrev pub pod_words : PlanError → List ℕ
pod_words (Foreign pod) = codes " " ++ pod
pod_words e = []

abbrev pub refused_words : PlanError → List ℕ
refused_words e = codes "plan refused: " ++ (plan_error_name e ++ pod_words e)

-- the name of the controller's set; nothing if there is no such controller
abbrev pub set_name : List SetSpec → (controller : ℕ) → List ℕ
set_name sets c = option_map_or (λ (spec : SetSpec). spec.name) (slice_get sets c) []

-- `30: web, controller 0: `
abbrev pub refused_head : List SetSpec → (place controller : ℕ) → List ℕ
refused_head sets place c = decimal place ++ (codes ": " ++ (set_name sets c ++ (codes ", controller " ++ (decimal c ++ codes ": "))))

abbrev pub refused_line : List SetSpec → RefusedPlan → List ℕ
refused_line sets plan = refused_head sets plan.place plan.controller ++ (refused_words plan.reason ++ codes "\n")

-- nothing if no plan was refused
abbrev pub line_of : List SetSpec → Option RefusedPlan → List ℕ
line_of sets None = []
line_of sets (Some plan) = refused_line sets plan

-- The plan that was refused at an index, if any. A run shows one item at an index, so it has no two plans there.
abbrev pub plan_in : List RefusedPlan → (place : ℕ) → Option RefusedPlan
plan_in plans place = find (λ (plan : RefusedPlan). plan.place == place) plans

abbrev pub line_at : List SetSpec → List RefusedPlan → (place : ℕ) → List ℕ
line_at sets plans place = line_of sets (plan_in plans place)
