-- What is said of controllers that plan nothing when a race begins, as
-- `line 7: StatefulSet default/web has no plan when the race begins: Foreign web-1`.
use Rattle.std.specs.Prelude.{ℕ, List, [], ◌∷◌, ◌++◌, Option, Some, None, codes, decimal}
use Rattle.requests.specs.declared.request.Request.{Request}
use Rattle.plain_store.specs.Run.{after}
use Rattle.plain_store.specs.Store.{Store, opening}
use Rattle.set_views.specs.declared.fault.PlanError.{PlanError}
use Rattle.set_views.specs.declared.fault.PlanError.TheVariants.{Foreign}
use Rattle.plan_lines.specs.Refusals.{plan_error_name}
use Rattle.controllers.specs.declared.set_spec.SetSpec.{SetSpec}
use Rattle.first_rounds.specs.declared.notes.Standing.{Standing}
use Rattle.first_rounds.specs.declared.obstacle.Obstacle.{Obstacle}
use Rattle.first_rounds.specs.declared.obstacle.Obstacle.TheVariants.{NoSet, NoPlan}
use Rattle.first_rounds.specs.Obstacles.{first_obstacle}

-- `line 7: StatefulSet default/web`
abbrev pub head_words : (line : ℕ) → SetSpec → List ℕ
head_words line set = codes "line " ++ (decimal line ++ (codes ": StatefulSet " ++ (set.namespace ++ (codes "/" ++ set.name))))

-- the pod that is not the set's
abbrev pub pod_words : PlanError → List ℕ
pod_words (Foreign pod) = codes " " ++ pod
pod_words e = []

abbrev pub refusal_words : PlanError → List ℕ
refusal_words e = codes " has no plan when the race begins: " ++ (plan_error_name e ++ pod_words e)

abbrev pub obstacle_words : Obstacle → List ℕ
obstacle_words NoSet = codes " is not there when the race begins"
obstacle_words (NoPlan e) = refusal_words e

abbrev pub note_of : (line : ℕ) → SetSpec → Obstacle → List ℕ
note_of line set obstacle = head_words line set ++ (obstacle_words obstacle ++ codes "\n")

-- nothing if nothing stops it
abbrev pub note_if : (line : ℕ) → SetSpec → Option Obstacle → List ℕ
note_if line set None = []
note_if line set (Some obstacle) = note_of line set obstacle

-- the number of its line, and its set
abbrev pub standing_parts : Standing → ℕ × SetSpec
standing_parts c = (c.line, c.set.now)

abbrev pub note_at : Store → ℕ × SetSpec → List ℕ
note_at s c = note_if c.0 c.1 (first_obstacle c.1 s)

abbrev pub notes_over : Store → List (ℕ × SetSpec) → List ℕ
notes_over s [] = []
notes_over s (c ∷ cs) = note_at s c ++ notes_over s cs

-- over the store that these requests leave
unfoldable pub notes_text : (capacity : ℕ) → (beginning : List Request) → List (ℕ × SetSpec) → List ℕ
notes_text capacity beginning controllers = notes_over (after (opening capacity) beginning) controllers
