-- What stops the first round of a controller: its set is not in the store, or the plan over what the store has is refused.
use Rattle.std.specs.Prelude.{ℕ, List, Option, Some, None, Result, option_map}
use Rattle.std.specs.FinMap as map
use Rattle.objects.specs.declared.kind.Kind.{Kind}
use Rattle.objects.specs.declared.kind.Kind.TheVariants.{StatefulSet, Pod, PersistentVolumeClaim, ControllerRevision}
use Rattle.objects.specs.declared.object.Object.{Object}
use Rattle.objects.specs.Key.{key_parts}
use Rattle.plain_store.specs.Store.{Store, collection}
use Rattle.set_views.specs.declared.fault.PlanError.{PlanError}
use Rattle.set_views.specs.SetReading.{set_of}
use Rattle.set_views.specs.Steps.{◌>>=◌}
use Rattle.sets.specs.declared.action.Action.{Action}
use Rattle.sets.specs.PlanOfLists.{plan_of_lists}
use Rattle.controllers.specs.declared.set_spec.SetSpec.{SetSpec}
use Rattle.controllers.specs.Controller.{refusals_with}
use Rattle.first_rounds.specs.declared.obstacle.Obstacle.{Obstacle}
use Rattle.first_rounds.specs.declared.obstacle.Obstacle.TheVariants.{NoSet, NoPlan}

-- what the store lists in the namespace of the set
abbrev pub listed : SetSpec → Store → Kind → List Object
listed spec s kind = collection s.objects kind spec.namespace

-- why the plan for the set is refused, if it is
unfoldable pub refusal_over : SetSpec → Store → Object → Option PlanError
refusal_over spec s set = refusals_with spec.digits spec.moment set (listed spec s ControllerRevision) (listed spec s Pod) (listed spec s PersistentVolumeClaim)

abbrev pub obstacle_at : SetSpec → Store → Option Object → Option Obstacle
obstacle_at spec s None = Some NoSet
obstacle_at spec s (Some set) = option_map NoPlan (refusal_over spec s set)

unfoldable pub first_obstacle : SetSpec → Store → Option Obstacle
first_obstacle spec s = obstacle_at spec s (map.get s.objects (key_parts StatefulSet spec.namespace spec.name))

-- ---- for private clauses

-- the actions of the plan for a set, over these lists
abbrev pub actions_for : Object → (digits : ℕ) → (revisions pods claims : List Object) → Result (List Action) PlanError
actions_for o digits revisions pods claims = set_of o >>= λ set. plan_of_lists set digits revisions pods claims
