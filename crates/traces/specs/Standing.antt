-- for private clauses: the controllers that follow the callers of a run
use Rattle.std.specs.Prelude.{◌≡◌, ◌==◌, ℕ, List, Option, Some, None, IfSome, if◌then◌else◌}
use Rattle.std.specs.BTreeMap.{BTreeMap, get}
use Rattle.std.specs.Option.{option_map_or}
use Rattle.std.specs.Ordering.{nat_cmp}
use Rattle.requests.specs.declared.reply.Reply.{Reply}
use Rattle.rounds.specs.Phase.{reading_set, takes}
use Rattle.controllers.specs.declared.controller.Controller.{Controller}
use Rattle.controllers.specs.declared.set_spec.SetSpec.{SetSpec}
use Rattle.controllers.specs.Cluster.{reconciler_for}
use Rattle.controllers.specs.Controller.{phase_of, reconciler_of, refusal_of, refusals_of}
use Rattle.traces.specs.RefusedPlans.{Owners, Phases, refusals_for, set_of}

abbrev pub Standing : Type 0
Standing = BTreeMap ℕ Controller

-- the phase of each caller: one that no controller follows yet has read nothing
abbrev pub phases_in : Standing → Phases
phases_in standing caller = option_map_or phase_of (get nat_cmp standing caller) reading_set

-- a controller of that set, with no refusal left to report
pub record IsOf (spec : SetSpec) (controller : Controller) : Type 0 where
  pub reconciler : reconciler_of controller ≡ reconciler_for spec
  pub refusals : refusals_of controller ≡ refusals_for spec
  pub refusal : refusal_of controller ≡ None

abbrev pub IsMadeOf : Option SetSpec → Controller → Type 0
IsMadeOf None controller = ⊥
IsMadeOf (Some spec) controller = IsOf spec controller

-- each caller is followed by a controller of its set
abbrev pub AreMade : Owners → List SetSpec → Standing → Type 0
AreMade owners sets standing = (n : ℕ) → IfSome (get nat_cmp standing n) (IsMadeOf (set_of sets (owners n)))

-- the controller that follows the caller has handled the reply
pub record HasHeard (spec : SetSpec) (caller : ℕ) (reply : Reply) (old new : Standing) : Type 0 where
  pub now : Controller
  pub is_of : IsOf spec now
  pub phase : phase_of now ≡ takes (reconciler_for spec) (phases_in old caller) reply
  pub entries : (n : ℕ) → get nat_cmp new n ≡ (if caller == n then Some now else get nat_cmp old n)
