-- Steps of a plan, each of which gives a value or the first refusal.
use Rattle.std.specs.Prelude.{Result, Bool, true, false}
pub use Rattle.objects.specs.Steps.{◌>>=◌, required, guarded}
use Rattle.objects.specs.Steps.{FailsUnless, GivesUnless}
use Rattle.set_views.specs.declared.fault.PlanError.{PlanError}
use Rattle.set_views.specs.declared.fault.PlanError.TheVariants as errors

abbrev pub is_memory : PlanError → Bool
is_memory errors.BadSpec = false
is_memory errors.OrdinalTooLarge = false
is_memory errors.NameTooLong = false
is_memory (errors.Foreign name) = false
is_memory errors.NoRevisionName = false
is_memory errors.Memory = true

-- the plan refuses with e; nothing is said if memory ran out
abbrev pub Fails : {A : Type 0} → PlanError → Result A PlanError → Type 0
Fails e planned = FailsUnless is_memory e planned

-- what a function returned, seen by view, is what is planned, unless memory ran out
abbrev pub Gives : {A B : Type 0} → (A → B) → Result A PlanError → Result B PlanError → Type 0
Gives view result planned = GivesUnless is_memory view result planned
