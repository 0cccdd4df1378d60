-- Steps of a plan, one after another.
use Rattle.std.proofs.Common.{Result, refl}
use Rattle.set_views.specs.declared.fault.PlanError.{PlanError}
use Rattle.set_views.specs.declared.fault.PlanError.TheVariants as errors
use Rattle.set_views.specs.Steps.{◌>>=◌, Fails}

-- a step that refuses ends the plan
pub fails_then : {A B : Type 0} (e : PlanError) (r : Result A PlanError) (f : A → Result B PlanError) → Fails e r → Fails e (r >>= f)
fails_then errors.Memory r f h = tt
fails_then _ r f h = rw h refl
