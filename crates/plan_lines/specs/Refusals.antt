-- The names of a plan's refusals.
use Rattle.std.specs.Prelude.{ℕ, List, codes}
use Rattle.set_views.specs.declared.fault.PlanError.{PlanError}
use Rattle.set_views.specs.declared.fault.PlanError.TheVariants as errors

abbrev pub plan_error_name : PlanError → List ℕ
plan_error_name errors.NameTooLong = codes "NameTooLong"
plan_error_name errors.BadSpec = codes "BadSpec"
plan_error_name (errors.Foreign name) = codes "Foreign"
plan_error_name errors.OrdinalTooLarge = codes "OrdinalTooLarge"
plan_error_name errors.NoRevisionName = codes "NoRevisionName"
plan_error_name errors.Memory = codes "Memory"
