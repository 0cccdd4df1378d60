-- for private clauses: what was found of a set's revisions
use Rattle.std.specs.Prelude.{ℕ, Bool, false, List, [], Result, Ok, Err}
use Rattle.set_views.specs.declared.fault.PlanError.{PlanError}
use Rattle.set_views.specs.Steps.{is_memory}
use Rattle.revisions.specs.declared.plan.RevisionPlan.{RevisionPlan}
use Rattle.revisions.specs.declared.plan.RevisionPlan.TheVariants.{Create, Renumber, Settled}

abbrev pub name_found : Result RevisionPlan PlanError → List ℕ
name_found (Ok (Create o)) = []
name_found (Ok (Renumber o)) = []
name_found (Ok (Settled revisions)) = revisions.update.object.now.key.name
name_found (Err e) = []

abbrev pub is_out_of_memory : Result RevisionPlan PlanError → Bool
is_out_of_memory (Ok plan) = false
is_out_of_memory (Err e) = is_memory e
