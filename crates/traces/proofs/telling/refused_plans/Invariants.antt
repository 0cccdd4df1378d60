use Rattle.std.proofs.Common.{◌≡◌, ◌++◌, drop}
use Rattle.cluster_runs.specs.Ran.{owner_in}
use Rattle.traces.specs.RefusedPlans.{refused_plans, told_from}
use Rattle.traces.specs.Standing.{AreMade, phases_in}
use Rattle.traces.proofs.telling.refused_plans.Given as goal

-- what was found, and the plans of the items that are left, are together all refused plans
abbrev pub invariant-loop-item : goal.invariant-loop-item
invariant-loop-item l = record {
  told : l.found.items ++ told_from (owner_in l.owners) l.sets (phases_in l.standing) (drop l.item-index l.items) ≡ refused_plans (owner_in l.owners) l.sets l.items;
  made : AreMade (owner_in l.owners) l.sets l.standing;
}
