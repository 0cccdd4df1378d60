use Rattle.std.proofs.Common.{◌≡◌, map, take}
use Rattle.std.specs.List.{AllByRecursion}
use Rattle.rounds.specs.Phase.{reading_set}
use Rattle.controllers.specs.Cluster.{reconciler_for}
use Rattle.controllers.specs.Controller.{phase_of, reconciler_of}
use Rattle.controllers.proofs.cluster.controllers_of.Given as goal

-- those made so far
abbrev pub invariant-loop-set : goal.invariant-loop-set
invariant-loop-set l = record {
  made : map reconciler_of l.controllers.items ≡ map reconciler_for (take l.set-index l.sets);
  begun : AllByRecursion (λ c. phase_of c ≡ reading_set) l.controllers.items;
}
