use Rattle.std.proofs.Common.{◌≡◌, [], drop}
use Rattle.controllers.specs.Cluster.{namespaces_from}
use Rattle.controllers.proofs.by_turns.namespaces_of.Given as goal

-- what is still to be noted comes from what was noted
abbrev pub invariant-loop-set : goal.invariant-loop-set
invariant-loop-set l = namespaces_from l.found.items (drop l.set-index l.sets) ≡ namespaces_from [] l.sets
