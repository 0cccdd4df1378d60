use Rattle.version_map.specs.Forgotten.{AreForgotten}
use Rattle.version_map.proofs.map.VersionMap.forget_removed.Given as goal

abbrev pub invariant-loop : goal.invariant-loop
invariant-loop g l = AreForgotten l.fn.self l.self
