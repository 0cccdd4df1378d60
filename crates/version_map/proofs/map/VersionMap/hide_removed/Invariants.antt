use Rattle.std.proofs.Common.{◌≡◌}
use Rattle.version_map.proofs.map.VersionMap.hide_removed.Given as goal

abbrev pub invariant-loop : goal.invariant-loop
invariant-loop g l = l.self ≡ l.fn.self
