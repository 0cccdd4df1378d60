use Rattle.std.proofs.Common.{◌≡◌}
use Rattle.version_map.specs.Versions.{compacted, count}
use Rattle.version_map.proofs.map.VersionMap.compact.Given as goal

-- all but the rows is as it was, and what compaction leaves of them is the same
abbrev pub invariant-loop : goal.invariant-loop
invariant-loop g l =
    (l.self.floor ≡ l.fn.self.floor) × (l.self.room ≡ l.fn.self.room) × (compacted l.self.rows l.number ≡ compacted l.fn.self.rows l.number)

abbrev pub decreases-loop : goal.decreases-loop
decreases-loop g l = count l.self.rows
