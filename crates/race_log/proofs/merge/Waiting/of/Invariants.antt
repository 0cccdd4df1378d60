use Rattle.std.specs.List.{flat_map}
use Rattle.race_log.specs.Merge.{part_events}
use Rattle.race_log.specs.Waiting.{Holds}
use Rattle.race_log.proofs.merge.Waiting.of.Given as goal

abbrev pub invariant-loop-part : goal.invariant-loop-part
invariant-loop-part l = Holds l.waiting (flat_map part_events l.yielded)
