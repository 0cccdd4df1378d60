use Rattle.std.proofs.Common.{List, ◌++◌}
use Rattle.std.specs.List.{flat_map}
use Rattle.race_log.specs.Merge.{Event, exchange_events}
use Rattle.race_log.specs.Waiting.{Holds}
use Rattle.race_log.proofs.merge.Waiting.put_part.Given as goal

abbrev pub invariant-loop-one : goal.invariant-loop-one
invariant-loop-one l = (es : List Event) → Holds l.fn.self es → Holds l.self (es ++ flat_map (exchange_events l.caller) l.yielded)
