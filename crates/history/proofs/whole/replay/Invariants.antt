use Rattle.std.proofs.Common.{take}
use Rattle.history.specs.After.{IsAfter}
use Rattle.history.proofs.whole.replay.Given as goal

abbrev pub invariant-loop-event : goal.invariant-loop-event
invariant-loop-event l = IsAfter (record { capacity = l.capacity; shards = l.shards }) (take l.event-index l.events) l.replay
