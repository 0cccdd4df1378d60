use Rattle.std.proofs.Common.{◌≡◌}
use Rattle.history.specs.Mirrors.{found_in}
use Rattle.history.specs.Replayed.{records_of}
use Rattle.history.proofs.machine.Machine.gather.Given as goal

abbrev pub invariant-loop-shard : goal.invariant-loop-shard
invariant-loop-shard l = l.found ≡ found_in (records_of l.self) l.number l.kind l.namespace l.shard
