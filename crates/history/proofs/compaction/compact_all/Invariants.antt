use Rattle.history.specs.Replayed.{AreCompacted}
use Rattle.history.proofs.compaction.compact_all.Given as goal

abbrev pub invariant-loop-index : goal.invariant-loop-index
invariant-loop-index l = AreCompacted l.number l.index l.fn.shards.items l.shards.items
