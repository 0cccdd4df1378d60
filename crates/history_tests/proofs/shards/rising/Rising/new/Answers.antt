use Rattle.std.proofs.Common.{sym, subst}
use Rattle.versions.specs.Records.{IsAbove}
use Rattle.versions.specs.Shard.{Shard}
use Rattle.versions.proofs.Above.{above_none}
use Rattle.history_tests.proofs.shards.rising.Rising.new.Goals as goal

pub invariant_of-result : goal.invariant_of-result
invariant_of-result c = record { above = subst (λ (s : Shard). IsAbove s.records 1) (sym c.new.ensures) (above_none 1) }
