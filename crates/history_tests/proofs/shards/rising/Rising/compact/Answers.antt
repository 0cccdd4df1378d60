use Rattle.std.proofs.Common.{◌+◌, sym, subst}
use Rattle.versions.specs.Records.{IsAbove}
use Rattle.versions.specs.Shard.{Shard}
use Rattle.versions.proofs.Above.{above_raised}
use Rattle.history_tests.proofs.shards.rising.Rising.compact.Goals as goal

pub invariant_of-self : goal.invariant_of-self
invariant_of-self c = record {
  above = subst (λ (s : Shard). IsAbove s.records (c.args.self.now.last + 1)) (sym c.compact.ensures.raised)
      (above_raised c.args.self.now.shard c.args.number (c.args.self.now.last + 1) c.args.self.now.above);
}
