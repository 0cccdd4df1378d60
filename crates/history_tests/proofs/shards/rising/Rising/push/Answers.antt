use Rattle.std.proofs.Common.{◌+◌, sym, subst, arith}
use Rattle.versions.specs.Records.{IsAbove}
use Rattle.versions.specs.Shard.{Shard}
use Rattle.versions.proofs.Above.{above_more, above_pushed}
use Rattle.history_tests.proofs.shards.rising.Rising.push.Goals as goal

pub invariant_of-self-2 : goal.invariant_of-self-2
invariant_of-self-2 g c =
    let higher = c.if-number-self.false in
    let before = above_more c.args.self.now.shard.records (c.args.self.now.last + 1) c.args.number (omega (arith, higher)) c.args.self.now.above in
    let roomy = subst (λ (s : Shard). IsAbove s.records c.args.number) (sym c.in_ok-make_room.ensures.made) before in record {
      above = subst (λ (s : Shard). IsAbove s.records (c.args.number + 1)) (sym c.push.ensures) (above_pushed c.make_room.new.self.records c.args.number _ roomy);
    }
