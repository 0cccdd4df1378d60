use Rattle.std.proofs.Common.{[], ap, arith, length}
use Rattle.history.specs.After.{IsAfter}
use Rattle.history.proofs.replaying.Replay.new.Goals as goal

pub invariant_of-result : goal.invariant_of-result
unfolding IsAfter
invariant_of-result c = let none = ap length c.new.ensures in record {
  size = record { capacity = c.args.capacity; shards = c.args.shards };
  events = [];
  after = (c.in_ok-machine.ensures.opened, (c.new.ensures, omega (arith, none)));
}

pub returns-clause-opened : goal.returns-clause-opened
unfolding IsAfter
returns-clause-opened c = let none = ap length c.new.ensures in (c.in_ok-machine.ensures.opened, (c.new.ensures, omega (arith, none)))
