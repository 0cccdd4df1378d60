use Rattle.std.proofs.Common.{arith, []}
use Rattle.plain_store.proofs.Held.{opened_is, opened_up}
use Rattle.plain_store.proofs.tree_store.Trees.new.Goals as goal

pub invariant_of-result : goal.invariant_of-result
invariant_of-result c = (
  omega arith,
  omega arith,
  opened_up c.new.result c.new.ensures,
  record {
    capacity = c.args.capacity;
    least = omega arith;
    most = omega arith;
    requests = [];
    left = opened_is c.new.result c.args.capacity c.new.ensures;
  },
)

pub returns-clause-opened : goal.returns-clause-opened
returns-clause-opened c = opened_is c.new.result c.args.capacity c.new.ensures
