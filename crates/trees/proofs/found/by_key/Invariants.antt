use Rattle.std.specs.Vec.Iter.{into_iter_items}
use Rattle.trees.proofs.FoundMembers.{IsByKey}
use Rattle.trees.proofs.found.by_key.Given as goal

abbrev pub invariant-loop-name : goal.invariant-loop-name
invariant-loop-name l = record {
  can : (goal.iterator-loop-name).can_next l.name-iterator;
  finite : (goal.iterator-loop-name).is_finite l.name-iterator;
  found : IsByKey l.fn.entries.items l.found.entries (into_iter_items l.name-iterator);
}
