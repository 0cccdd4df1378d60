use Rattle.trees.proofs.FoundMembers.{IsTaken}
use Rattle.trees.proofs.found.integral_entries.Given as goal

abbrev pub invariant-loop-key : goal.invariant-loop-key
invariant-loop-key l = record {
  can : (goal.iterator-loop-key).can_next l.key-iterator;
  finite : (goal.iterator-loop-key).is_finite l.key-iterator;
  taken : IsTaken l.fn.found.entries l.entries.items l.key-iterator;
}
