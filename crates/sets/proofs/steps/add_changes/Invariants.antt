use Rattle.std.proofs.Common.{◌≡◌, ◌++◌, take}
use Rattle.std.specs.Vec.Iter.{into_iter_items}
use Rattle.sets.specs.Actions.{claim_actions}
use Rattle.sets.proofs.steps.add_changes.Given as goal

-- what is held, and what is still to come
abbrev pub invariant-loop-change : goal.invariant-loop-change
invariant-loop-change l = record {
  can : (goal.iterator-loop-change).can_next l.change-iterator;
  finite : (goal.iterator-loop-change).is_finite l.change-iterator;
  all_added : take 1024 (l.actions.list.items ++ claim_actions (into_iter_items l.change-iterator)) ≡ take 1024 (l.fn.actions.list.items ++ claim_actions l.fn.changes.items);
}
