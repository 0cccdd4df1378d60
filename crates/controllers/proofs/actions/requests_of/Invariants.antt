use Rattle.std.proofs.Common.{◌≡◌, ◌++◌}
use Rattle.std.specs.Vec.Iter.{into_iter_items}
use Rattle.controllers.specs.Planned.{requests_of}
use Rattle.controllers.proofs.actions.requests_of.Given as goal

-- the requests so far, and those of the actions that are still to come
abbrev pub invariant-loop-action : goal.invariant-loop-action
invariant-loop-action l = record {
  can : (goal.iterator-loop-action).can_next l.action-iterator;
  finite : (goal.iterator-loop-action).is_finite l.action-iterator;
  whole : l.requests.items ++ requests_of l.namespace l.moment (into_iter_items l.action-iterator) ≡ requests_of l.namespace l.moment l.fn.actions.items;
}
