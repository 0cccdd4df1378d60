use Rattle.std.proofs.Common.{◌≡◌, ◌++◌, map}
use Rattle.std.specs.List.{All}
use Rattle.std.specs.Vec.Iter.{into_iter_items}
use Rattle.racing.specs.Children.{Promises, promised_number}
use Rattle.racing.specs.Parts.{IsPartOf, caller_of}
use Rattle.racing.proofs.threads.join_all.Given as goal

-- the threads that are left, and the parts so far
abbrev pub invariant-loop-child : goal.invariant-loop-child
invariant-loop-child g l = record {
  spec : All (Promises l.fn.spec) (into_iter_items l.child-iterator);
  numbers : map caller_of l.parts.items ++ map promised_number (into_iter_items l.child-iterator)
      ≡ map caller_of l.initial.parts.items ++ map promised_number l.fn.children.items;
  each : All (IsPartOf g.S.SharedStore.shards g.S.SharedStore.capacity l.fn.spec) l.initial.parts.items → All (IsPartOf g.S.SharedStore.shards g.S.SharedStore.capacity l.fn.spec) l.parts.items;
}
