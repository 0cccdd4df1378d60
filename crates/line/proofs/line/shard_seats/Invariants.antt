use Rattle.std.proofs.Common.{◌≡◌, length, []}
use Rattle.line.specs.NotedView.{IsCut}
use Rattle.line.specs.Seat.{AreShards}
use Rattle.line.proofs.line.shard_seats.Given as goal

-- each seat so far was cut off the first one, which is otherwise as it was
abbrev pub invariant-loop : goal.invariant-loop
invariant-loop g l =
    (l.first.table_id ≡ l.initial.first.table_id) × (l.first.me.1 ≡ [])
    × IsCut l.counter l.initial.first.me.0 l.first.me.0
    × (length l.seats.items ≡ l.counter) × AreShards l.initial.first.table_id l.initial.first.me.0.plain.capacity l.seats.items
