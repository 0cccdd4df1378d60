use Rattle.std.proofs.Common.{◌≡◌, ◌<◌}
use Rattle.std.specs.VecDeque.{deque_capacity, deque_len}
use Rattle.versions.proofs.shard.hide_removed.Given as goal

-- the versions stay, and so does room in the queue
abbrev pub invariant-loop : goal.invariant-loop
invariant-loop l = (l.versions ≡ l.fn.versions) × (deque_len l.fn.removed < deque_capacity l.fn.removed → deque_len l.removed < deque_capacity l.removed)
