use Rattle.std.proofs.Common.{◌≡◌, ℕ, length}
use Rattle.versions.specs.Shard as versions
use Rattle.history.specs.Replayed.{shard_at}
use Rattle.history.proofs.stepped.new_shards.Given as goal

abbrev pub invariant-loop : goal.invariant-loop
invariant-loop l = (length l.held.items ≡ l.counter) × ((s : ℕ) → shard_at l.held.items s ≡ versions.opening)
