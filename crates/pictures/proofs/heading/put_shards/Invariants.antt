use Rattle.std.proofs.Common.{◌≡◌, ◌++◌, string_bytes}
use Rattle.pictures.specs.Heading.{shard_lines}
use Rattle.pictures.proofs.heading.put_shards.Given as goal

abbrev pub invariant-loop-shard : goal.invariant-loop-shard
invariant-loop-shard l = string_bytes l.out ≡ string_bytes l.fn.out ++ shard_lines l.shard-counter
