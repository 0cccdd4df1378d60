use Rattle.std.proofs.Common.{◌≡◌, map}
use Rattle.versions.proofs.shard.Shard.list_at.Given as goal

-- the objects so far are copied
abbrev pub invariant-loop-object : goal.invariant-loop-object
invariant-loop-object l = l.found.items ≡ map (λ o. o.now) l.yielded
