use Rattle.std.proofs.Common.{◌≡◌, ◌++◌, map, drop}
use Rattle.plain_store.proofs.stored_reply.read_all.Given as goal

-- what was read and what is left to read make the whole
abbrev pub invariant-loop-object : goal.invariant-loop-object
invariant-loop-object l = l.objects.items ++ map (λ o. o.now) (drop l.object-index l.packed) ≡ map (λ o. o.now) l.packed
