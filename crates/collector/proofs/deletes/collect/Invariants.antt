use Rattle.std.proofs.Common.{◌≡◌, ◌++◌, drop, map}
use Rattle.collector.specs.Collectable.{collection}
use Rattle.collector.proofs.deletes.collect.Given as goal

abbrev pub invariant-loop-claim : goal.invariant-loop-claim
invariant-loop-claim l =
    l.deletes.items ++ collection (drop l.claim-index l.claims) (map (λ list. list.now) l.owners) l.listed_at
    ≡ collection l.claims (map (λ list. list.now) l.owners) l.listed_at
