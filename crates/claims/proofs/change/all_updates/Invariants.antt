use Rattle.std.proofs.Common.{◌≡◌, take}
use Rattle.std.specs.List.{filter_map}
use Rattle.set_views.specs.Set.{set_parts}
use Rattle.claims.specs.Changes.{update}
use Rattle.claims.proofs.change.all_updates.Given as goal

abbrev pub invariant-loop-claim : goal.invariant-loop-claim
invariant-loop-claim l = l.changes.items ≡ filter_map (λ c. update (set_parts l.set) l.pod l.owner c.1.now) (take l.claim-index l.claims)
