use Rattle.std.proofs.Common.{◌≡◌, ◌++◌, drop}
use Rattle.set_views.specs.Set.{set_parts}
use Rattle.reasons.specs.Gone.{is_gone}
use Rattle.reasons.specs.Lost.{lost_names}
use Rattle.reasons.proofs.lost.lost_names.Given as goal

abbrev pub invariant-loop-claim : goal.invariant-loop-claim
invariant-loop-claim l =
    l.names.items ++ lost_names (set_parts l.set) (is_gone l.gone) l.actions (drop l.claim-index l.claims)
    ≡ lost_names (set_parts l.set) (is_gone l.gone) l.actions l.claims
