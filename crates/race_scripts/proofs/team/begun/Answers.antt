use Rattle.std.proofs.Common.{List, [], ◌∷◌, subst, sym}
use Rattle.std.specs.List.{AllByRecursion}
use Rattle.outcomes.proofs.Lists.{all_append}
use Rattle.participants.specs.Stands.{IsWithin}
use Rattle.participants.specs.declared.stand.Stand.{Stand}
use Rattle.race_scripts.proofs.team.begun.Goals as goal

pub loop-participant-preserved : goal.loop-participant-preserved
loop-participant-preserved c = λ table.
    let more = all_append (IsWithin table) c.loop-participant.stands.items (c.in_ok-begins.field-0 ∷ []) (c.loop-participant.invariant table) (c.in_ok-begins.ensures.within table, tt) in
    subst (λ (stands : List Stand). AllByRecursion (IsWithin table) stands) (sym {A = List Stand} c.in_ok-push.ensures.items) more
