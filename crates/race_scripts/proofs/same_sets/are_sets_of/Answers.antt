use Rattle.std.proofs.Common.{◌<◌, length, option_map, sym, ap, ◌∙◌, arith}
use Rattle.race_scripts.specs.Leading.{is_nothing}
use Rattle.race_scripts.proofs.StoreLed.{none_at}
use Rattle.race_scripts.proofs.same_sets.are_sets_of.Goals as goal

pub returns-in_default : goal.returns-in_default
returns-in_default c =
    let participants = c.args.participants.now in
    let inside : c.loop-participant.participant-index < length participants = omega arith in
    let none = sym c.sets_behind.ensures ∙ ap (option_map (λ s. s.now)) c.in_default.is in
    ap is_nothing (sym (none_at participants c.loop-participant.participant-index _ c.loop-participant.left.now inside c.participant-item.is none) ∙ c.loop-participant.invariant)
