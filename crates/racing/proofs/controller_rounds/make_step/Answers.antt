use Rattle.std.proofs.Common.{sym, ap, ◌∙◌}
use Rattle.racing.specs.Parts.{last_reply}
use Rattle.racing.proofs.Standing.{replied}
use Rattle.racing.proofs.controller_rounds.make_step.Goals as goal

pub unreachable-requires : goal.unreachable-requires
unreachable-requires g c =
    absurd (replied _ _ _ _ _ _ _ c.in_ok-ask.ensures (sym (c.in-None.ensures ∙ ap last_reply c.as_slice.ensures.value)))
