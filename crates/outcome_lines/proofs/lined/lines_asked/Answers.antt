use Rattle.std.proofs.Common.{◌∙◌, ap}
use Rattle.outcome_lines.specs.Lined.{asked_lines, told_first}
use Rattle.outcome_lines.proofs.Lines.{asked_more}
use Rattle.outcome_lines.proofs.lined.lines_asked.Goals as goal

pub participants-preserved : goal.participants-preserved
participants-preserved c =
    asked_more c.participants.all.items c.push.new.self.items c.participants.lines_left.now c.in-Some.lines_behind.now c.participants.told_left.now c.rest-told_left.result.now c.in-Some.own.now c.in_ok-asked.asked _
    c.in-Some.ensures.cases.0 c.rest-told_left.ensures
    (c.in_ok-asked.ensures ∙ ap (λ l. asked_lines l c.told_first.result.now) c.as_slice.ensures.value ∙ ap (asked_lines c.in-Some.own.now.items) c.told_first.ensures)
    c.in_ok-push.ensures.items c.participants.invariant
