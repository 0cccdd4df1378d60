use Rattle.std.proofs.Common.{◌+◌, ◌∙◌, ◌≡◌, ap, false, map, sym, arith}
use Rattle.outcome_lines.specs.Brief.{end_said, is_among}
use Rattle.outcome_lines.specs.ObjectWords.{lists_in, number_in, times_in}
use Rattle.outcome_lines.proofs.Firsts.{count_by, next_told, placed}
use Rattle.outcome_lines.proofs.brief.text_by.Goals.{else-branch, then-branch}
use Rattle.outcome_lines.proofs.brief.text_by.Goals as goal

pub loop-at-preserved : goal.loop-at-preserved
loop-at-preserved c =
    let say = end_said c.args.question (times_in c.args.counts.now.entries) (number_in c.args.begun.now.entries) c.args.asked.now in
    let found = c.args.found.now in
    let end = c.index-found-at.result in
    let said = c.in_ok-put_end.ensures in
    let next = next_told (map say found) c.loop-at.at (is_among (lists_in c.loop-at.seen.keys)) c.loop-at.text.items c.loop-at.apart c.loop-at.invariant
    (say end) (placed say found c.loop-at.at end c.loop-at-test.true c.index-found-at.is)
    (is_among (lists_in c.put_end.new.seen.keys)) said.seen c.in_ok-put_end.field-0 said.new c.put_end.new.out.items said.line in
    elim c.if-branch.branch [
      | then-branch w ↦ next c.if-branch.apart (w.apart-is ∙ ap (λ b. c.loop-at.apart + count_by b) (sym w.if-branch.true))
      | else-branch w ↦
          let same : c.loop-at.apart ≡ c.loop-at.apart + count_by false = omega arith in
          next c.if-branch.apart (w.apart-is ∙ same ∙ ap (λ b. c.loop-at.apart + count_by b) (sym w.if-branch.false))
    ]
