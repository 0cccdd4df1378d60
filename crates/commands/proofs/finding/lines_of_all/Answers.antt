use Rattle.commands.proofs.Found.{told_brief}
use Rattle.commands.proofs.finding.lines_of_all.Goals as goal

pub returns-in_ok-ends_brief_text-clause-told : goal.returns-in_ok-ends_brief_text-clause-told
returns-in_ok-ends_brief_text-clause-told c =
    told_brief c.args.options c.question_of-question.result c.args.asked.now c.args.found.now c.in_ok-begun.begun.items c.as_slice-then-options.result.now c.as_slice.result.now c.in_ok-ends_brief_text.field-0.items
    c.if-options.true c.question_of-question.ensures c.as_slice.ensures.value c.in_ok-begun.ensures.begun c.as_slice-then-options.ensures.value c.in_ok-ends_brief_text.ensures
