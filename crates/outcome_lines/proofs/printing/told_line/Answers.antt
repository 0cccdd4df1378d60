use Rattle.std.proofs.lemmas.Result.{IfOk-weaker}
use Rattle.outcome_lines.specs.Printing.{told_data}
use Rattle.plain.proofs.Written.{line_written}
use Rattle.outcome_lines.proofs.printing.told_line.Goals as goal

pub returns : goal.returns
returns c =
    IfOk-weaker c.end_line.result _ _ (λ line h.
    line_written line.items _ _ c.args.out.items _ _ (told_data c.args.order.now c.args.sent.now c.args.told.now) h c.write_told_end.ensures.before c.new-writer.ensures.before
    c.in_ok-write_told_end.ensures.tokens c.new-writer.ensures.tokens) c.end_line.ensures
