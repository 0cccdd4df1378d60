use Rattle.std.proofs.lemmas.Result.{IfOk-weaker}
use Rattle.outcome_lines.specs.Printing.{both_data}
use Rattle.plain.proofs.Written.{line_written}
use Rattle.outcome_lines.proofs.printing.both_line.Goals as goal

pub returns : goal.returns
returns c =
    IfOk-weaker c.end_line.result _ _ (λ line h.
    line_written line.items _ _ c.args.out.items _ _ (both_data c.args.order.now c.args.sent.now c.args.told.now c.args.shown.now) h c.write_both_end.ensures.before c.new-writer.ensures.before
    c.in_ok-write_both_end.ensures.tokens c.new-writer.ensures.tokens) c.end_line.ensures
