use Rattle.std.proofs.lemmas.Result.{IfOk-weaker}
use Rattle.outcome_lines.specs.Printing.{named_data}
use Rattle.plain.proofs.Written.{line_written}
use Rattle.outcome_lines.proofs.printing.put_count.Goals as goal

pub returns : goal.returns
returns c =
    IfOk-weaker c.end_line.result _ _ (λ line h.
    line_written line.items _ _ c.args.out.items _ _ (named_data c.args.nouns.now c.args.count) h c.write_named.ensures.before c.new-writer.ensures.before
    c.in_ok-write_named.ensures.tokens c.new-writer.ensures.tokens) c.end_line.ensures
