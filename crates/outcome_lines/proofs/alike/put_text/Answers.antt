use Rattle.std.proofs.lemmas.Result.{IfOk-weaker}
use Rattle.objects.specs.Text.{printed}
use Rattle.plain.proofs.Written.{line_written}
use Rattle.outcome_lines.proofs.alike.put_text.Goals as goal

pub returns : goal.returns
returns c =
    IfOk-weaker c.end_line.result _ _ (λ line h.
    line_written line.items _ _ c.args.out.items _ _ (printed c.args.object.now) h c.write_object.ensures.before c.new-writer.ensures.before
    c.in_ok-write_object.ensures.tokens c.new-writer.ensures.tokens) c.end_line.ensures
