use Rattle.std.proofs.lemmas.Result.{IfOk-weaker}
use Rattle.scripts.specs.Printing.{reply_data_at}
use Rattle.plain.proofs.Written.{line_written}
use Rattle.scripts.proofs.printing.put_reply.Goals as goal

pub returns : goal.returns
returns c =
    IfOk-weaker c.end_line.result _ _ (λ line h.
    line_written line.items _ _ c.args.out.items _ _ (reply_data_at c.args.place c.args.caller c.args.reply.now) h c.write_reply_at.ensures.before c.new-writer.ensures.before
    c.in_ok-write_reply_at.ensures.tokens c.new-writer.ensures.tokens) c.end_line.ensures
