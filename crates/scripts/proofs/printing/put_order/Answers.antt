use Rattle.std.proofs.lemmas.Result.{IfOk-weaker}
use Rattle.scripts.specs.Printing.{order_data}
use Rattle.plain.proofs.Written.{line_written}
use Rattle.scripts.proofs.printing.put_order.Goals as goal

pub returns : goal.returns
returns c =
    IfOk-weaker c.end_line.result _ _ (λ line h.
    line_written line.items _ _ c.args.out.items _ _ (order_data c.args.order.now) h c.write_order.ensures.before c.new-writer.ensures.before
    c.in_ok-write_order.ensures.tokens c.new-writer.ensures.tokens) c.end_line.ensures
