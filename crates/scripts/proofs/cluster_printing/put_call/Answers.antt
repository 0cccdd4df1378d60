use Rattle.std.proofs.lemmas.Result.{IfOk-weaker}
use Rattle.plain.proofs.Written.{line_written}
use Rattle.scripts.specs.ClusterPrinting.{call_data_at}
use Rattle.scripts.proofs.cluster_printing.put_call.Goals as goal

pub returns : goal.returns
returns c =
    IfOk-weaker c.end_line.result _ _ (λ line h.
    line_written line.items _ _ c.args.out.items _ _ (call_data_at c.args.place c.args.caller c.args.controller c.args.request.now) h c.write_call_at.ensures.before
    c.new-writer.ensures.before c.in_ok-write_call_at.ensures.tokens c.new-writer.ensures.tokens) c.end_line.ensures
