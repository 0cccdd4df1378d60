use Rattle.std.proofs.lemmas.Result.{IfOk-weaker}
use Rattle.plain.proofs.Written.{line_written}
use Rattle.scripts.specs.RaceHistory.{call_data}
use Rattle.scripts.proofs.race_item.put_call.Goals as goal

pub returns : goal.returns
returns c =
    IfOk-weaker c.end_line.result _ _ (λ line h.
    line_written line.items _ _ c.args.out.items _ _ (call_data c.args.place c.args.caller c.args.role c.args.request.now) h c.write_call.ensures.before
    c.new-writer.ensures.before c.in_ok-write_call.ensures.tokens c.new-writer.ensures.tokens) c.end_line.ensures
