use Rattle.std.proofs.lemmas.Result.{IfOk-weaker}
use Rattle.plain.proofs.Written.{line_written}
use Rattle.plan_lines.specs.Actions.{action_data}
use Rattle.plan_lines.proofs.action_line.put_action.Goals as goal

pub returns : goal.returns
returns c =
    IfOk-weaker c.end_line.result _ _ (λ line h.
    line_written line.items _ _ c.args.out.items _ _ (action_data c.args.action.now) h c.write_action.ensures.before c.new-writer.ensures.before
    c.in_ok-write_action.ensures.tokens c.new-writer.ensures.tokens) c.end_line.ensures
