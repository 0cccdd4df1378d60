use Rattle.std.proofs.lemmas.Result.{IfOk-weaker}
use Rattle.plain.specs.Lines.{lines}
use Rattle.plan_lines.specs.Objects.{nothing}
use Rattle.plan_lines.proofs.Wrong.{has_line}
use Rattle.plan_lines.proofs.wrong_line.refused_object_line.Goals as goal

pub returns-clause-some : goal.returns-clause-some
returns-clause-some c = IfOk-weaker c.refused_in.result _ _ (λ line is. has_line nothing 1 (lines c.args.text.now) line is) c.refused_in.ensures
