use Rattle.std.proofs.lemmas.Result.{IfOk-weaker}
use Rattle.race_lines.proofs.ToBlame.{blames_a_line}
use Rattle.race_lines.proofs.refused.refused_line.Goals as goal

pub returns-clause-some : goal.returns-clause-some
returns-clause-some c = IfOk-weaker c.line_to_blame.result _ _ (λ line is none. blames_a_line c.args.text.now line is none) c.line_to_blame.ensures
