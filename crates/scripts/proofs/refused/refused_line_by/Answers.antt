use Rattle.std.proofs.lemmas.Result.{IfOk-weaker}
use Rattle.plain.specs.Lines.{lines}
use Rattle.scripts.specs.Scripts.{line_by}
use Rattle.scripts.proofs.Unread.{has_line}
use Rattle.scripts.proofs.refused.refused_line_by.Goals as goal

pub returns-clause-some : goal.returns-clause-some
returns-clause-some g c =
    IfOk-weaker c.refused_in.result _ _
    (λ line is refused. has_line (line_by g.S.FromLines.header) (line_by g.S.FromLines.event) (lines c.args.text.now) line is refused) c.refused_in.ensures
