use Rattle.std.proofs.lemmas.Result.{IfOk-weaker}
use Rattle.outcome_lines.specs.Brief.{key_by}
use Rattle.outcome_lines.specs.ObjectWords.{number_in, times_in}
use Rattle.outcome_lines.proofs.Agreeing.{said_here}
use Rattle.outcome_lines.proofs.brief_end.key_of.Goals as goal

pub returns : goal.returns
returns c =
    IfOk-weaker c.key_by.result _ _
    (λ text h. said_here (λ k. key_by k c.args.told.now c.args.shown.now) (times_in c.args.counts.now.entries) (number_in c.args.begun.now.entries) _ _ c.in_ok-here.ensures text.items h) c.key_by.ensures
