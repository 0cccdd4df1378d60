use Rattle.std.proofs.lemmas.Result.{IfOk-weaker}
use Rattle.outcome_lines.specs.Brief.{words_by}
use Rattle.outcome_lines.specs.ObjectWords.{lists_in, number_in, times_in}
use Rattle.outcome_lines.proofs.Agreeing.{said_here}
use Rattle.outcome_lines.proofs.brief_end.words_of.Goals as goal

pub returns : goal.returns
returns c =
    IfOk-weaker c.words_by.result _ _
    (λ text h. said_here (λ k. words_by c.args.question k (lists_in c.args.requests.now) c.args.told.now c.args.shown.now) (times_in c.args.counts.now.entries) (number_in c.args.begun.now.entries) _ _ c.in_ok-here.ensures text.items h) c.words_by.ensures
