use Rattle.std.proofs.lemmas.Result.{IfOk-weaker}
use Rattle.outcome_lines.proofs.Agreeing.{ends_same}
use Rattle.outcome_lines.proofs.brief.ends_brief_text.Goals as goal

pub returns : goal.returns
returns c = IfOk-weaker c.text_by.result _ _ (λ text h. ends_same c.args.question c.args.asked.now c.args.found.now _ _ _ _ _ _ c.in_ok-counts.ensures c.in_ok-firsts.ensures text.items h) c.text_by.ensures
