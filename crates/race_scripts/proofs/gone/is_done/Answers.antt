use Rattle.std.proofs.Common.{inr, sym, ◌∙◌}
use Rattle.race_scripts.proofs.gone.is_done.Goals as goal

pub returns-in-Some : goal.returns-in-Some
returns-in-Some c = λ is. inr (sym (c.may_leave.ensures c.args.table.now) ∙ is)
