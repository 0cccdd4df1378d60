use Rattle.commands.proofs.Halted.{counts-input, counts-none}
use Rattle.commands.proofs.plan.plan_of_input.Goals as goal

pub returns-in_err-input-clause-reads : goal.returns-in_err-input-clause-reads
returns-in_err-input-clause-reads g c = counts-input c.from_residual.result c.in_err-input.field-0.0 _ _ c.from_residual.ensures.1 c.in_err-input.ensures.reads

pub returns-clause-reads : goal.returns-clause-reads
returns-clause-reads g c = counts-none c.plan_of_lines.result _ _ c.plan_of_lines.ensures.read c.in_ok-input.ensures.reads
