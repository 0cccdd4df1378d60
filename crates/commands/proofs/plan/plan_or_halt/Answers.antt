use Rattle.plan_lines.specs.Objects.{lists_of}
use Rattle.set_views.specs.Set.{set_parts}
use Rattle.commands.proofs.Planned.{plan_refused}
use Rattle.commands.proofs.plan.plan_or_halt.Goals as goal

pub returns-in-Err-clause-refused : goal.returns-in-Err-clause-refused
returns-in-Err-clause-refused c =
    plan_refused c.args.asked.now (set_parts c.args.set.now) (lists_of c.args.listed.now) c.in-Err.error _ c.no_plan.ensures.named c.in-Err.ensures
