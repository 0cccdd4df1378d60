use Rattle.std.proofs.Common.{◌++◌, ap, ◌∙◌, append-nil}
use Rattle.plan_lines.specs.Formats.{json_text}
use Rattle.commands.proofs.plan.in_json.Goals as goal

pub returns : goal.returns
returns c = ap (λ t. json_text c.args.plan.actions.items ++ t) c.new.ensures.items ∙ append-nil (json_text c.args.plan.actions.items)
