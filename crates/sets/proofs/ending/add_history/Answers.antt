use Rattle.std.proofs.Common.{sym, ◌∙◌}
use Rattle.std.specs.List.{list_any}
use Rattle.pod_steps.specs.Step.{is_of_pod}
use Rattle.sets.proofs.Truncation.{none_gone}
use Rattle.sets.proofs.ending.add_history.Goals as goal

pub returns-else-are_quiet : goal.returns-else-are_quiet
returns-else-are_quiet c = none_gone (list_any is_of_pod c.args.steps.now) _ _ (sym c.are_quiet.ensures ∙ c.if-are_quiet.false) c.args.actions.now.within
