use Rattle.pod_steps.proofs.Causes.{replaced_from_partition, replaced_in_turn}
use Rattle.pod_steps.proofs.laws.replacements_go_downward.Goals as goal

pub returns-clause-reached : goal.returns-clause-reached
returns-clause-reached c = replaced_from_partition

pub returns-clause-settled : goal.returns-clause-settled
returns-clause-settled c = replaced_in_turn
