use Rattle.sets.proofs.Updates.{replaced_alone}
use Rattle.sets.proofs.laws.plans_replace_one_pod.Goals as goal

pub returns : goal.returns
returns c = replaced_alone
