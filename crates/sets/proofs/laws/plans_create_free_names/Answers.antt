use Rattle.sets.proofs.Origins.{creates_free}
use Rattle.sets.proofs.laws.plans_create_free_names.Goals as goal

pub returns : goal.returns
returns c = creates_free
