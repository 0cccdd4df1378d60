use Rattle.plain_store.proofs.Routes.{reads_stay}
use Rattle.plain_store.proofs.laws.runs.reads_change_nothing.Goals as goal

pub returns : goal.returns
returns c = reads_stay
