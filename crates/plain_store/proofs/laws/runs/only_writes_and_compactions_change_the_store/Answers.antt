use Rattle.plain_store.proofs.DrawnNumbers.{nothing_changes}
use Rattle.plain_store.proofs.laws.runs.only_writes_and_compactions_change_the_store.Goals as goal

pub returns : goal.returns
returns c = nothing_changes
