use Rattle.plain_store.proofs.OneKey.{spared}
use Rattle.plain_store.proofs.laws.runs.deletes_spare_other_uids.Goals as goal

pub returns : goal.returns
returns c = spared
