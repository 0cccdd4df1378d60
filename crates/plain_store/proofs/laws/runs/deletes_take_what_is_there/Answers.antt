use Rattle.plain_store.proofs.TakenObjects.{delete_takes}
use Rattle.plain_store.proofs.laws.runs.deletes_take_what_is_there.Goals as goal

pub returns : goal.returns
returns c = delete_takes
