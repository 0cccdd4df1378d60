use Rattle.plain_store.proofs.KeptUids.{filed_in_run}
use Rattle.plain_store.proofs.laws.lifetimes.objects_stand_under_their_keys.Goals as goal

pub returns : goal.returns
returns c = filed_in_run
