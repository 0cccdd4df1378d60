use Rattle.plain_store.proofs.KeptUids.{made_by_number, uid_stays, version_is_drawn, version_rises}
use Rattle.plain_store.proofs.laws.lifetimes.uids_stay.Goals as goal

pub returns-clause-uid : goal.returns-clause-uid
returns-clause-uid c = uid_stays

pub returns-clause-changed : goal.returns-clause-changed
returns-clause-changed c = version_is_drawn

pub returns-clause-rises : goal.returns-clause-rises
returns-clause-rises c = version_rises

pub returns-clause-made : goal.returns-clause-made
returns-clause-made c = made_by_number
