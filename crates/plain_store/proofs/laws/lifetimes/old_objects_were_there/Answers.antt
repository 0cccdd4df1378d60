use Rattle.plain_store.proofs.KeptUids.{uid_since, version_since}
use Rattle.plain_store.proofs.laws.lifetimes.old_objects_were_there.Goals as goal

pub returns-clause-uid : goal.returns-clause-uid
returns-clause-uid c = uid_since

pub returns-clause-version : goal.returns-clause-version
returns-clause-version c = version_since
