use Rattle.plain_store.proofs.StatusKept.{made_without, status_stays, status_written}
use Rattle.plain_store.proofs.laws.changes.only_the_status_request_changes_status.Goals as goal

pub returns-clause-made : goal.returns-clause-made
returns-clause-made c = made_without

pub returns-clause-kept : goal.returns-clause-kept
returns-clause-kept c = status_stays

pub returns-clause-written : goal.returns-clause-written
returns-clause-written c = status_written
