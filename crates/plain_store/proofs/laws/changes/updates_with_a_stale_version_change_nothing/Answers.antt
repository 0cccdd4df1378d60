use Rattle.plain_store.proofs.StaleVersions.{stale_delete, stale_status, stale_update}
use Rattle.plain_store.proofs.laws.changes.updates_with_a_stale_version_change_nothing.Goals as goal

pub returns-clause-update : goal.returns-clause-update
returns-clause-update c = stale_update

pub returns-clause-status : goal.returns-clause-status
returns-clause-status c = stale_status

pub returns-clause-delete : goal.returns-clause-delete
returns-clause-delete c = stale_delete
