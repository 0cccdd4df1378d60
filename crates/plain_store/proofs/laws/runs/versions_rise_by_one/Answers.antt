use Rattle.plain_store.proofs.DrawnNumbers.{versions_next, counter_counts}
use Rattle.plain_store.proofs.laws.runs.versions_rise_by_one.Goals as goal

pub returns-clause-next : goal.returns-clause-next
returns-clause-next c = versions_next

pub returns-clause-counted : goal.returns-clause-counted
returns-clause-counted c = counter_counts
