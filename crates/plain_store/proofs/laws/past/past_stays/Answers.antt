use Rattle.plain_store.proofs.PastReplies.{stays, was_at}
use Rattle.plain_store.proofs.laws.past.past_stays.Goals as goal

pub returns-clause-kept : goal.returns-clause-kept
returns-clause-kept c = stays

pub returns-clause-was : goal.returns-clause-was
returns-clause-was c = was_at
