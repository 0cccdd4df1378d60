use Rattle.plain_store.proofs.PastReplies.{expired, too_large}
use Rattle.plain_store.proofs.laws.past.only_what_was_compacted_expires.Goals as goal

pub returns-clause-expired : goal.returns-clause-expired
returns-clause-expired c = expired

pub returns-clause-too_large : goal.returns-clause-too_large
returns-clause-too_large c = too_large
