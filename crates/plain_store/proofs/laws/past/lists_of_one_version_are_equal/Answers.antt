use Rattle.plain_store.proofs.PastReplies.{one_version}
use Rattle.plain_store.proofs.laws.past.lists_of_one_version_are_equal.Goals as goal

pub returns : goal.returns
returns c = one_version
