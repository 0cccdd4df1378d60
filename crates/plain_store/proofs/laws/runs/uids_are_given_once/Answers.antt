use Rattle.plain_store.proofs.DrawnNumbers.{uids_rising}
use Rattle.plain_store.proofs.laws.runs.uids_are_given_once.Goals as goal

pub returns : goal.returns
returns c = uids_rising
