use Rattle.reasons.proofs.Waits.{alone_where_waiting}
use Rattle.reasons.proofs.laws.waits_hold_up_the_update.Goals as goal

pub returns : goal.returns
returns c = alone_where_waiting
