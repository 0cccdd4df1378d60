use Rattle.std.proofs.Common.{subst}
use Rattle.racing.specs.Parts.{HasAskedOnce}
use Rattle.racing.proofs.Joined.{asked_once}
use Rattle.racing.proofs.threads.create_set.Goals as goal

pub returns : goal.returns
returns g c =
    let shards = g.S.SharedStore.shards in
    let capacity = g.S.SharedStore.capacity in
    subst (λ r. HasAskedOnce shards capacity r c.ask.new.exchanges.items) c.in_ok-creation.ensures
    (asked_once shards capacity _ _ _ _ _ c.new-exchanges.ensures.items c.in_ok-ask.ensures)
