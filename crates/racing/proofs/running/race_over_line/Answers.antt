use denote.Param.{param}
use denote.Param.Send.{IsSend, sendable}
use Rattle.std.proofs.Common.{subst, IfOk}
use Rattle.std.proofs.Crossing.{crosses}
use Rattle.store.proofs.Sent.{caller-send, store-sync, ticket-send}
use Rattle.race_log.specs.Limits.{race_capacity}
use Rattle.racing.specs.Parts.{IsRaceOf}
use Rattle.racing.proofs.running.race_over_line.Goals as goal

-- threads may share the store, and its callers and tickets may move to them
pub race_over_new-requires-send-S-Caller : goal.race_over_new-requires-send-S-Caller
race_over_new-requires-send-S-Caller g c κs within =
    let held : IsSend (param 0 g.row.H) = c.type_bounds.send-H in
    let sent : IsSend (param 1 g.row.N) = c.type_bounds.send-N in search (caller-send, sendable, crosses) depth 40

pub race_over_new-requires-send-S-Ticket : goal.race_over_new-requires-send-S-Ticket
race_over_new-requires-send-S-Ticket g c κs within =
    let held : IsSend (param 0 g.row.H) = c.type_bounds.send-H in
    let sent : IsSend (param 1 g.row.N) = c.type_bounds.send-N in search (ticket-send, sendable, crosses) depth 40

pub race_over_new-requires-sync-S : goal.race_over_new-requires-sync-S
race_over_new-requires-sync-S g c κs within =
    let held : IsSend (param 0 g.row.H) = c.type_bounds.send-H in
    let sent : IsSend (param 1 g.row.N) = c.type_bounds.send-N in search (store-sync, sendable, crosses) depth 40

-- the store has as many shards and revisions as the race
pub returns-in-Ok-clause-race : goal.returns-in-Ok-clause-race
returns-in-Ok-clause-race g c =
    let spec = c.args.spec.now in
    subst (λ n. IfOk c.race_over_new.result (IsRaceOf n race_capacity race_capacity spec)) c.requires.many
    (subst (λ k. IfOk c.race_over_new.result (IsRaceOf g.H.Sharding.shards k race_capacity spec)) c.requires.capacity c.race_over_new.ensures.race)
