use denote.Param.{param}
use denote.Param.Send.{IsSend, sendable}
use Rattle.std.proofs.Crossing.{crosses}
use Rattle.store.proofs.Sent.{caller-send, store-sync, ticket-send}
use Rattle.store_tests.proofs.races.counted.agrees_on_line.Goals as goal

-- threads may share the store, and its callers and tickets may move to them
pub agrees-requires-send-S-Caller : goal.agrees-requires-send-S-Caller
agrees-requires-send-S-Caller g c κs within =
    let held : IsSend (param 0 g.row.H) = c.type_bounds.send-H in
    let sent : IsSend (param 1 g.row.N) = c.type_bounds.send-N in search (caller-send, sendable, crosses) depth 40

pub agrees-requires-send-S-Ticket : goal.agrees-requires-send-S-Ticket
agrees-requires-send-S-Ticket g c κs within =
    let held : IsSend (param 0 g.row.H) = c.type_bounds.send-H in
    let sent : IsSend (param 1 g.row.N) = c.type_bounds.send-N in search (ticket-send, sendable, crosses) depth 40

pub agrees-requires-sync-S : goal.agrees-requires-sync-S
agrees-requires-sync-S g c κs within =
    let held : IsSend (param 0 g.row.H) = c.type_bounds.send-H in
    let sent : IsSend (param 1 g.row.N) = c.type_bounds.send-N in search (store-sync, sendable, crosses) depth 40
