use denote.Param.{param}
use denote.Param.Send.{IsSend, sendable}
use Rattle.std.proofs.Crossing.{crosses}
use Rattle.store.proofs.Sent.{caller-send, store-sync, ticket-send}
use Rattle.store.proofs.sharing.threads_may_share.Goals as goal

pub is_shared-requires-sync-T : goal.is_shared-requires-sync-T
is_shared-requires-sync-T g c κs within =
    let held : IsSend (param 0 g.row.H) = c.type_bounds.send-H in
    let sent : IsSend (param 1 g.row.N) = c.type_bounds.send-N in search (store-sync, sendable, crosses) depth 40

pub is_sent-requires-send-T : goal.is_sent-requires-send-T
is_sent-requires-send-T g c κs within =
    let held : IsSend (param 0 g.row.H) = c.type_bounds.send-H in
    let sent : IsSend (param 1 g.row.N) = c.type_bounds.send-N in search (caller-send, sendable, crosses) depth 40

pub is_sent-requires-2-send-T : goal.is_sent-requires-2-send-T
is_sent-requires-2-send-T g c κs within =
    let held : IsSend (param 0 g.row.H) = c.type_bounds.send-H in
    let sent : IsSend (param 1 g.row.N) = c.type_bounds.send-N in search (ticket-send, sendable, crosses) depth 40
