use denote.Param.{param}
use denote.Param.Send.{IsSend, sendable}
use Rattle.std.proofs.Crossing.{crosses}
use Rattle.store.proofs.Sent.{caller-send, store-sync, ticket-send}
use Rattle.store_tests.proofs.running.scenes.assert_scene.Goals as goal

-- threads may share the store, and its callers and tickets may move to them
pub assert_callers-requires-send-S-Caller : goal.assert_callers-requires-send-S-Caller
assert_callers-requires-send-S-Caller g c κs within =
    let held : IsSend (param 0 g.row.H) = c.type_bounds.send-H in
    let sent : IsSend (param 1 g.row.N) = c.type_bounds.send-N in search (caller-send, sendable, crosses) depth 40

pub assert_callers-requires-send-S-Ticket : goal.assert_callers-requires-send-S-Ticket
assert_callers-requires-send-S-Ticket g c κs within =
    let held : IsSend (param 0 g.row.H) = c.type_bounds.send-H in
    let sent : IsSend (param 1 g.row.N) = c.type_bounds.send-N in search (ticket-send, sendable, crosses) depth 40

pub assert_callers-requires-sync-S : goal.assert_callers-requires-sync-S
assert_callers-requires-sync-S g c κs within =
    let held : IsSend (param 0 g.row.H) = c.type_bounds.send-H in
    let sent : IsSend (param 1 g.row.N) = c.type_bounds.send-N in search (store-sync, sendable, crosses) depth 40

pub assert_steps-requires-send-S-Caller : goal.assert_steps-requires-send-S-Caller
assert_steps-requires-send-S-Caller g c κs within =
    let held : IsSend (param 0 g.row.H) = c.type_bounds.send-H in
    let sent : IsSend (param 1 g.row.N) = c.type_bounds.send-N in search (caller-send, sendable, crosses) depth 40

pub assert_steps-requires-send-S-Ticket : goal.assert_steps-requires-send-S-Ticket
assert_steps-requires-send-S-Ticket g c κs within =
    let held : IsSend (param 0 g.row.H) = c.type_bounds.send-H in
    let sent : IsSend (param 1 g.row.N) = c.type_bounds.send-N in search (ticket-send, sendable, crosses) depth 40

pub assert_steps-requires-sync-S : goal.assert_steps-requires-sync-S
assert_steps-requires-sync-S g c κs within =
    let held : IsSend (param 0 g.row.H) = c.type_bounds.send-H in
    let sent : IsSend (param 1 g.row.N) = c.type_bounds.send-N in search (store-sync, sendable, crosses) depth 40

pub assert_replies_are_legal-requires-send-S-Caller : goal.assert_replies_are_legal-requires-send-S-Caller
assert_replies_are_legal-requires-send-S-Caller g c κs within =
    let held : IsSend (param 0 g.row.H) = c.type_bounds.send-H in
    let sent : IsSend (param 1 g.row.N) = c.type_bounds.send-N in search (caller-send, sendable, crosses) depth 40

pub assert_replies_are_legal-requires-send-S-Ticket : goal.assert_replies_are_legal-requires-send-S-Ticket
assert_replies_are_legal-requires-send-S-Ticket g c κs within =
    let held : IsSend (param 0 g.row.H) = c.type_bounds.send-H in
    let sent : IsSend (param 1 g.row.N) = c.type_bounds.send-N in search (ticket-send, sendable, crosses) depth 40

pub assert_replies_are_legal-requires-sync-S : goal.assert_replies_are_legal-requires-sync-S
assert_replies_are_legal-requires-sync-S g c κs within =
    let held : IsSend (param 0 g.row.H) = c.type_bounds.send-H in
    let sent : IsSend (param 1 g.row.N) = c.type_bounds.send-N in search (store-sync, sendable, crosses) depth 40
