use denote.Param.{param}
use denote.Param.Send.{IsSync, sendable}
use Rattle.std.proofs.Crossing.{crosses}
use Rattle.racing.proofs.Sent.{Log-send}
use Rattle.store_tests.proofs.running.crowds.assert_replies_are_legal.Goals as goal

-- the store and the handle by their bounds, and the log by what it holds
pub map_indices-requires-sync-F : goal.map_indices-requires-sync-F
map_indices-requires-sync-F g c κs within =
    let store : IsSync (param 0 g.row.S) = c.type_bounds.sync-S in
    let rt : IsSync (param 1 g.row.R) = c.type_bounds.sync-R in search (Log-send, sendable, crosses) depth 40
