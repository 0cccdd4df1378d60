use denote.Param.{param}
use denote.Param.Send.{IsSync, sendable}
use Rattle.std.proofs.Crossing.{crosses}
use Rattle.bench.proofs.stores.works.Goals as goal

-- the store and the handle by their bounds
pub map_indices-requires-sync-F : goal.map_indices-requires-sync-F
map_indices-requires-sync-F g c κs within =
    let store : IsSync (param 0 g.row.S) = c.type_bounds.sync-S in
    let rt : IsSync (param 1 g.row.R) = c.type_bounds.sync-R in search (sendable, crosses) depth 40
