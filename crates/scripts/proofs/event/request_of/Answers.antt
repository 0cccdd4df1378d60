use Rattle.std.proofs.Common.{ap}
use Rattle.scripts.specs.Events.{unless_refused}
use Rattle.scripts.proofs.Readings.{request_refused}
use Rattle.scripts.proofs.event.request_of.Goals as goal

pub returns-in-Ok : goal.returns-in-Ok
returns-in-Ok c = ap unless_refused c.in-Ok.ensures

pub returns-in-Err : goal.returns-in-Err
returns-in-Err c = request_refused _ c.in-Err.error _ c.fault_of.ensures c.in-Err.ensures
