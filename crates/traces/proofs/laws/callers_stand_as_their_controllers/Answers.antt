use Rattle.traces.proofs.InCluster.{stand_as_callers}
use Rattle.traces.proofs.laws.callers_stand_as_their_controllers.Goals as goal

pub returns : goal.returns
returns c = stand_as_callers
