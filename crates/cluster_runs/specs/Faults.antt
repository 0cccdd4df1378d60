-- Which fault of a cluster a fault of its store becomes.
use Rattle.std.specs.Prelude.{◌≡◌, ◌⊎◌}
use Rattle.history.specs.declared.replay_error.ReplayError.{ReplayError}
use Rattle.history.specs.declared.replay_error.ReplayError.TheVariants as replay
use Rattle.cluster_runs.specs.declared.fault.ClusterFault.{ClusterFault}
use Rattle.cluster_runs.specs.declared.fault.ClusterFault.TheVariants as cluster

abbrev pub fault_of : ReplayError → ClusterFault
fault_of replay.BadShards = cluster.BadShards
fault_of replay.BadCapacity = cluster.BadCapacity
fault_of replay.TooManyCallers = cluster.TooManyCallers
fault_of replay.Memory = cluster.Memory

-- why a run that has begun stops
abbrev pub IsShort : ClusterFault → Type 0
IsShort fault = (fault ≡ cluster.TooManyCallers) ⊎ (fault ≡ cluster.Memory)
