-- The phases of the callers of a cluster's run, and of its controllers.
use Rattle.std.specs.Prelude.{◌≡◌, ◌<◌, ℕ, List, length}
use Rattle.interleavings.specs.Trace.{trace}
use Rattle.interleavings.specs.World.{Size}
use Rattle.cluster_runs.specs.declared.event.ClusterEvent.{ClusterEvent}
use Rattle.cluster_runs.specs.Cluster.{Cluster, run}
use Rattle.cluster_runs.specs.Ran.{cluster_after, owner}
use Rattle.controllers.specs.declared.set_spec.SetSpec.{SetSpec}
use Rattle.controllers.specs.Cluster.{reconciler_named}
use Rattle.traces.specs.RefusedPlans.{none_read, phases_from}

-- By the owners of a later cluster, each controller is in the phase of its caller.
abbrev pub StandsAsCallers : Size → List SetSpec → (now later : Cluster) → Type 0
StandsAsCallers size sets now later =
    (c : ℕ) → c < length sets → phases_from (owner later.incarnations) sets none_read (trace size now.events) (now.callers c) ≡ now.phases c

-- the same at each moment of a run, whatever happens after it
abbrev pub StandAsCallers : Size → List SetSpec → (events more : List ClusterEvent) → Type 0
StandAsCallers size sets events more =
    let now = cluster_after size (length sets) (reconciler_named sets) events in
    StandsAsCallers size sets now (run size (length sets) (reconciler_named sets) now more)
