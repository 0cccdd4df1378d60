-- Short runs of one controller of a set of one replica, over a store with one shard, and what is passed to the store.
use Rattle.std.specs.Prelude.{ℕ, List, [], ◌∷◌, Option}
use Rattle.requests.specs.declared.request.Request.{Request}
use Rattle.requests.specs.declared.request.Request.TheVariants.{Get}
use Rattle.plain_store.specs.Store.{opening}
use Rattle.interleavings.specs.declared.event.Event.{Event}
use Rattle.interleavings.specs.declared.event.Event.TheVariants as event
use Rattle.interleavings.specs.Trace.{trace}
use Rattle.interleavings.specs.World.{Size}
use Rattle.rounds.specs.Examples.{one_replica, web}
use Rattle.rounds.specs.Transcript.{Entry, Incarnation}
use Rattle.cluster_runs.specs.declared.event.ClusterEvent.{ClusterEvent}
use Rattle.cluster_runs.specs.declared.event.ClusterEvent.TheVariants.{Next, Outside, Step, Crash}
use Rattle.cluster_runs.specs.Cluster.{Cluster, run, start}
use Rattle.cluster_runs.specs.Ordered.{entries_of}

abbrev pub size : Size
size = record { capacity = 4; shards = 1 }

abbrev pub cluster_after : List ClusterEvent → Cluster
cluster_after events = run size 1 (λ c. one_replica) (start 1) events

abbrev pub handed_on : List ClusterEvent → List Event
handed_on events = (cluster_after events).events

-- whose incarnation sent each request of an order
abbrev pub askers : List Entry → List (Option Incarnation)
askers [] = []
askers (e ∷ es) = e.0 ∷ askers es

abbrev pub asked_by : List ClusterEvent → List ℕ → List (Option Incarnation)
asked_by events order = askers (entries_of (cluster_after events).incarnations (trace size (handed_on events)) (opening size.capacity) order)

abbrev pub incarnation : ℕ → Incarnation
incarnation crashes = record { controller = 0; crashes = crashes }

-- what the controller sends first
abbrev pub get : Request
get = Get web.key

-- After a crash the controller reads its set again, as another caller.
abbrev pub crash_in_a_read : List ClusterEvent
crash_in_a_read = Next 0 ∷ Step (event.Read 0) ∷ Crash 0 ∷ Next 0 ∷ []

-- A number that another client uses is left out.
abbrev pub beside_another : List ClusterEvent
beside_another = Outside 1 get ∷ Next 0 ∷ Crash 0 ∷ Next 0 ∷ []

-- The set does not exist, so the controller collects.
abbrev pub reply_is_heard : List ClusterEvent
reply_is_heard = Next 0 ∷ Step (event.Read 0) ∷ Step (event.Part 0) ∷ Step (event.Reply 0) ∷ Next 0 ∷ []

-- A call is no step, and caller 1 is not used. The controller that waits calls nothing, no other client calls or
-- crashes as its caller, and there is no other controller.
abbrev pub nothing_but_a_call : List ClusterEvent
nothing_but_a_call =
    Step (event.Call 0 get) ∷ Step (event.Read 1) ∷ Next 0 ∷ Next 0 ∷ Outside 0 get ∷ Step (event.Crash 0) ∷ Next 1 ∷ Crash 1 ∷ []
