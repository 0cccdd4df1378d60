-- What a run of a cluster returns.
use Rattle.std.specs.Prelude.{◌≡◌, ◌≤◌, ◌<◌, ◌+◌, ℕ, List, length, take, Option, option_and_then, option_map}
use Rattle.std.specs.BTreeMap.{BTreeMap, get}
use Rattle.std.specs.Ordering.{nat_cmp}
use Rattle.interleavings.specs.World.{Size}
use Rattle.history.specs.After.{IsRunOf}
use Rattle.rounds.specs.Phase.{Phase}
use Rattle.rounds.specs.Reconciler.{Reconciler}
use Rattle.rounds.specs.Transcript.{Incarnation}
use Rattle.rounds.specs.World.{StandAt}
use Rattle.cluster_runs.specs.declared.event.ClusterEvent.{ClusterEvent}
use Rattle.cluster_runs.specs.Cluster.{Cluster, run, start}
use Rattle.cluster_runs.specs.declared.run.ClusterRun.{ClusterRun}

-- the cluster after these events
abbrev pub cluster_after : Size → ℕ → (ℕ → Reconciler) → List ClusterEvent → Cluster
cluster_after z count reconcilers events = run z count reconcilers (start count) events

-- the controller that is or was this caller, if any
abbrev pub owner : (ℕ → Option Incarnation) → ℕ → Option ℕ
owner incarnations n = option_map (λ (incarnation : Incarnation). incarnation.controller) (incarnations n)

-- the same, from a map of the callers that were used
abbrev pub owner_in : BTreeMap ℕ (Option ℕ) → ℕ → Option ℕ
owner_in owners n = option_and_then (λ who. who) (get nat_cmp owners n)

-- The events are those that were passed to the store, the run is theirs, with a legal order, each caller has its owner,
-- and no more than 4,096 callers were used.
pub record IsClusterRun (z : Size) (count : ℕ) (reconcilers : ℕ → Reconciler) (events : List ClusterEvent) (found : ClusterRun) : Type 0 where
  pub handed : found.events.items ≡ (cluster_after z count reconcilers events).events
  pub run_is : IsRunOf z (cluster_after z count reconcilers events).events found.run
  pub owned : (n : ℕ) → owner_in found.owners n ≡ owner (cluster_after z count reconcilers events).incarnations n
  pub few : length (cluster_after z count reconcilers events).used ≤ 4096

-- The run stopped at an event: the controllers are where the events before it left them.
pub record StopsAt {X : Type 0} (reconciler : X → Reconciler) (phase : X → Phase) (z : Size) (count : ℕ) (reconcilers : ℕ → Reconciler) (events : List ClusterEvent) (xs : List X) (at : ℕ) : Type 0 where
  pub there : at < length events
  pub stand : StandAt reconciler phase xs reconcilers (cluster_after z count reconcilers (take at events)).phases

-- That event brings too many callers.
pub record IsTooMany (z : Size) (count : ℕ) (reconcilers : ℕ → Reconciler) (events : List ClusterEvent) (at : ℕ) : Type 0 where
  pub few : length (cluster_after z count reconcilers (take at events)).used ≤ 4096
  pub many : 4096 < length (cluster_after z count reconcilers (take (at + 1) events)).used
