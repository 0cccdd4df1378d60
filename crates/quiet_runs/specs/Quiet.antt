-- When the store is quiet, and what then becomes of requests.
use Rattle.std.specs.Prelude.{◌≡◌, ◌≢◌, ◌<◌, ◌≤◌, ◌+◌, ◌++◌, ◌∷◌, [], ℕ, max, Bool, true, false, List, length, Option, Some, None}
use Rattle.requests.specs.declared.reply.Reply.{Reply}
use Rattle.interleavings.specs.declared.trace.Item.{Item}
use Rattle.interleavings.specs.declared.trace.Item.TheVariants as item
use Rattle.interleavings.specs.Trace.{after}
use Rattle.interleavings.specs.World.{Phase, Idle, Called, Holding, Drawn, Waiting, Reading, Gone, Size, World, opening}
use Rattle.rounds.specs.Reconciler.{Reconciler}
use Rattle.cluster_runs.specs.declared.event.ClusterEvent.{ClusterEvent}
use Rattle.cluster_runs.specs.Cluster.{Cluster, run, start}
use Rattle.cluster_runs.specs.Turns.{Course}
use Rattle.cluster_runs.specs.declared.turn.Turn.{Turn}
use Rattle.cluster_runs.specs.declared.turn.Turn.TheVariants as turn

-- the world that the cluster's callers share
abbrev pub world_of : Size → Cluster → World
world_of z k = after z opening k.events

-- No write is in progress: no shard is held, and the frontier has reached each number that was drawn. It passes only
-- filled numbers, and a caller that crashed and left a number still holds the shard: so each number is filled, and none
-- was left.
pub record IsQuiet (w : World) : Type 0 where
  pub free : (shard : ℕ) → w.holder shard ≡ None
  pub passed : w.frontier ≡ w.drawn

-- the caller has called a request that has no reply yet
abbrev pub is_open : Phase → Bool
is_open Idle = false
is_open (Called place r) = true
is_open (Holding t) = true
is_open (Drawn d) = true
is_open (Waiting saw place reply) = true
is_open (Reading number place r parts found) = true
is_open (Gone left) = false

-- the store has a valid number of shards
abbrev pub HasShards : Size → Type 0
HasShards z = 0 < z.shards × z.shards ≤ 64

-- how many steps a request needs at most: a write a check, a reserve, a publish, a raise and a reply; a read one, one
-- for each shard, and a reply
abbrev pub steps_of_a_request : Size → ℕ
steps_of_a_request z = max 5 (z.shards + 2)

-- Some events, at most so many, ended with a reply to the caller. Nothing else was shown except these calls before it,
-- no other caller has moved, each controller has the same caller, and the store is quiet.
pub record EndsQuiet (z : Size) (before : Cluster) (calls : List Item) (n most : ℕ) (events : List ClusterEvent) (ending : Option Reply) (now : Cluster) : Type 0 where
  pub reply : Reply
  pub at : ℕ
  pub told : ending ≡ Some reply
  pub shown : (world_of z now).trace ≡ (world_of z before).trace ++ (calls ++ item.Reply at n reply ∷ [])
  pub idle : (world_of z now).phase n ≡ Idle
  pub others : (m : ℕ) → m ≢ n → (world_of z now).phase m ≡ (world_of z before).phase m
  pub callers : now.callers ≡ before.callers
  pub quiet : IsQuiet (world_of z now)
  pub few : length events ≤ most

-- the course from a cluster ends so
abbrev pub Answers : Course → (calls : List Item) → (caller most : ℕ) → Size → ℕ → (ℕ → Reconciler) → Cluster → Type 0
Answers course calls n most z count reconcilers k = let o = course z count reconcilers k in EndsQuiet z k calls n most o.0 o.1 (run z count reconcilers k o.0)

-- The store is still quiet. A caller that was idle is idle, and each controller has the same caller.
pub record StaysQuiet (z : Size) (before now : Cluster) : Type 0 where
  pub quiet : IsQuiet (world_of z now)
  pub idle : (n : ℕ) → (world_of z before).phase n ≡ Idle → (world_of z now).phase n ≡ Idle
  pub callers : now.callers ≡ before.callers

-- whenever a run reaches a quiet store, the course keeps it quiet
abbrev pub KeepsQuiet : Size → ℕ → (ℕ → Reconciler) → Course → Type 0
KeepsQuiet z count reconcilers course = (events : List ClusterEvent)
    → let k = run z count reconcilers (start count) events in
    IsQuiet (world_of z k) → StaysQuiet z k (run z count reconcilers k (course z count reconcilers k).0)

-- nothing is in progress at all
pub record IsAtRest (w : World) : Type 0 where
  pub quiet : IsQuiet w
  pub idle : (n : ℕ) → w.phase n ≡ Idle

-- a line that is one event; any other continues a request, or sends some
abbrev pub is_single : Turn → Bool
is_single (turn.Event e) = true
is_single t = false
