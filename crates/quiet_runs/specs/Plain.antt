-- While the store is quiet it is a plain one: what that one holds, and how a request ends there.
use Rattle.std.specs.Prelude.{◌≡◌, ◌-◌, ℕ, map, Option, Some}
use Rattle.std.specs.List.{range_with_len}
use Rattle.requests.specs.declared.reply.Reply.{Reply}
use Rattle.requests.specs.declared.request.Request.{Request}
use Rattle.plain_store.specs.Store.{Store, step}
use Rattle.interleavings.specs.Log.{state_at}
use Rattle.interleavings.specs.World.{Size, World}
use Rattle.rounds.specs.Phase.{Phase, asks, takes}
use Rattle.rounds.specs.Reconciler.{Reconciler}
use Rattle.rounds.specs.World.{put}
use Rattle.cluster_runs.specs.Cluster.{Cluster, run}
use Rattle.cluster_runs.specs.Turns.{Course}
use Rattle.quiet_runs.specs.Quiet.{world_of}

-- the plain store that the writes up to the frontier make up, with the maps from the floor on
abbrev pub store_of : Size → World → Store
store_of z w = record {
  objects = state_at w.log w.frontier;
  counter = w.frontier;
  capacity = z.capacity;
  floor = w.floor;
  past = map (state_at w.log) (range_with_len w.floor (w.frontier - w.floor));
}

abbrev pub plain_of : Size → Cluster → Store
plain_of z k = store_of z (world_of z k)

-- Some events ended with the reply that the plain store gives to the request. They left the store that this request
-- leaves there, these phases of the controllers, and each caller's incarnation.
pub record DoesAsPlain (z : Size) (before : Cluster) (r : Request) (heard : ℕ → Phase) (ending : Option Reply) (now : Cluster) : Type 0 where
  pub told : ending ≡ Some (step (plain_of z before) r).1
  pub left : plain_of z now ≡ (step (plain_of z before) r).0
  pub phases : now.phases ≡ heard
  pub incarnations : now.incarnations ≡ before.incarnations

-- the course from a cluster does so
abbrev pub AnswersPlainly : Course → Request → (ℕ → Phase) → Size → ℕ → (ℕ → Reconciler) → Cluster → Type 0
AnswersPlainly course r phases z count reconcilers k = let o = course z count reconcilers k in DoesAsPlain z k r phases o.1 (run z count reconcilers k o.0)

-- the phases once a controller has handled what the plain store replies to its next request
abbrev pub phases_after : Size → (ℕ → Reconciler) → Cluster → (controller : ℕ) → ℕ → Phase
phases_after z reconcilers k c = put k.phases c (takes (reconcilers c) (k.phases c) (step (plain_of z k) (asks (reconcilers c) (k.phases c))).1)
