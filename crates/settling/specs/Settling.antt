-- What `settle` does with one controller and a kubelet, while nobody else writes.
use Rattle.std.specs.Prelude.{◌≡◌, ◌+◌, ◌≤◌, ℕ, Bool, true, false, List, [], ◌∷◌, None}
use Rattle.serde_json.specs.Written.{members_have_float}
use Rattle.objects.specs.declared.key.Key.{Key}
use Rattle.objects.specs.declared.object.Object.{Object}
use Rattle.set_views.specs.Set.{SetParts}
use Rattle.sets.specs.Plan.{most_actions}
use Rattle.plain_store.specs.AtKey.{Has}
use Rattle.plain_store.specs.Reached.{most_revisions}
use Rattle.plain_store.specs.Store.{Store}
use Rattle.interleavings.specs.World.{Idle, Size}
use Rattle.rounds.specs.Phase.{reading_set}
use Rattle.rounds.specs.Reconciler.{Reconciler}
use Rattle.controllers.specs.Reconciler.{reconciler_with}
use Rattle.cluster_runs.specs.Cluster.{Cluster, run}
use Rattle.cluster_runs.specs.Turns.{settled_as}
use Rattle.cluster_runs.specs.declared.turn.Turn.{Turn}
use Rattle.cluster_runs.specs.declared.turn.Turn.TheVariants as turn
use Rattle.quiet_runs.specs.Plain.{plain_of}
use Rattle.quiet_runs.specs.Quiet.{HasShards, IsQuiet, world_of}
use Rattle.resting.specs.Acting.{IsReadIn, IsUnrefusedOver, MayAct}
use Rattle.resting.specs.Still.{ShowsRest}
use Rattle.resting.specs.Turns.{MayTurn}
use Rattle.resting.specs.WholeRounds.{after_round}

-- the store has a valid number of shards, and a capacity that a run may have
abbrev pub IsSize : Size → Type 0
IsSize z = HasShards z × z.capacity ≤ most_revisions

-- a cluster with one controller after so many rounds of it and turns of a kubelet, which tends this namespace
abbrev pub after_settle : Size → (ℕ → Reconciler) → (kubelet : ℕ) → (namespace : List ℕ) → Cluster → (rounds : ℕ) → Cluster
after_settle z reconcilers kubelet namespace k rounds = run z 1 reconcilers k (settled_as rounds kubelet (namespace ∷ []) z 1 reconcilers k).0

-- the plain store that this cluster then is
abbrev pub settled_store : Size → (ℕ → Reconciler) → (kubelet : ℕ) → (namespace : List ℕ) → Cluster → (rounds : ℕ) → Store
settled_store z reconcilers kubelet namespace k rounds = plain_of z (after_settle z reconcilers kubelet namespace k rounds)

-- No write is in progress. The controller's next request begins a round, and none of it or of the kubelet is open. The
-- kubelet's caller is and was none of the controller.
pub record IsBetweenRounds (z : Size) (kubelet : ℕ) (k : Cluster) : Type 0 where
  pub quiet : IsQuiet (world_of z k)
  pub begins : k.phases 0 ≡ reading_set
  pub idle : (world_of z k).phase (k.callers 0) ≡ Idle
  pub kubelet_idle : (world_of z k).phase kubelet ≡ Idle
  pub kubelet_apart : k.incarnations kubelet ≡ None

-- What a round of a set's controller and a kubelet's turn need of a store: the set is there, its plan is not refused, and
-- numbers are left for the plan, and then for the turn. The set's template has no fraction, as no object that was read
-- has, and each object has a UID that a store gives.
pub record MayRound (set : SetParts) (digits : ℕ) (moment : List ℕ) (s : Store) : Type 0 where
  -- the set as the controller reads it
  pub now : SetParts
  pub key_is : now.object.key ≡ set.object.key
  pub is_read : IsReadIn s now
  pub plan : IsUnrefusedOver now digits s
  pub may_act : MayAct now most_actions s
  pub whole : members_have_float now.template ≡ false
  pub given : (key : Key) (o : Object) → Has s key o → 1 ≤ o.meta.uid
  pub may_turn : MayTurn now.object.key.namespace (after_round (reconciler_with now.object.key digits moment) s now.object)

-- After so many rounds the set of that key is at rest, and more rounds write nothing: they leave the store as it is.
pub record ComesToRest (key : Key) (digits : ℕ) (store : ℕ → Store) (rounds : ℕ) : Type 0 where
  pub rests : ShowsRest key digits (store rounds)
  pub stays : (more : ℕ) → store (rounds + more) ≡ store rounds

-- a line that settles
abbrev pub is_settle : Turn → Bool
is_settle (turn.Settle rounds) = true
is_settle t = false
