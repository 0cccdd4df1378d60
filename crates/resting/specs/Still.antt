-- A store to which a controller's round and a kubelet's turn send no write.
use Rattle.std.specs.Prelude.{◌≡◌, ◌≢◌, ℕ, zero, suc, false, List, [], ◌∷◌, map, Some, is_some, Ok}
use Rattle.std.specs.FinMap as finite
use Rattle.objects.specs.declared.key.Key.{Key}
use Rattle.objects.specs.declared.kind.Kind.{Kind}
use Rattle.objects.specs.declared.kind.Kind.TheVariants.{StatefulSet, Pod, PersistentVolumeClaim, ControllerRevision}
use Rattle.objects.specs.declared.object.Object.{Object}
use Rattle.requests.specs.declared.request.Request.{Request}
use Rattle.set_views.specs.declared.readiness.Readiness.TheVariants.{NotReady}
use Rattle.set_views.specs.Readiness.{readiness_of}
use Rattle.set_views.specs.Set.{SetParts}
use Rattle.set_views.specs.SetReading.{set_of}
use Rattle.collector.specs.Collectable.{collection as collectable}
use Rattle.plain_store.specs.Store.{Store, collection, step}
use Rattle.rounds.specs.Phase.{Phase, asks, takes}
use Rattle.rounds.specs.Reconciler.{Reconciler}
use Rattle.resting.specs.Rest.{RestsOver}

-- the controller sends its next request to the store, and continues from the reply
abbrev pub exchanged : Reconciler → Store × Phase → Store × Phase
exchanged c now = ((step now.0 (asks c now.1)).0, takes c now.1 (step now.0 (asks c now.1)).1)

-- so many requests, one after another
abbrev pub exchanged_times : ℕ → Reconciler → Store × Phase → Store × Phase
exchanged_times zero c now = now
exchanged_times (suc n) c now = exchanged_times n c (exchanged c now)

-- the requests of a round that has nothing to write
abbrev pub reads_of_a_round : ℕ
reads_of_a_round = 9

-- what a list shows in the namespace of the key
abbrev pub listed_in : Store → Key → Kind → List Object
listed_in s key kind = collection s.objects kind key.namespace

-- what may own a claim there
abbrev pub owners_in : Store → Key → List (List Object)
owners_in s key = map (listed_in s key) (StatefulSet ∷ Pod ∷ ControllerRevision ∷ PersistentVolumeClaim ∷ [])

-- the requests of the plan over what the store shows
abbrev pub plan_over : Reconciler → Store → Object → List Request
plan_over c s set = c.plan set (listed_in s c.set ControllerRevision) (listed_in s c.set Pod) (listed_in s c.set PersistentVolumeClaim)

-- nothing is planned over what the store shows, and no claim is to be collected
pub record IsStill (c : Reconciler) (s : Store) : Type 0 where
  pub set : Object
  pub found : finite.get s.objects c.set ≡ Some set
  pub plans_nothing : c.plan set (listed_in s c.set ControllerRevision) (listed_in s c.set Pod) (listed_in s c.set PersistentVolumeClaim) ≡ []
  pub collects_nothing : c.collect (listed_in s c.set PersistentVolumeClaim) (owners_in s c.set) s.counter ≡ []

-- a kubelet sends no request for the pod: it is not marked, and is ready or failed
abbrev pub IsTendedPod : Object → Type 0
IsTendedPod o = (is_some o.meta.deletion ≡ false) × (readiness_of o.body ≢ NotReady)

-- in the namespace of that key the store shows a set at rest, and no claim to collect
pub record ShowsRest (key : Key) (digits : ℕ) (s : Store) : Type 0 where
  pub object : Object
  pub set : SetParts
  pub found : finite.get s.objects key ≡ Some object
  pub is_read : set_of object ≡ Ok set
  pub at_rest : RestsOver set digits (listed_in s key ControllerRevision) (listed_in s key Pod) (listed_in s key PersistentVolumeClaim)
  pub none_left : collectable (listed_in s key PersistentVolumeClaim) (owners_in s key) s.counter ≡ []
