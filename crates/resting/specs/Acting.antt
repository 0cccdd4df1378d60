-- What a round leaves in a store to which nobody else writes: the requests of a plan are carried out, and then a kubelet has its turn.
use Rattle.std.specs.Prelude.{◌≡◌, ◌+◌, ◌^◌, ◌≤◌, ◌<◌, ℕ, true, false, List, [], length, Option, Some, option_map, Ok, if◌then◌else◌}
use Rattle.std.specs.List.{list_any}
use Rattle.objects.specs.declared.key.Key.{Key}
use Rattle.objects.specs.declared.kind.Kind.TheVariants.{ControllerRevision, PersistentVolumeClaim, Pod, StatefulSet}
use Rattle.objects.specs.declared.object.Object.{Object}
use Rattle.objects.specs.Key.{is_key}
use Rattle.requests.specs.declared.request.Request.{Request}
use Rattle.set_views.specs.Firsts.{is_held}
use Rattle.set_views.specs.Pod.{PodParts}
use Rattle.set_views.specs.Set.{SetParts}
use Rattle.set_views.specs.SetReading.{set_of}
use Rattle.pod_steps.specs.declared.replica.Replica.{Replica}
use Rattle.pod_steps.specs.declared.step.Revision.TheVariants.{Update}
use Rattle.pod_steps.specs.declared.step.Step.{Step}
use Rattle.pod_steps.specs.FullSteps.{revision_at}
use Rattle.pod_steps.specs.Replicas.{Pods, is_failed}
use Rattle.revisions.specs.Plan.{PlanParts, created, plan_of, renumbered, settled}
use Rattle.revisions.specs.Revision.{listed}
use Rattle.claims.specs.Listed.{listed_claim}
use Rattle.rounds.specs.Kubelet.{turn_requests_of}
use Rattle.sets.specs.FullPlan.{full_plan}
use Rattle.sets.specs.Plan.{fitting_pods, most_actions}
use Rattle.sets.specs.PlanOfLists.{owned_of, views_of}
use Rattle.plain_store.specs.AtKey.{Has}
use Rattle.plain_store.specs.Filed.{AreFiled}
use Rattle.plain_store.specs.Run.{after}
use Rattle.plain_store.specs.Store.{Store, collection}
use Rattle.controllers.specs.Planned.{or_none, requested_for}
use Rattle.convergence.specs.Rounds.{creates, deletes}
use Rattle.resting.specs.Still.{listed_in}

-- ---- in a store
-- the requests of the plan of a set over what its namespace shows; none if the plan is refused
abbrev pub planned_requests : SetParts → ℕ → List ℕ → Store → List Request
planned_requests set digits moment s =
    let key = set.object.key in or_none (requested_for set digits moment (listed_in s key ControllerRevision) (listed_in s key Pod) (listed_in s key PersistentVolumeClaim))

abbrev pub after_plan : SetParts → ℕ → List ℕ → Store → Store
after_plan set digits moment s = after s (planned_requests set digits moment s)

abbrev pub after_turn : List ℕ → Store → Store
after_turn namespace s = after s (turn_requests_of (collection s.objects Pod namespace))

abbrev pub after_both : SetParts → ℕ → List ℕ → Store → Store
after_both set digits moment s = after_turn set.object.key.namespace (after_plan set digits moment s)

abbrev pub views_in : SetParts → Store → List PodParts
views_in set s = views_of set (listed_in s set.object.key Pod)

-- The plan of the set over what the store shows: it is not refused, the update revision is in place, and no action is left to the
-- next plan.
pub record IsPlannedOver (set : SetParts) (digits : ℕ) (s : Store) : Type 0 where
  pub owned : List Object
  pub current : Object
  pub update : Object
  pub pods : Pods
  pub in_place : plan_of set (is_held (listed set (listed_in s set.object.key ControllerRevision))) digits (owned_of set (listed_in s set.object.key ControllerRevision)) ≡ Ok (settled owned current update)
  pub fit : fitting_pods set update.key.name current.key.name (views_in set s) ≡ Ok pods
  pub whole : length (full_plan set (listed_claim set (listed_in s set.object.key PersistentVolumeClaim)) (views_in set s) owned current update pods) ≤ most_actions

-- if a revision is written there is nothing else in the plan
abbrev pub AreWhole : SetParts → Store → PlanParts → Type 0
AreWhole set s (created o) = (pods : Pods) × (fitting_pods set [] [] (views_in set s) ≡ Ok pods)
AreWhole set s (renumbered o) = (pods : Pods) × (fitting_pods set [] [] (views_in set s) ≡ Ok pods)
AreWhole set s (settled owned current update) =
    (pods : Pods) × (fitting_pods set update.key.name current.key.name (views_in set s) ≡ Ok pods)
    × (length (full_plan set (listed_claim set (listed_in s set.object.key PersistentVolumeClaim)) (views_in set s) owned current update pods) ≤ most_actions)

-- the same, but that the plan may have to put the update revision in place
pub record IsUnrefusedOver (set : SetParts) (digits : ℕ) (s : Store) : Type 0 where
  pub revisions : PlanParts
  pub are : plan_of set (is_held (listed set (listed_in s set.object.key ControllerRevision))) digits (owned_of set (listed_in s set.object.key ControllerRevision)) ≡ Ok revisions
  pub whole : AreWhole set s revisions

-- A store over which a plan of the set may be carried out, and the set as it was read there: each object is under its key, which
-- the API allows, and has a UID that a store gives. The ordinals are those that the API has, and numbers are left for so many
-- writes.
pub record MayAct (set : SetParts) (writes : ℕ) (s : Store) : Type 0 where
  pub filed : AreFiled s.objects
  pub keys : (key : Key) (o : Object) → Has s key o → is_key key ≡ true
  pub uids : (key : Key) (o : Object) → Has s key o → o.meta.uid < 2 ^ 48
  pub kind : set.object.key.kind ≡ StatefulSet
  pub name : 0 < length set.object.key.name
  pub ordinals : set.start + set.replicas ≤ 2 ^ 31
  pub room : s.counter + writes ≤ s.capacity

-- the set is that of the store
pub record IsReadIn (s : Store) (set : SetParts) : Type 0 where
  pub there : Has s set.object.key set.object
  pub read : set_of set.object ≡ Ok set

-- ---- on pods
-- a deleted pod stays until a kubelet takes it away
abbrev pub marked : Replica → Replica
marked pod = record pod { terminating = true }

-- what is at an ordinal once the steps are carried out, before a kubelet's turn
abbrev pub after_steps : List Step → ℕ → Replica → Option Replica → Option Replica
after_steps steps i new here = if list_any (deletes i) steps then option_map marked here else if list_any (creates i) steps then Some new else here

-- a pod that a plan created: it has not failed, so a kubelet makes it ready
pub record IsCreated (set : SetParts) (i : ℕ) (pod : Replica) : Type 0 where
  pub starting : is_failed pod.readiness ≡ false
  pub staying : pod.terminating ≡ false
  pub updated : revision_at set.strategy i ≡ Update → pod.updated ≡ true
