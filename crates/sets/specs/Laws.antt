-- Definitions that the laws of plans use.
use Rattle.std.specs.Prelude.{◌≡◌, ◌≤◌, ◌<◌, ◌⊎◌, ◌||◌, ℕ, Bool, true, false, List, Some, None, filter, find}
use Rattle.std.specs.List.{Contains, list_any}
use Rattle.serde_json.specs.Data.{Data}
use Rattle.objects.specs.declared.kind.Kind.TheVariants.{PersistentVolumeClaim}
use Rattle.objects.specs.declared.object.Object.{Object}
use Rattle.objects.specs.Key.{key_parts}
use Rattle.objects.specs.PodNames.{claim_name}
use Rattle.set_views.specs.Claims.{Claim}
use Rattle.set_views.specs.Pod.{PodParts}
use Rattle.set_views.specs.Set.{SetParts}
use Rattle.set_views.specs.Predicates.{in_range, is_healthy, owns_pod}
use Rattle.pod_steps.specs.Listed.{has_revision, is_named}
use Rattle.claims.specs.Changes.{entries_of, with_owner_entries}
use Rattle.claims.specs.Owners.{is_of_pod, is_of_set, is_stranger, owner_in_range, owner_of_condemned}
use Rattle.sets.specs.declared.action.Action.{Action}
use Rattle.sets.specs.declared.action.Action.TheVariants.{CreateClaim, CreatePod, DeletePod, UpdateClaim, WriteRevision, DeleteRevision, WriteStatus, Wait}
use Rattle.sets.specs.Actions.{Claims, name_at}

-- the pod of that ordinal, the first that is listed under its name
abbrev pub IsPodAt : SetParts → List PodParts → ℕ → PodParts → Type 0
IsPodAt set listed i pod = find (is_named set i) listed ≡ Some pod

-- the ordinal has a pod of the set's, and it is healthy
abbrev pub HasHealthyTarget : SetParts → List PodParts → ℕ → Type 0
HasHealthyTarget set listed i = (pod : PodParts) × IsPodAt set listed i pod × (owns_pod set pod ≡ true) × (is_healthy pod.readiness pod.terminating ≡ true)

-- the action creates, deletes or waits for a pod
abbrev pub is_on_pod : Action → Bool
is_on_pod (CreateClaim o) = false
is_on_pod (CreatePod o) = true
is_on_pod (DeletePod name uid) = true
is_on_pod (UpdateClaim o) = false
is_on_pod (WriteRevision o) = false
is_on_pod (DeleteRevision name uid version) = false
is_on_pod (WriteStatus o) = false
is_on_pod (Wait cause name) = true

-- the ordinal has a pod of the set's that was made from the revision of that name, and it is healthy
abbrev pub HasUpdatedTarget : SetParts → List ℕ → List PodParts → ℕ → Type 0
HasUpdatedTarget set update listed i = (pod : PodParts) × IsPodAt set listed i pod × (owns_pod set pod ≡ true) × (has_revision update pod ≡ true) × (is_healthy pod.readiness pod.terminating ≡ true)

-- A rolling update down to that partition replaces the pod of that ordinal by one of the revision of that name
-- ("Rolling Updates": "from the largest ordinal to the smallest", each once its predecessor is running and ready).
pub record IsNextToUpdate (set : SetParts) (update : List ℕ) (listed : List PodParts) (partition i : ℕ) (pod : PodParts) : Type 0 where
  pub reached : partition ≤ i
  pub outdated : has_revision update pod ≡ false
  pub staying : pod.terminating ≡ false
  pub above : (j : ℕ) → in_range set j ≡ true → i < j → HasUpdatedTarget set update listed j

-- These actions create the claim of each template that the pod has none of yet.
abbrev pub CreateMissingClaims : SetParts → Claims → List Action → ℕ → Type 0
CreateMissingClaims set claims before i =
    (c : Claim) → Contains set.claims c → claims (claim_name c.0 set.object.key.name i) ≡ None
    → (claim : Object) × Contains before (CreateClaim claim) × (claim.key ≡ key_parts PersistentVolumeClaim set.object.key.namespace (claim_name c.0 set.object.key.name i))

-- those that pass the test are the same, in their order
abbrev pub KeepsAll : (Data → Bool) → List Data → List Data → Type 0
KeepsAll p old new = filter p new ≡ filter p old

-- The claim is a listed one of the ordinal's pod with these owner references. Of those that it had, only such as name
-- the set, the pod or the owner that retention gives it, in range or condemned, may have changed.
pub record IsUpdatedClaim (set : SetParts) (claims : Claims) (i : ℕ) (claim : Object) (entries : List Data) (changed : Object) : Type 0 where
  pub listed : (c : Claim) × Contains set.claims c × (claims (claim_name c.0 set.object.key.name i) ≡ Some claim)
  pub owners : changed ≡ with_owner_entries claim entries
  pub others : KeepsAll (is_stranger set (name_at set i) (owner_in_range set)) (entries_of claim) entries ⊎ ((uid : ℕ) × KeepsAll (is_stranger set (name_at set i) (owner_of_condemned set uid)) (entries_of claim) entries)

-- one of these owner references names the set, or a pod with the name of the ordinal's
abbrev pub name_set_or_pod : SetParts → ℕ → List Data → Bool
name_set_or_pod set i entries = list_any (λ entry. is_of_set set entry || is_of_pod (name_at set i) entry) entries
