-- What scaling does to pods (Kubernetes, "StatefulSets": "Deployment and Scaling Guarantees" and "Pod Management
-- Policies"), by the least and the largest ordinals that matter. All of it is about the steps that are not on claims.
use Rattle.std.specs.Prelude.{◌≡◌, ◌≢◌, ◌↔◌, ◌⊎◌, ℕ, List, [], ◌∷◌, Option, Some, None, true, false, IsSome}
use Rattle.std.specs.List.{Contains}
use Rattle.set_views.specs.Set.{SetParts}
use Rattle.set_views.specs.Predicates.{in_range}
use Rattle.pod_steps.specs.declared.replica.Replica.{Replica}
use Rattle.pod_steps.specs.declared.step.Cause.{Cause}
use Rattle.pod_steps.specs.declared.step.Cause.TheVariants.{Terminating, NotReady}
use Rattle.pod_steps.specs.declared.step.Revision.{Revision}
use Rattle.pod_steps.specs.declared.step.Step.{Step}
use Rattle.pod_steps.specs.declared.step.Step.TheVariants.{CreatePod, DeletePod, Wait}
use Rattle.pod_steps.specs.Least.{IsLeast, IsGreatest}
use Rattle.pod_steps.specs.Replicas.{Pods, has_healthy_pod, is_failed, pod_at}
use Rattle.pod_steps.specs.Update.{Updates}
use Rattle.pod_steps.specs.FullSteps.{revision_at, wait_for}

-- an ordinal in range without a healthy pod
abbrev pub IsGap : SetParts → Pods → ℕ → Type 0
IsGap set pods i = (in_range set i ≡ true) × (has_healthy_pod pods i ≡ false)

-- an ordinal out of range that has a pod
abbrev pub HasCondemned : SetParts → Pods → ℕ → Type 0
HasCondemned set pods i = (in_range set i ≡ false) × IsSome (pod_at pods i)

-- an ordinal out of range, another than i, that has a pod which is not healthy
abbrev pub IsHolding : SetParts → Pods → ℕ → ℕ → Type 0
IsHolding set pods i j = (j ≢ i) × HasCondemned set pods j × (has_healthy_pod pods j ≡ false)

-- at an ordinal in range without a healthy pod: a missing pod is created, a failed one is deleted so that it is made
-- again, and any other is waited for
pub record ClosesGap (set : SetParts) (i : ℕ) (here : Option Replica) (steps : List Step) : Type 0 where
  pub absent : here ≡ None → steps ≡ CreatePod i (revision_at set.strategy i) ∷ []
  pub terminating : (pod : Replica) → here ≡ Some pod → pod.terminating ≡ true → steps ≡ Wait i Terminating ∷ []
  pub failed : (pod : Replica) → here ≡ Some pod → pod.terminating ≡ false → is_failed pod.readiness ≡ true → steps ≡ DeletePod i pod.uid ∷ []
  pub not_ready : (pod : Replica) → here ≡ Some pod → pod.terminating ≡ false → is_failed pod.readiness ≡ false → steps ≡ Wait i NotReady ∷ []

-- the highest condemned pod is deleted once every other one is healthy; until then, or while it is terminating itself,
-- the plan waits
pub record ScalesDown (set : SetParts) (pods : Pods) (i : ℕ) (pod : Replica) (steps : List Step) : Type 0 where
  pub terminating : pod.terminating ≡ true → steps ≡ Wait i Terminating ∷ []
  pub held : pod.terminating ≡ false → (j : ℕ) (other : Replica) → IsLeast (IsHolding set pods i) j → pod_at pods j ≡ Some other → steps ≡ wait_for j other ∷ []
  pub free : pod.terminating ≡ false → ((j : ℕ) → ¬ IsHolding set pods i j) → steps ≡ DeletePod i pod.uid ∷ []

-- "OrderedReady Pod Management": one pod at a time
pub record ScalesOrderedReady (set : SetParts) (pods : Pods) (steps : List Step) : Type 0 where
  -- "Before a scaling operation is applied to a Pod, all of its predecessors must be Running and Ready": the least
  -- ordinal in range without a healthy pod is the only one where anything is done
  pub gap : (i : ℕ) → IsLeast (IsGap set pods) i → ClosesGap set i (pod_at pods i) steps
  -- "Before a Pod is terminated, all of its successors must be completely shutdown": if there is none, it is the
  -- highest condemned pod
  pub condemned : ((i : ℕ) → ¬ IsGap set pods i) → (i : ℕ) (pod : Replica) → IsGreatest (HasCondemned set pods) i → pod_at pods i ≡ Some pod → ScalesDown set pods i pod steps
  -- if no pod is condemned either, the update alone does anything
  pub neither : ((i : ℕ) → ¬ IsGap set pods i) → ((i : ℕ) → ¬ HasCondemned set pods i) → Updates set pods steps

-- an ordinal in range that has no pod
abbrev pub IsAbsent : SetParts → Pods → ℕ → Type 0
IsAbsent set pods i = (in_range set i ≡ true) × (pod_at pods i ≡ None)

-- a pod that is not terminating, and is failed or condemned
pub record IsDismissed (set : SetParts) (pods : Pods) (i : ℕ) (pod : Replica) : Type 0 where
  pub here : pod_at pods i ≡ Some pod
  pub staying : pod.terminating ≡ false
  pub failed : in_range set i ≡ true → is_failed pod.readiness ≡ true

-- some pod is to be created or deleted for another cause than the update
abbrev pub CallsForScaling : SetParts → Pods → Type 0
CallsForScaling set pods = ((i : ℕ) × IsAbsent set pods i) ⊎ ((i : ℕ) × ((pod : Replica) × IsDismissed set pods i pod))

-- "Parallel Pod Management": all pods at once, and none is waited for
pub record ScalesParallel (set : SetParts) (pods : Pods) (steps : List Step) : Type 0 where
  -- the creates are exactly the absent ordinals in range
  pub creates : (i : ℕ) (revision : Revision) → Contains steps (CreatePod i revision) ↔ (IsAbsent set pods i × (revision_at set.strategy i ≡ revision))
  -- the deletes are exactly the failed pods in range and the condemned ones, of those that are not terminating
  pub deletes : CallsForScaling set pods → (i uid : ℕ) → Contains steps (DeletePod i uid) ↔ ((pod : Replica) × IsDismissed set pods i pod × (pod.uid ≡ uid))
  pub waits : CallsForScaling set pods → (i : ℕ) (cause : Cause) → ¬ Contains steps (Wait i cause)
  -- if there is none of either, the update alone does anything
  pub neither : ¬ CallsForScaling set pods → Updates set pods steps
