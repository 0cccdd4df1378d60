-- What the update strategy does to pods (Kubernetes, "StatefulSets": "Update strategies").
use Rattle.std.specs.Prelude.{◌≡◌, ℕ, List, [], ◌∷◌, Some, true, false}
use Rattle.set_views.specs.declared.policies.Strategy.TheVariants.{RollingUpdate, OnDelete}
use Rattle.set_views.specs.Set.{SetParts}
use Rattle.set_views.specs.Predicates.{in_range}
use Rattle.pod_steps.specs.declared.replica.Replica.{Replica}
use Rattle.pod_steps.specs.declared.step.Cause.TheVariants.{Terminating, NotReady}
use Rattle.pod_steps.specs.declared.step.Step.{Step}
use Rattle.pod_steps.specs.declared.step.Step.TheVariants.{DeletePod, Wait}
use Rattle.pod_steps.specs.Least.{IsGreatest}
use Rattle.pod_steps.specs.Replicas.{Pods, is_due, pod_at}

-- an ordinal in range, not below the partition, whose pod is not at the update revision or not healthy
abbrev pub IsDue : SetParts → ℕ → Pods → ℕ → Type 0
IsDue set partition pods i = (in_range set i ≡ true) × (is_due partition pods i ≡ true)

-- a pod at another revision is deleted; one that is terminating, or new and not ready, is waited for
pub record Replaces (i : ℕ) (pod : Replica) (steps : List Step) : Type 0 where
  pub outdated : pod.updated ≡ false → pod.terminating ≡ false → steps ≡ DeletePod i pod.uid ∷ []
  pub terminating : pod.terminating ≡ true → steps ≡ Wait i Terminating ∷ []
  pub not_ready : pod.updated ≡ true → pod.terminating ≡ false → steps ≡ Wait i NotReady ∷ []

pub record Updates (set : SetParts) (pods : Pods) (steps : List Step) : Type 0 where
  -- "Rolling Updates" and "Partitioned rolling updates": from the largest ordinal down to the partition, one pod at a
  -- time, each once the one that was replaced before it is running and ready
  pub due : (partition : ℕ) → set.strategy ≡ RollingUpdate partition → (i : ℕ) (pod : Replica) → IsGreatest (IsDue set partition pods) i → pod_at pods i ≡ Some pod → Replaces i pod steps
  pub none_due : (partition : ℕ) → set.strategy ≡ RollingUpdate partition → ((i : ℕ) → ¬ IsDue set partition pods i) → steps ≡ []
  -- "On Delete": no pod is updated by the controller
  pub on_delete : set.strategy ≡ OnDelete → steps ≡ []
