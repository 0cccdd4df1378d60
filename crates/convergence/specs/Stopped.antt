-- What stops a scale-down under OrderedReady for good: a failed pod out of range below another one out of range.
use Rattle.std.specs.Prelude.{◌≡◌, ℕ, ◌≤◌, ◌<◌, true, false, Some}
use Rattle.set_views.specs.Set.{SetParts}
use Rattle.set_views.specs.Predicates.{in_range}
use Rattle.pod_steps.specs.declared.replica.Replica.{Replica}
use Rattle.pod_steps.specs.Replicas.{Pods, is_failed, pod_at}

-- the pod at an ordinal out of range, not marked
abbrev pub IsLeftOver : SetParts → Pods → ℕ → Replica → Type 0
IsLeftOver set pods i pod = (in_range set i ≡ false) × (pod_at pods i ≡ Some pod) × (pod.terminating ≡ false)

-- a failed pod is left over, and above it another one
pub record IsStopped (set : SetParts) (pods : Pods) : Type 0 where
  pub low : ℕ
  pub pod : Replica
  pub left : IsLeftOver set pods low pod
  pub failed : is_failed pod.readiness ≡ true
  pub high : ℕ
  pub other : Replica
  pub above : IsLeftOver set pods high other
  pub is_above : low < high

-- there is no such pod: one that has failed is the highest that is left over
abbrev pub IsUnstopped : SetParts → Pods → Type 0
IsUnstopped set pods = (i j : ℕ) (pod other : Replica) → IsLeftOver set pods i pod → is_failed pod.readiness ≡ true → IsLeftOver set pods j other → j ≤ i
