-- Pods that stand as the spec says, and pods as a kubelet's turn leaves them.
use Rattle.std.specs.Prelude.{◌≡◌, ℕ, Bool, true, false, nat_le, Some, None}
use Rattle.set_views.specs.declared.policies.Strategy.{Strategy}
use Rattle.set_views.specs.declared.policies.Strategy.TheVariants.{RollingUpdate, OnDelete}
use Rattle.set_views.specs.Set.{SetParts}
use Rattle.set_views.specs.Predicates.{in_range, is_ready}
use Rattle.pod_steps.specs.declared.replica.Replica.{Replica}
use Rattle.pod_steps.specs.Replicas.{Pods, has_healthy_pod, is_failed, pod_at}

-- a rolling update reaches down to the ordinal
abbrev pub is_reached : Strategy → ℕ → Bool
is_reached (RollingUpdate partition) i = nat_le partition i
is_reached OnDelete i = false

-- what the spec says of the pods: each ordinal in range has a healthy one, at the update revision as far as a rolling update
-- reaches, and no other ordinal has one
pub record Stands (set : SetParts) (pods : Pods) : Type 0 where
  pub healthy : (i : ℕ) → in_range set i ≡ true → has_healthy_pod pods i ≡ true
  pub updated : (i : ℕ) (pod : Replica) → in_range set i ≡ true → is_reached set.strategy i ≡ true → pod_at pods i ≡ Some pod → pod.updated ≡ true
  pub alone : (i : ℕ) → in_range set i ≡ false → pod_at pods i ≡ None

-- the pod is not marked, and it is ready or has ended
pub record IsTended (pod : Replica) : Type 0 where
  pub staying : pod.terminating ≡ false
  pub ready : is_failed pod.readiness ≡ false → is_ready pod.readiness ≡ true

abbrev pub AreTended : Pods → Type 0
AreTended pods = (i : ℕ) (pod : Replica) → pod_at pods i ≡ Some pod → IsTended pod
