-- The pods of a set by their ordinals (Kubernetes, "StatefulSets": "Ordinal Index"), and the predicates of a walk over
-- them. They are pairs of an ordinal and its pod, in the order of ordinals.
use Rattle.std.specs.Prelude.{ℕ, List, Option, Bool, true, false, not, ◌&&◌, nat_le}
use Rattle.std.specs.BTreeMap.{is_at}
use Rattle.std.specs.List.{range_with_len}
use Rattle.std.specs.List.Sorted.{IsStrictlySortedBy}
use Rattle.std.specs.Map.{keys_of, lookup}
use Rattle.std.specs.Option.{option_map_or}
use Rattle.std.specs.Ordering.{nat_cmp}
use Rattle.set_views.specs.declared.readiness.Readiness.{Readiness}
use Rattle.set_views.specs.declared.readiness.Readiness.TheVariants.{Failed, Ready, NotReady}
use Rattle.set_views.specs.Set.{SetParts}
use Rattle.set_views.specs.Predicates.{in_range, is_healthy}
use Rattle.pod_steps.specs.declared.replica.Replica.{Replica}

abbrev pub Pods : Type 0
Pods = List (ℕ × Replica)

abbrev pub AreInOrder : Pods → Type 0
AreInOrder pods = IsStrictlySortedBy nat_cmp (keys_of pods)

abbrev pub pod_at : Pods → ℕ → Option Replica
pod_at pods i = lookup (is_at (nat_cmp i)) pods

-- the ordinals in range, upward
abbrev pub ordinals : SetParts → List ℕ
ordinals set = range_with_len set.start set.replicas

abbrev pub is_failed : Readiness → Bool
is_failed Ready = false
is_failed NotReady = false
is_failed Failed = true

abbrev pub has_healthy_pod : Pods → ℕ → Bool
has_healthy_pod pods i = option_map_or (λ (pod : Replica). is_healthy pod.readiness pod.terminating) (pod_at pods i) false

abbrev pub lacks_healthy : Pods → ℕ → Bool
lacks_healthy pods i = not (has_healthy_pod pods i)

-- the pod is at the update revision and healthy
abbrev pub is_settled : Replica → Bool
is_settled pod = pod.updated && is_healthy pod.readiness pod.terminating

-- the same rule of a replica, by the name that proofs use
abbrev pub is_healthy_replica : Replica → Bool
is_healthy_replica pod = is_healthy pod.readiness pod.terminating

-- a rolling update down to that partition has still to replace the ordinal's pod, or to wait for it
abbrev pub is_due : ℕ → Pods → ℕ → Bool
is_due partition pods i = nat_le partition i && option_map_or (λ pod. not (is_settled pod)) (pod_at pods i) false

abbrev pub is_out_of_range : SetParts → ℕ × Replica → Bool
is_out_of_range set e = not (in_range set e.0)
