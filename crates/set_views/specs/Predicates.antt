-- The predicates of a plan (Kubernetes, "StatefulSets": "Pod Identity", "Deployment and Scaling Guarantees").
use Rattle.std.specs.Prelude.{ℕ, ◌+◌, ◌==◌, Bool, true, false, not, ◌&&◌, nat_le, nat_lt, bytes_eq, Option, Some, None, option_and_then, if◌then◌else◌}
use Rattle.objects.specs.declared.kind.Kind.{Kind}
use Rattle.objects.specs.declared.object.Object.{Object}
use Rattle.objects.specs.Key.{kind_index}
use Rattle.set_views.specs.declared.readiness.Readiness.{Readiness}
use Rattle.set_views.specs.declared.readiness.Readiness.TheVariants.{Failed, Ready, NotReady}
use Rattle.set_views.specs.Owners.{is_controlled}
use Rattle.set_views.specs.Pod.{PodParts}
use Rattle.set_views.specs.Set.{SetParts}

abbrev pub is_kind : Kind → Kind → Bool
is_kind kind k = kind_index k == kind_index kind

-- an object of that kind in the set's namespace
abbrev pub in_namespace : SetParts → Kind → Object → Bool
in_namespace set kind o = is_kind kind o.key.kind && bytes_eq o.key.namespace set.object.key.namespace

-- the ordinals from `start` on, as many as there are replicas
abbrev pub in_range : SetParts → ℕ → Bool
in_range set i = nat_le set.start i && nat_lt i (set.start + set.replicas)

-- the ordinal of a pod with a name of the set
abbrev pub ordinal_in : SetParts → PodParts → Option ℕ
ordinal_in set pod = option_and_then (λ s. if bytes_eq s.0 set.object.key.name then Some s.1 else None) pod.split_name

-- the set controls the pod
abbrev pub owns_pod : SetParts → PodParts → Bool
owns_pod set pod = is_controlled set.object.meta.uid pod.owners

abbrev pub is_ready : Readiness → Bool
is_ready Ready = true
is_ready NotReady = false
is_ready Failed = false

-- running and ready, and not terminating
abbrev pub is_healthy : Readiness → (terminating : Bool) → Bool
is_healthy readiness terminating = is_ready readiness && not terminating
