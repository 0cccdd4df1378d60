-- What a StatefulSet's status says of its pods (Kubernetes API reference, apps/v1, StatefulSetStatus).
use Rattle.std.specs.Prelude.{ℕ, Bool, false, not, ◌&&◌, filter, length, if◌then◌else◌}
use Rattle.std.specs.List.{list_all, list_any}
use Rattle.std.specs.Option.{option_map_or}
use Rattle.set_views.specs.declared.policies.Strategy.{Strategy}
use Rattle.set_views.specs.declared.policies.Strategy.TheVariants.{RollingUpdate, OnDelete}
use Rattle.set_views.specs.Set.{SetParts}
use Rattle.set_views.specs.Predicates.{is_ready}
use Rattle.pod_steps.specs.declared.replica.Replica.{Replica}
use Rattle.pod_steps.specs.declared.status.Counts.{Counts}
use Rattle.pod_steps.specs.Replicas.{Pods, is_out_of_range, is_settled, ordinals, pod_at}

-- a healthy pod at the update revision
abbrev pub has_settled_pod : Pods → ℕ → Bool
has_settled_pod pods i = option_map_or is_settled (pod_at pods i) false

abbrev pub is_rolled_out_by : Strategy → SetParts → Pods → Bool
is_rolled_out_by (RollingUpdate partition) set pods = list_all (has_settled_pod pods) (ordinals set) && not (list_any (is_out_of_range set) pods)
is_rolled_out_by OnDelete set pods = false

-- the update revision is then the current one
abbrev pub is_rolled_out : SetParts → Pods → Bool
is_rolled_out set pods = is_rolled_out_by set.strategy set pods

abbrev pub is_ready_entry : ℕ × Replica → Bool
is_ready_entry e = is_ready e.1.readiness

abbrev pub is_updated : ℕ × Replica → Bool
is_updated e = e.1.updated && not e.1.terminating

abbrev pub is_current : ℕ × Replica → Bool
is_current e = e.1.current && not e.1.terminating

abbrev pub counts_of : SetParts → Pods → Counts
counts_of set pods = record {
  replicas = length pods;
  ready = length (filter is_ready_entry pods);
  current = if is_rolled_out set pods then length (filter is_updated pods) else length (filter is_current pods);
  updated = length (filter is_updated pods);
}
