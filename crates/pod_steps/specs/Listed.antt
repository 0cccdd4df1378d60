-- The pods of a set by their ordinals, found in a list of pods of its namespace.
use Rattle.std.specs.Prelude.{ℕ, ◌==◌, List, [], ◌∷◌, Option, Some, None, Result, Ok, Err, Bool, false, not, ◌&&◌, bytes_eq, filter, find}
use Rattle.std.specs.BTreeMap.{insert_entry}
use Rattle.std.specs.Option.{option_map_or}
use Rattle.std.specs.Ordering.{nat_cmp}
use Rattle.objects.specs.PodNames.{pod_name}
use Rattle.set_views.specs.declared.fault.PlanError.{PlanError}
use Rattle.set_views.specs.declared.fault.PlanError.TheVariants.{Foreign}
use Rattle.set_views.specs.Pod.{PodParts}
use Rattle.set_views.specs.Set.{SetParts}
use Rattle.set_views.specs.Predicates.{in_range, owns_pod, ordinal_in}
use Rattle.pod_steps.specs.declared.replica.Replica.{Replica}
use Rattle.pod_steps.specs.Replicas.{Pods}

-- the pod was made from the revision of that name
abbrev pub has_revision : List ℕ → PodParts → Bool
has_revision name pod = option_map_or (λ revision. bytes_eq revision name) pod.revision false

-- what a walk needs of a pod, given the names of its set's update and current revisions
abbrev pub replica_of : SetParts → List ℕ → List ℕ → PodParts → Replica
replica_of set update current pod = record {
  owned = owns_pod set pod;
  uid = pod.uid;
  readiness = pod.readiness;
  terminating = pod.terminating;
  updated = has_revision update pod;
  current = has_revision current pod;
}

-- the pod has the name of that ordinal of the set
abbrev pub is_named : SetParts → ℕ → PodParts → Bool
is_named set i pod = option_map_or (λ j. i == j) (ordinal_in set pod) false

-- the pods with one more at its ordinal, if its name is one of the set's
abbrev pub with_pod : SetParts → List ℕ → List ℕ → Pods → PodParts → Pods
with_pod set update current pods pod = option_map_or (λ i. insert_entry nat_cmp pods i (replica_of set update current pod)) (ordinal_in set pod) pods

-- the pods with names of the set; of several with one name the first counts
unfoldable pub by_ordinal : SetParts → List ℕ → List ℕ → List PodParts → Pods
by_ordinal set update current [] = []
by_ordinal set update current (pod ∷ listed) = with_pod set update current (by_ordinal set update current listed) pod

-- an ordinal in range whose pod the set does not control
abbrev pub is_foreign : SetParts → ℕ × Replica → Bool
is_foreign set e = in_range set e.0 && not e.1.owned

abbrev pub owned_of : Pods → Pods
owned_of pods = filter (λ e. e.1.owned) pods

-- the set's own pods, unless one in range is foreign; of several the least is named
abbrev pub unless_foreign : SetParts → Pods → Option (ℕ × Replica) → Result Pods PlanError
unless_foreign set pods None = Ok (owned_of pods)
unless_foreign set pods (Some e) = Err (Foreign (pod_name set.object.key.name e.0))

abbrev pub replicas_in : SetParts → List ℕ → List ℕ → List PodParts → Result Pods PlanError
replicas_in set update current listed =
    let pods = by_ordinal set update current listed in unless_foreign set pods (find (is_foreign set) pods)
