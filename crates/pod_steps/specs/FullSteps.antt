-- The steps of a plan on a set's pods, before they are truncated: the walk of the StatefulSet controller over the
-- ordinals in range, then over the condemned pods, then the rolling update.
use Rattle.std.specs.Prelude.{◌-◌, ◌==◌, ℕ, List, [], ◌∷◌, ◌++◌, Option, Some, None, Bool, not, ◌&&◌, ◌||◌, nat_le, find, reverse, if◌then◌else◌}
use Rattle.std.specs.List.{flat_map, list_any, range_with_len}
use Rattle.set_views.specs.declared.policies.Policy.{Policy}
use Rattle.set_views.specs.declared.policies.Policy.TheVariants.{OrderedReady, Parallel}
use Rattle.set_views.specs.declared.policies.Strategy.{Strategy}
use Rattle.set_views.specs.declared.policies.Strategy.TheVariants.{RollingUpdate, OnDelete}
use Rattle.set_views.specs.Set.{SetParts}
use Rattle.set_views.specs.Predicates.{in_range, is_ready}
use Rattle.pod_steps.specs.declared.replica.Replica.{Replica}
use Rattle.pod_steps.specs.declared.step.Cause.TheVariants.{Terminating, NotReady}
use Rattle.pod_steps.specs.declared.step.Revision.{Revision}
use Rattle.pod_steps.specs.declared.step.Revision.TheVariants.{Current, Update}
use Rattle.pod_steps.specs.declared.step.Step.{Step}
use Rattle.pod_steps.specs.declared.step.Step.TheVariants.{MakeClaims, KeepClaims, ReleaseClaims, CreatePod, DeletePod, Wait}
use Rattle.pod_steps.specs.Replicas.{Pods, is_out_of_range, is_due, is_failed, lacks_healthy, ordinals, pod_at}
use Rattle.set_views.specs.Predicates.{is_healthy}
use Rattle.pod_steps.specs.Step.{is_of_pod}

-- the revision of a new pod: below the partition of a rolling update the current one, else the update revision
abbrev pub revision_at : Strategy → ℕ → Revision
revision_at (RollingUpdate partition) i = if nat_le partition i then Update else Current
revision_at OnDelete i = Update

-- a new pod, after its claims
abbrev pub creation_steps : SetParts → ℕ → List Step
creation_steps set i = MakeClaims i ∷ CreatePod i (revision_at set.strategy i) ∷ []

-- the claims of a healthy pod
abbrev pub keep_steps : ℕ → List Step
keep_steps i = KeepClaims i ∷ []

-- a condemned pod's delete, after its claims
abbrev pub removal_steps : ℕ → Replica → List Step
removal_steps i pod = ReleaseClaims i pod.uid ∷ DeletePod i pod.uid ∷ []

abbrev pub wait_for : ℕ → Replica → Step
wait_for i pod = Wait i (if pod.terminating then Terminating else NotReady)

-- the update's step on a pod that is due
abbrev pub replacement_steps : ℕ → Option Replica → List Step
replacement_steps i None = []
replacement_steps i (Some pod) = if not pod.updated && not pod.terminating then DeletePod i pod.uid ∷ [] else wait_for i pod ∷ []

abbrev pub rolling_update_steps : Pods → Option ℕ → List Step
rolling_update_steps pods None = []
rolling_update_steps pods (Some i) = replacement_steps i (pod_at pods i)

abbrev pub update_steps_by : Strategy → SetParts → Pods → List Step
update_steps_by (RollingUpdate partition) set pods = rolling_update_steps pods (find (is_due partition pods) (reverse (ordinals set)))
update_steps_by OnDelete set pods = []

unfoldable pub update_steps : SetParts → Pods → List Step
update_steps set pods = update_steps_by set.strategy set pods

-- what is done at an ordinal in range that has no healthy pod
abbrev pub gap_steps : SetParts → ℕ → Option Replica → List Step
gap_steps set i None = creation_steps set i
gap_steps set i (Some pod) =
    if pod.terminating then wait_for i pod ∷ [] else if is_failed pod.readiness then DeletePod i pod.uid ∷ [] else wait_for i pod ∷ []

abbrev pub is_other_unhealthy : SetParts → ℕ → ℕ × Replica → Bool
is_other_unhealthy set highest e = is_out_of_range set e && not (e.0 == highest) && not (is_healthy e.1.readiness e.1.terminating)

-- the highest condemned pod is deleted, unless another one is waited for
abbrev pub removal_steps_unless : ℕ × Replica → Option (ℕ × Replica) → List Step
removal_steps_unless highest None = removal_steps highest.0 highest.1
removal_steps_unless highest (Some other) = wait_for other.0 other.1 ∷ []

abbrev pub scale_down_steps : SetParts → Pods → ℕ × Replica → List Step
scale_down_steps set pods highest =
    if highest.1.terminating
    then wait_for highest.0 highest.1 ∷ []
    else removal_steps_unless highest (find (is_other_unhealthy set highest.0) pods)

-- all ordinals in range have healthy pods; the argument is the highest condemned pod, if there is one
abbrev pub scale_down_or_update_steps : SetParts → Pods → Option (ℕ × Replica) → List Step
scale_down_or_update_steps set pods None = update_steps set pods
scale_down_or_update_steps set pods (Some highest) = scale_down_steps set pods highest

-- the argument is the least ordinal in range without a healthy pod, if there is one
abbrev pub ordered_ready_steps_at : SetParts → Pods → Option ℕ → List Step
ordered_ready_steps_at set pods (Some i) = flat_map keep_steps (range_with_len set.start (i - set.start)) ++ gap_steps set i (pod_at pods i)
ordered_ready_steps_at set pods None = flat_map keep_steps (ordinals set) ++ scale_down_or_update_steps set pods (find (is_out_of_range set) (reverse pods))

abbrev pub ordered_ready_steps : SetParts → Pods → List Step
ordered_ready_steps set pods = ordered_ready_steps_at set pods (find (lacks_healthy pods) (ordinals set))

-- Parallel: what is done at an ordinal in range
abbrev pub target_steps : SetParts → ℕ → Option Replica → List Step
target_steps set i None = creation_steps set i
target_steps set i (Some pod) =
    if pod.terminating then [] else if is_failed pod.readiness then DeletePod i pod.uid ∷ [] else if is_ready pod.readiness then keep_steps i else []

abbrev pub condemned_steps : SetParts → ℕ × Replica → List Step
condemned_steps set e = if in_range set e.0 || e.1.terminating then [] else removal_steps e.0 e.1

abbrev pub all_target_steps : SetParts → Pods → List Step
all_target_steps set pods = flat_map (λ i. target_steps set i (pod_at pods i)) (ordinals set)

unfoldable pub parallel_scaling_steps : SetParts → Pods → List Step
parallel_scaling_steps set pods = all_target_steps set pods ++ flat_map (condemned_steps set) (reverse pods)

abbrev pub parallel_steps : SetParts → Pods → List Step
parallel_steps set pods = parallel_scaling_steps set pods ++ (if list_any is_of_pod (parallel_scaling_steps set pods) then [] else update_steps set pods)

abbrev pub full_steps_by : Policy → SetParts → Pods → List Step
full_steps_by OrderedReady set pods = ordered_ready_steps set pods
full_steps_by Parallel set pods = parallel_steps set pods

abbrev pub full_steps : SetParts → Pods → List Step
full_steps set pods = full_steps_by set.policy set pods
