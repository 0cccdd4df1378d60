-- A plan that waits for a pod touches no other.
use Rattle.std.proofs.Common.{◌≡◌, ℕ, ◌≤◌, List, length, Ok, refl, sym, subst}
use Rattle.std.specs.List.{Contains}
use Rattle.set_views.specs.declared.policies.Policy.{Policy}
use Rattle.set_views.specs.declared.policies.Policy.TheVariants.{OrderedReady, Parallel}
use Rattle.set_views.specs.Pod.{PodParts}
use Rattle.set_views.specs.Set.{SetParts}
use Rattle.pod_steps.specs.declared.step.Cause.{Cause}
use Rattle.pod_steps.specs.declared.step.Step.{Step}
use Rattle.pod_steps.specs.declared.step.Step.TheVariants.{Wait}
use Rattle.pod_steps.specs.Listed.{replicas_in}
use Rattle.pod_steps.specs.Replicas.{Pods}
use Rattle.pod_steps.specs.Step.{is_of_pod, pod_steps}
use Rattle.pod_steps.specs.FullSteps.{full_steps, full_steps_by, parallel_steps}
use Rattle.pod_steps.proofs.Causes.{one_at_a_time, one_update}
use Rattle.pod_steps.proofs.Firsts.{replicas_in_order}
use Rattle.pod_steps.proofs.ParallelPlans.{scales_parallel, stays_there, uncalled_updates}

pub alone_where_waiting : (set : SetParts) (update current : List ℕ) (listed : List PodParts) (pods : Pods) (i : ℕ) (cause : Cause)
    → replicas_in set update current listed ≡ Ok pods → Contains (full_steps set pods) (Wait i cause) → length (pod_steps (full_steps set pods)) ≤ 1
alone_where_waiting set update current listed pods i cause e h =
    let sorted = replicas_in_order set update current listed pods e in
    elim (set.policy) as (λ p. set.policy ≡ p → Contains (full_steps_by p set pods) (Wait i cause) → length (pod_steps (full_steps_by p set pods)) ≤ 1) [
      | OrderedReady ↦ λ ordered _. let P : Policy → Type 0 = λ p. length (pod_steps (full_steps_by p set pods)) ≤ 1 in subst P ordered (one_at_a_time set pods ordered)
      | Parallel ↦ λ _ waits.
          let among : Contains (pod_steps (parallel_steps set pods)) (Wait i cause) = stays_there is_of_pod (parallel_steps set pods) (Wait i cause) waits refl in
          let P : List Step → Type 0 = λ l. length l ≤ 1 in
          subst P (sym (uncalled_updates set pods sorted (λ called. (scales_parallel set pods sorted).waits called i cause among))) (one_update set pods)
    ] refl h
