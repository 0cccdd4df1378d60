-- What is known of the pods of a set when one in range that has not failed is deleted.
use Rattle.std.proofs.Common.{◌≡◌, inl, inr, ℕ, ◌≤◌, true, false, not, List, [], ◌∷◌, length, find, reverse, Option, Some, None, refl, sym, ap, ◌∙◌, subst}
use Rattle.std.specs.List.{Contains}
use Rattle.std.specs.Option.{option_map_or}
use Rattle.std.specs.Prelude.{◌&&◌, if◌then◌else◌}
use Rattle.set_views.specs.declared.policies.Policy.{Policy}
use Rattle.set_views.specs.declared.policies.Policy.TheVariants.{OrderedReady, Parallel}
use Rattle.set_views.specs.declared.policies.Strategy.TheVariants.{RollingUpdate, OnDelete}
use Rattle.set_views.specs.Set.{SetParts}
use Rattle.set_views.specs.Predicates.{in_range}
use Rattle.pod_steps.specs.declared.replica.Replica.{Replica}
use Rattle.pod_steps.specs.declared.step.Step.{Step}
use Rattle.pod_steps.specs.declared.step.Step.TheVariants.{DeletePod}
use Rattle.pod_steps.specs.Replicas.{AreInOrder, Pods, has_healthy_pod, is_due, is_failed, is_healthy_replica, ordinals, pod_at}
use Rattle.pod_steps.specs.Scaling.{CallsForScaling}
use Rattle.pod_steps.specs.Step.{is_of_pod, pod_steps}
use Rattle.pod_steps.specs.FullSteps.{parallel_steps, full_steps, full_steps_by, replacement_steps, rolling_update_steps, update_steps, update_steps_by, wait_for}
use Rattle.pod_steps.proofs.ParallelPlans.{alone, nowhere, scales_parallel, stays_there, uncalled_updates}
use Rattle.pod_steps.proofs.Causes.{deleted, one_at_a_time, one_update, replaced_where_all_healthy}

-- the update deletes a pod at another revision that is not terminating
outdated_here : (i k uid : ℕ) (pod : Replica) (here : Option Replica) → here ≡ Some pod → Contains (replacement_steps k here) (DeletePod i uid) → (pod.updated ≡ false) × (pod.terminating ≡ false)
outdated_here i k uid pod None e h = absurd (nowhere (DeletePod i uid) h)
outdated_here i k uid pod (Some x) e h =
    let same : x ≡ pod = cc in
    elim (x.updated) as (λ u. x.updated ≡ u → Contains (if not u && not x.terminating then DeletePod k x.uid ∷ [] else wait_for k x ∷ []) (DeletePod i uid) → (pod.updated ≡ false) × (pod.terminating ≡ false)) [
      | true ↦ λ a m. let clash : wait_for k x ≡ DeletePod i uid = alone (wait_for k x) (DeletePod i uid) m in absurd (cc)
      | false ↦ λ a m. elim (x.terminating) as (λ t. x.terminating ≡ t → Contains (if not false && not t then DeletePod k x.uid ∷ [] else wait_for k x ∷ []) (DeletePod i uid) → (pod.updated ≡ false) × (pod.terminating ≡ false)) [
        | true ↦ λ b n. let clash : wait_for k x ≡ DeletePod i uid = alone (wait_for k x) (DeletePod i uid) n in absurd (cc)
        | false ↦ λ b n. (ap (λ (r : Replica). r.updated) (sym same) ∙ a, ap (λ (r : Replica). r.terminating) (sym same) ∙ b)
      ] refl m
    ] refl h

deletes_at : (i k uid : ℕ) (here : Option Replica) → Contains (replacement_steps k here) (DeletePod i uid) → k ≡ i
deletes_at i k uid None h = absurd (nowhere (DeletePod i uid) h)
deletes_at i k uid (Some x) h =
    elim (not x.updated && not x.terminating) as (λ b. Contains (if b then DeletePod k x.uid ∷ [] else wait_for k x ∷ []) (DeletePod i uid) → k ≡ i) [
      | true ↦ λ m. let e : DeletePod k x.uid ≡ DeletePod i uid = alone (DeletePod k x.uid) (DeletePod i uid) m in cc
      | false ↦ λ m. let e : wait_for k x ≡ DeletePod i uid = alone (wait_for k x) (DeletePod i uid) m in absurd (cc)
    ] h

outdated_rolling_update : (pods : Pods) (i uid : ℕ) (pod : Replica) (due : Option ℕ) → pod_at pods i ≡ Some pod → Contains (rolling_update_steps pods due) (DeletePod i uid) → (pod.updated ≡ false) × (pod.terminating ≡ false)
outdated_rolling_update pods i uid pod None here h = absurd (nowhere (DeletePod i uid) h)
outdated_rolling_update pods i uid pod (Some k) here h =
    let at : k ≡ i = deletes_at i k uid (pod_at pods k) h in
    outdated_here i k uid pod (pod_at pods k) (ap (pod_at pods) at ∙ here) h

pub replaced_is_outdated : (set : SetParts) (pods : Pods) (i uid : ℕ) (pod : Replica) → pod_at pods i ≡ Some pod → Contains (update_steps set pods) (DeletePod i uid) → (pod.updated ≡ false) × (pod.terminating ≡ false)
unfolding update_steps
replaced_is_outdated set pods i uid pod here h =
    elim (set.strategy) as (λ s. Contains (update_steps_by s set pods) (DeletePod i uid) → (pod.updated ≡ false) × (pod.terminating ≡ false)) [
      | RollingUpdate partition ↦ λ m. outdated_rolling_update pods i uid pod (find (is_due partition pods) (reverse (ordinals set))) here m
      | OnDelete ↦ λ m. absurd (nowhere (DeletePod i uid) m)
    ] h

-- ---- a pod in range that is deleted and has not failed
pub record IsReplaced (set : SetParts) (pods : Pods) (i uid : ℕ) (pod : Replica) : Type 0 where
  pub there : Contains (full_steps set pods) (DeletePod i uid)
  pub within : in_range set i ≡ true
  pub here : pod_at pods i ≡ Some pod
  pub staying : is_failed pod.readiness ≡ false

module _ (set : SetParts) (pods : Pods) (i uid : ℕ) (pod : Replica) (sorted : AreInOrder pods) (gone : IsReplaced set pods i uid pod) where
  -- the update is why
  pub by_the_update : Contains (update_steps set pods) (DeletePod i uid)
  by_the_update =
      let r = deleted set pods i uid sorted gone.there in
      let both : Some r.0 ≡ Some pod = sym r.1 ∙ gone.here in
      let same : r.0 ≡ pod = cc in
      elim (r.3) [
        | inl m ↦ let clash : true ≡ false = sym (ap (λ (x : Replica). is_failed x.readiness) (sym same) ∙ m.1) ∙ gone.staying in absurd (cc)
        | inr m ↦ elim (m) [
          | inl out ↦ let clash : true ≡ false = sym gone.within ∙ out in absurd (cc)
          | inr n ↦ n.0
        ]
      ]

  -- under Parallel nothing else is called for then
  none_called : set.policy ≡ Parallel → CallsForScaling set pods → ⊥
  none_called policy called =
      let P : Policy → Type 0 = λ p. Contains (full_steps_by p set pods) (DeletePod i uid) in
      let among : Contains (pod_steps (parallel_steps set pods)) (DeletePod i uid) = stays_there is_of_pod (parallel_steps set pods) (DeletePod i uid) (subst P policy gone.there) refl in
      let r = ((scales_parallel set pods sorted).deletes called i uid).0 among in
      let both : Some r.0 ≡ Some pod = sym r.1.here ∙ gone.here in
      let same : r.0 ≡ pod = cc in
      let clash : true ≡ false = sym (ap (λ (x : Replica). is_failed x.readiness) (sym same) ∙ r.1.failed gone.within) ∙ gone.staying in
      absurd (cc)

  -- each ordinal in range has a pod
  pub none_is_absent : (j : ℕ) → in_range set j ≡ true → pod_at pods j ≡ None → ⊥
  none_is_absent j within none =
      elim (set.policy) as (λ p. set.policy ≡ p → ⊥) [
        | OrderedReady ↦ λ e.
            let healthy : has_healthy_pod pods j ≡ true = replaced_where_all_healthy set pods i uid j pod sorted e gone.there gone.within gone.here gone.staying within in
            let clash : false ≡ true = sym (ap (λ o. option_map_or is_healthy_replica o false) none) ∙ healthy in
            absurd (cc)
        | Parallel ↦ λ e. none_called e (inl (j, (within, none)))
      ] refl

  -- no other pod is created, deleted or waited for
  pub one_is_touched : length (pod_steps (full_steps set pods)) ≤ 1
  one_is_touched =
      elim (set.policy) as (λ p. set.policy ≡ p → length (pod_steps (full_steps_by p set pods)) ≤ 1) [
        | OrderedReady ↦ λ e. let P : Policy → Type 0 = λ p. length (pod_steps (full_steps_by p set pods)) ≤ 1 in subst P e (one_at_a_time set pods e)
        | Parallel ↦ λ e.
            let P : List Step → Type 0 = λ l. length l ≤ 1 in
            subst P (sym (uncalled_updates set pods sorted (none_called e))) (one_update set pods)
      ] refl
