-- What is known of a plan that deletes a pod in range which has not failed.
use Rattle.std.proofs.Common.{◌≡◌, ℕ, ◌≤◌, ◌<◌, true, false, List, length, filter, Some, None, Ok, refl, sym, ap, ◌∙◌, subst}
use Rattle.std.proofs.lemmas.Bool.{and_parts, leb-true}
use Rattle.std.specs.List.{Contains}
use Rattle.objects.specs.declared.object.Object.{Object}
use Rattle.set_views.specs.declared.policies.Policy.TheVariants.{OrderedReady}
use Rattle.set_views.specs.declared.policies.Strategy.TheVariants.{OnDelete, RollingUpdate}
use Rattle.set_views.specs.Pod.{PodParts}
use Rattle.set_views.specs.Set.{SetParts}
use Rattle.set_views.specs.Predicates.{in_range}
use Rattle.pod_steps.specs.declared.replica.Replica.{Replica}
use Rattle.pod_steps.specs.declared.step.Step.{Step}
use Rattle.pod_steps.specs.declared.step.Step.TheVariants as steps
use Rattle.pod_steps.specs.Listed.{replica_of}
use Rattle.pod_steps.specs.Replicas as replicas
use Rattle.pod_steps.specs.Replicas.{AreInOrder, Pods, is_failed, is_settled, pod_at}
use Rattle.pod_steps.specs.Step.{pod_steps}
use Rattle.pod_steps.specs.FullSteps.{full_steps, update_steps, update_steps_by}
use Rattle.pod_steps.proofs.Causes.{deleted, replaced_from_partition, replaced_in_turn, replaced_where_all_healthy}
use Rattle.pod_steps.proofs.Firsts.{is_listed, replicas_in_order}
use Rattle.pod_steps.proofs.ParallelPlans.{nowhere}
use Rattle.pod_steps.proofs.Replaced.{IsReplaced, by_the_update, none_is_absent, one_is_touched, replaced_is_outdated}
use Rattle.sets.specs.declared.action.Action.{Action}
use Rattle.sets.specs.declared.action.Action.TheVariants.{DeletePod}
use Rattle.sets.specs.Actions.{Claims, name_at}
use Rattle.sets.specs.Laws.{HasHealthyTarget, HasUpdatedTarget, IsNextToUpdate, IsPodAt, is_on_pod}
use Rattle.sets.specs.Plan.{plan_of_pods}
use Rattle.sets.proofs.Origins.{IsOver, deleted_from, few_on_pods, healthy_target, is_from_step, origin, planned_over}

-- the ordinal of a pod that a plan deletes, the pod as it was listed, and as the walk has it
record Gone (set : SetParts) (current update : Object) (listed : List PodParts) (pods : Pods) (name : List ℕ) (uid : ℕ) : Type 0 where
  i : ℕ
  named : name ≡ name_at set i
  pod : PodParts
  at : IsPodAt set listed i pod
  replica : Replica
  same : replica_of set update.key.name current.key.name pod ≡ replica
  here : pod_at pods i ≡ Some replica
  there : Contains (full_steps set pods) (steps.DeletePod i uid)
  sorted : AreInOrder pods

gone_from : (set : SetParts) (claims : Claims) (listed : List PodParts) (owned : List Object) (current update : Object) (actions : List Action) (pods : Pods) (name : List ℕ) (uid : ℕ) → IsOver set claims listed owned current update actions pods → Contains actions (DeletePod name uid) → Gone set current update listed pods name uid
unfolding is_from_step
gone_from set claims listed owned current update actions pods name uid over h =
    let s = origin set claims listed owned current update actions pods (DeletePod name uid) refl over h in
    let d = deleted_from set claims current update s.0 name uid s.2 in
    let P : Step → Type 0 = λ x. Contains (full_steps set pods) x in
    let there : Contains (full_steps set pods) (steps.DeletePod d.0 uid) = subst P d.1 s.1 in
    let sorted = replicas_in_order set update.key.name current.key.name listed pods over.0 in
    let r = deleted set pods d.0 uid sorted there in
    let l = is_listed set update.key.name current.key.name listed pods d.0 r.0 over.0 r.1 in
    record { i = d.0; named = d.2; pod = l.0; at = l.1; replica = r.0; same = l.2; here = r.1; there = there; sorted = sorted }

module _ (set : SetParts) (current update : Object) (listed : List PodParts) (pods : Pods) (name : List ℕ) (uid : ℕ) (g : Gone set current update listed pods name uid) where
  replaced : in_range set g.i ≡ true → is_failed g.pod.readiness ≡ false → IsReplaced set pods g.i uid g.replica
  replaced within staying = record { there = g.there; within = within; here = g.here; staying = ap (λ (r : Replica). is_failed r.readiness) (sym g.same) ∙ staying }

-- ---- no other pod
pub replaced_alone : (set : SetParts) (claims : Claims) (listed : List PodParts) (owned : List Object) (current update : Object) (actions : List Action) (name : List ℕ) (uid : ℕ) → plan_of_pods set claims listed owned current update ≡ Ok actions → Contains actions (DeletePod name uid) → (i : ℕ) × (name ≡ name_at set i) × ((pod : PodParts) × IsPodAt set listed i pod × (in_range set i ≡ true → is_failed pod.readiness ≡ false → length (filter is_on_pod actions) ≤ 1))
replaced_alone set claims listed owned current update actions name uid e h =
    let p = planned_over set claims listed owned current update actions e in
    let g = gone_from set claims listed owned current update actions p.0 name uid p.1 h in (
      g.i,
      g.named,
      (
        g.pod,
        g.at,
        λ within staying.
            let few : length (pod_steps (full_steps set p.0)) ≤ 1 = one_is_touched set p.0 g.i uid g.replica g.sorted (replaced set current update listed p.0 name uid g within staying) in
            few_on_pods set claims listed owned current update actions p.0 p.1 few,
      ),
    )

-- ---- the update
module _ (set : SetParts) (claims : Claims) (listed : List PodParts) (owned : List Object) (current update : Object) (actions : List Action) (pods : Pods) (over : IsOver set claims listed owned current update actions pods) where
  updated_target : (j : ℕ) (y : Replica) → pod_at pods j ≡ Some y → is_settled y ≡ true → HasUpdatedTarget set update.key.name listed j
  updated_target j y here settled =
      let l = is_listed set update.key.name current.key.name listed pods j y over.0 here in
      let parts = and_parts y.updated (replicas.is_healthy_replica y) settled in
      (l.0, l.1, ap (λ (r : Replica). r.owned) l.2 ∙ l.3, ap (λ (r : Replica). r.updated) l.2 ∙ parts.0, ap replicas.is_healthy_replica l.2 ∙ parts.1)

  targets_above : (i uid partition : ℕ) (pod : Replica) (sorted : AreInOrder pods) (gone : IsReplaced set pods i uid pod) → set.strategy ≡ RollingUpdate partition → (j : ℕ) → in_range set j ≡ true → i < j → HasUpdatedTarget set update.key.name listed j
  targets_above i uid partition pod sorted gone rolling j within above =
      elim (pod_at pods j) as (λ o. pod_at pods j ≡ o → HasUpdatedTarget set update.key.name listed j) [
        | Some y ↦ λ here. updated_target j y here (replaced_in_turn set pods partition i uid j y rolling (by_the_update set pods i uid pod sorted gone) within above here)
        | None ↦ λ none. absurd (none_is_absent set pods i uid pod sorted gone j within none)
      ] refl

-- the deleted pod is the next to be updated
next_to_update : (set : SetParts) (claims : Claims) (listed : List PodParts) (owned : List Object) (current update : Object) (actions : List Action) (pods : Pods) (over : IsOver set claims listed owned current update actions pods) (name : List ℕ) (uid partition : ℕ) → set.strategy ≡ RollingUpdate partition → (g : Gone set current update listed pods name uid) → in_range set g.i ≡ true → is_failed g.pod.readiness ≡ false → IsNextToUpdate set update.key.name listed partition g.i g.pod
next_to_update set claims listed owned current update actions pods over name uid partition rolling g within staying =
    let gone = replaced set current update listed pods name uid g within staying in
    let by = by_the_update set pods g.i uid g.replica g.sorted gone in
    let old = replaced_is_outdated set pods g.i uid g.replica g.here by in
    record {
      reached = leb-true partition g.i (replaced_from_partition set pods partition g.i uid rolling by);
      outdated = ap (λ (r : Replica). r.updated) g.same ∙ old.0;
      staying = ap (λ (r : Replica). r.terminating) g.same ∙ old.1;
      above = targets_above set claims listed owned current update actions pods over g.i uid partition g.replica g.sorted gone rolling;
    }

pub updated_downward : (set : SetParts) (claims : Claims) (listed : List PodParts) (owned : List Object) (current update : Object) (actions : List Action) (name : List ℕ) (uid partition : ℕ) → set.strategy ≡ RollingUpdate partition → plan_of_pods set claims listed owned current update ≡ Ok actions → Contains actions (DeletePod name uid) → (i : ℕ) × (name ≡ name_at set i) × ((pod : PodParts) × IsPodAt set listed i pod × (in_range set i ≡ true → is_failed pod.readiness ≡ false → IsNextToUpdate set update.key.name listed partition i pod))
updated_downward set claims listed owned current update actions name uid partition rolling e h =
    let p = planned_over set claims listed owned current update actions e in
    let g = gone_from set claims listed owned current update actions p.0 name uid p.1 h in (
      g.i,
      g.named,
      (
        g.pod,
        g.at,
        next_to_update set claims listed owned current update actions p.0 p.1 name uid partition rolling g,
      ),
    )

-- a pod in range that has not failed is deleted by a rolling update alone
pub updated_by_rolling : (set : SetParts) (claims : Claims) (listed : List PodParts) (owned : List Object) (current update : Object) (actions : List Action) (name : List ℕ) (uid : ℕ) → plan_of_pods set claims listed owned current update ≡ Ok actions → Contains actions (DeletePod name uid) → (i : ℕ) × (name ≡ name_at set i) × ((pod : PodParts) × IsPodAt set listed i pod × (in_range set i ≡ true → is_failed pod.readiness ≡ false → (partition : ℕ) × (set.strategy ≡ RollingUpdate partition) × IsNextToUpdate set update.key.name listed partition i pod))
unfolding update_steps
updated_by_rolling set claims listed owned current update actions name uid e h =
    let p = planned_over set claims listed owned current update actions e in
    let g = gone_from set claims listed owned current update actions p.0 name uid p.1 h in
    let Next : Type 0 = (partition : ℕ) × (set.strategy ≡ RollingUpdate partition) × IsNextToUpdate set update.key.name listed partition g.i g.pod in (
      g.i,
      g.named,
      (
        g.pod,
        g.at,
        λ within staying.
            let by = by_the_update set p.0 g.i uid g.replica g.sorted (replaced set current update listed p.0 name uid g within staying) in
            elim (set.strategy) as (λ s. set.strategy ≡ s → Contains (update_steps_by s set p.0) (steps.DeletePod g.i uid) → Next) [
              | RollingUpdate partition ↦ λ rolling _. (partition, rolling, next_to_update set claims listed owned current update actions p.0 p.1 name uid partition rolling g within staying)
              | OnDelete ↦ λ _ none. absurd (nowhere (steps.DeletePod g.i uid) none)
            ] refl by,
      ),
    )

pub updated_where_healthy : (set : SetParts) (claims : Claims) (listed : List PodParts) (owned : List Object) (current update : Object) (actions : List Action) (name : List ℕ) (uid : ℕ) → set.policy ≡ OrderedReady → plan_of_pods set claims listed owned current update ≡ Ok actions → Contains actions (DeletePod name uid) → (i : ℕ) × (name ≡ name_at set i) × ((pod : PodParts) × IsPodAt set listed i pod × (in_range set i ≡ true → is_failed pod.readiness ≡ false → (j : ℕ) → in_range set j ≡ true → HasHealthyTarget set listed j))
updated_where_healthy set claims listed owned current update actions name uid policy e h =
    let p = planned_over set claims listed owned current update actions e in
    let g = gone_from set claims listed owned current update actions p.0 name uid p.1 h in (
      g.i,
      g.named,
      (
        g.pod,
        g.at,
        λ within staying j there.
            let gone = replaced set current update listed p.0 name uid g within staying in
            healthy_target set update.key.name current.key.name listed p.0 j p.1.0 (replaced_where_all_healthy set p.0 g.i uid j g.replica g.sorted policy g.there within g.here gone.staying there),
      ),
    )
