-- Plans over the pods of a list.
use Rattle.std.proofs.Common.{◌≡◌, ℕ, true, false, List, Some, None, Ok, find, ap, ◌∙◌}
use Rattle.std.specs.List.{Contains}
use Rattle.set_views.specs.declared.policies.Policy.TheVariants.{OrderedReady}
use Rattle.set_views.specs.declared.policies.Strategy.TheVariants.{OnDelete}
use Rattle.set_views.specs.Pod.{PodParts}
use Rattle.set_views.specs.Set.{SetParts}
use Rattle.set_views.specs.Predicates.{in_range, owns_pod}
use Rattle.pod_steps.specs.declared.replica.Replica.{Replica}
use Rattle.pod_steps.specs.declared.step.Revision.{Revision}
use Rattle.pod_steps.specs.declared.step.Step.TheVariants.{CreatePod, DeletePod}
use Rattle.pod_steps.specs.Listed.{is_named, replicas_in}
use Rattle.pod_steps.specs.Replicas.{Pods, has_healthy_pod, is_failed, is_healthy_replica, pod_at}
use Rattle.pod_steps.specs.FullSteps.{full_steps}
use Rattle.pod_steps.proofs.Causes.{created_is_absent, deleted, kept_on_delete, replaced_where_all_healthy}
use Rattle.pod_steps.proofs.Firsts.{is_free, is_listed, replicas_in_order}

pub deleted_is_owned : (set : SetParts) (update current : List ℕ) (listed : List PodParts) (pods : Pods) (i uid : ℕ) → replicas_in set update current listed ≡ Ok pods → Contains (full_steps set pods) (DeletePod i uid) → (pod : PodParts) × (find (is_named set i) listed ≡ Some pod) × (owns_pod set pod ≡ true) × (pod.uid ≡ uid)
deleted_is_owned set update current listed pods i uid e h =
    let r = deleted set pods i uid (replicas_in_order set update current listed pods e) h in
    let l = is_listed set update current listed pods i r.0 e r.1 in
    (l.0, l.1, ap (λ y. y.owned) l.2 ∙ l.3, ap (λ y. y.uid) l.2 ∙ r.2)

pub created_is_free : (set : SetParts) (update current : List ℕ) (listed : List PodParts) (pods : Pods) (i : ℕ) (revision : Revision) → replicas_in set update current listed ≡ Ok pods → Contains (full_steps set pods) (CreatePod i revision) → find (is_named set i) listed ≡ None
created_is_free set update current listed pods i revision e h =
    let c = created_is_absent set pods i revision (replicas_in_order set update current listed pods e) h in
    is_free set update current listed pods i e c.0 c.1

pub kept_of_list : (set : SetParts) (update current : List ℕ) (listed : List PodParts) (pods : Pods) (i uid : ℕ) (pod : Replica) → replicas_in set update current listed ≡ Ok pods → set.strategy ≡ OnDelete → Contains (full_steps set pods) (DeletePod i uid) → in_range set i ≡ true → pod_at pods i ≡ Some pod → is_healthy_replica pod ≡ false
kept_of_list set update current listed pods i uid pod e strategy h within here =
    kept_on_delete set pods i uid pod (replicas_in_order set update current listed pods e) strategy h within here

pub replaced_of_list : (set : SetParts) (update current : List ℕ) (listed : List PodParts) (pods : Pods) (i uid j : ℕ) (pod : Replica) → replicas_in set update current listed ≡ Ok pods → set.policy ≡ OrderedReady → Contains (full_steps set pods) (DeletePod i uid) → in_range set i ≡ true → pod_at pods i ≡ Some pod → is_failed pod.readiness ≡ false → in_range set j ≡ true → has_healthy_pod pods j ≡ true
replaced_of_list set update current listed pods i uid j pod e policy h within here staying other =
    replaced_where_all_healthy set pods i uid j pod (replicas_in_order set update current listed pods e) policy h within here staying other
