-- Why a plan has an action, by the set, the name of its update revision and the listed pods.
use Rattle.std.specs.Prelude.{ℕ, ◌==◌, Bool, false, not, ◌&&◌, nat_le, List, [], find, reverse, Option, Some, None, option_map, Result, Ok, Err, if◌then◌else◌}
use Rattle.std.specs.Option.{option_map_or}
use Rattle.objects.specs.declared.object.Object.{Object}
use Rattle.objects.specs.Metadata.{owners_of}
use Rattle.set_views.specs.declared.fault.PlanError.{PlanError}
use Rattle.set_views.specs.declared.policies.Strategy.{Strategy}
use Rattle.set_views.specs.declared.policies.Strategy.TheVariants.{RollingUpdate, OnDelete}
use Rattle.set_views.specs.Firsts.{is_held}
use Rattle.set_views.specs.Set.{SetParts}
use Rattle.set_views.specs.Predicates.{in_range}
use Rattle.revisions.specs.Plan.{PlanParts, created, renumbered, settled, plan_of}
use Rattle.revisions.specs.Revision.{listed}
use Rattle.pod_steps.specs.declared.replica.Replica.{Replica}
use Rattle.pod_steps.specs.Listed.{by_ordinal}
use Rattle.pod_steps.specs.Replicas.{Pods, is_failed, pod_at}
use Rattle.collector.specs.Collectable.{has_items}
use Rattle.sets.specs.declared.action.Action.{Action}
use Rattle.sets.specs.declared.action.Action.TheVariants as action
use Rattle.sets.specs.PlanOfLists.{owned_of, views_of}
use Rattle.sets.specs.SplitName.{split_name_in}
use Rattle.reasons.specs.declared.reason.Reason.{Reason}
use Rattle.reasons.specs.declared.reason.Reason.TheVariants.{Unstated, OutOfRange, Failed, Outdated, Stays, DeletedWithSet, DeletedWithPod, HoldsUpItself, HoldsUp}
use Rattle.reasons.specs.Gone.{is_deleted_with, is_uid}

-- what reasons depend on
pub record Grounds : Type 0 where
  pub set : SetParts
  -- the name of the update revision
  pub update : List ℕ
  -- the pods with names of the set, by their ordinals
  pub pods : Pods

-- the name of the update revision; empty if a revision has to be written first
abbrev pub update_name : Result PlanParts PlanError → List ℕ
update_name (Ok (created o)) = []
update_name (Ok (renumbered o)) = []
update_name (Ok (settled owned current update)) = update.key.name
update_name (Err e) = []

-- those of a plan over these lists
abbrev pub grounds_with : SetParts → List ℕ → List Object → Grounds
grounds_with set update pods = record { set = set; update = update; pods = by_ordinal set update [] (views_of set pods) }

unfoldable pub grounds_of_lists : SetParts → ℕ → (revisions pods : List Object) → Grounds
grounds_of_lists set digits revisions pods =
    grounds_with set (update_name (plan_of set (is_held (listed set revisions)) digits (owned_of set revisions))) pods

-- the ordinal that the name of a pod or of its claim ends with
abbrev pub ordinal_of : List ℕ → Option ℕ
ordinal_of name = option_map (λ s. s.1) (split_name_in name)

-- ---- a pod that is deleted
abbrev pub has_failed : Pods → ℕ → Bool
has_failed pods i = option_map_or (λ (pod : Replica). is_failed pod.readiness) (pod_at pods i) false

abbrev pub deletion_reason_at : Grounds → ℕ → Reason
deletion_reason_at g i = if in_range g.set i then (if has_failed g.pods i then Failed else Outdated) else OutOfRange

abbrev pub deletion_reason : Grounds → Option ℕ → Reason
deletion_reason g None = Unstated
deletion_reason g (Some i) = deletion_reason_at g i

-- ---- a claim with other owners
-- the pod of that ordinal is its only owner
abbrev pub is_deleted_with_pod : Grounds → Object → ℕ → Bool
is_deleted_with_pod g claim i = option_map_or (λ (pod : Replica). is_deleted_with (is_uid pod.uid) claim) (pod_at g.pods i) false

abbrev pub pod_reason : Grounds → Object → Option ℕ → Reason
pod_reason g claim None = Unstated
pod_reason g claim (Some i) = if is_deleted_with_pod g claim i then DeletedWithPod i else Unstated

abbrev pub claim_reason : Grounds → Object → Reason
claim_reason g claim =
    if has_items (owners_of claim.body)
    then (if is_deleted_with (is_uid g.set.object.meta.uid) claim then DeletedWithSet else pod_reason g claim (ordinal_of claim.key.name))
    else Stays

-- ---- a pod that the plan waits for
-- a pod in range, not below the partition, that is at another revision and not terminating
abbrev pub is_outdated : SetParts → (partition : ℕ) → ℕ × Replica → Bool
is_outdated set partition e = in_range set e.0 && (nat_le partition e.0 && (not e.1.updated && not e.1.terminating))

-- the one with the largest ordinal, which the rolling update replaces next
abbrev pub next_outdated_by : Strategy → Grounds → Option ℕ
next_outdated_by (RollingUpdate partition) g = option_map (λ e. e.0) (find (is_outdated g.set partition) (reverse g.pods))
next_outdated_by OnDelete g = None

abbrev pub next_outdated : Grounds → Option ℕ
next_outdated g = next_outdated_by g.set.strategy g

abbrev pub wait_reason_by : (waited next : Option ℕ) → Reason
wait_reason_by waited None = Unstated
wait_reason_by None (Some j) = HoldsUp j
wait_reason_by (Some i) (Some j) = if i == j then HoldsUpItself else HoldsUp j

-- ---- all actions
abbrev pub reason_of : Grounds → Action → Reason
reason_of g (action.CreateClaim o) = Unstated
reason_of g (action.CreatePod o) = Unstated
reason_of g (action.DeletePod name uid) = deletion_reason g (ordinal_of name)
reason_of g (action.UpdateClaim claim) = claim_reason g claim
reason_of g (action.WriteRevision o) = Unstated
reason_of g (action.DeleteRevision name uid version) = Unstated
reason_of g (action.WriteStatus o) = Unstated
reason_of g (action.Wait cause name) = wait_reason_by (ordinal_of name) (next_outdated g)
