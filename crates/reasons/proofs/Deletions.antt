-- The reason given for a pod that is deleted is true.
use Rattle.std.proofs.Common.{◌≡◌, ℕ, true, false, List, [], Ok, refl, sym, ap, ◌∙◌}
use Rattle.std.specs.List.{Contains}
use Rattle.std.specs.Option.{option_map_or}
use Rattle.std.specs.Prelude.{option_map, if◌then◌else◌}
use Rattle.objects.specs.declared.object.Object.{Object}
use Rattle.set_views.specs.declared.policies.Strategy.TheVariants.{RollingUpdate}
use Rattle.set_views.specs.Pod.{PodParts}
use Rattle.set_views.specs.Set.{SetParts}
use Rattle.set_views.specs.Predicates.{in_range}
use Rattle.pod_steps.specs.declared.replica.Replica.{Replica}
use Rattle.pod_steps.specs.Listed.{by_ordinal, replica_of}
use Rattle.pod_steps.specs.Replicas.{is_failed}
use Rattle.pod_steps.proofs.Firsts.{first_counts}
use Rattle.sets.specs.declared.action.Action.{Action}
use Rattle.sets.specs.declared.action.Action.TheVariants.{DeletePod}
use Rattle.sets.specs.Actions.{Claims, name_at}
use Rattle.sets.specs.Laws.{IsNextToUpdate, IsPodAt}
use Rattle.sets.specs.Plan.{plan_of_pods}
use Rattle.sets.proofs.Updates.{updated_by_rolling}
use Rattle.reasons.specs.declared.reason.Reason.TheVariants.{OutOfRange, Failed, Outdated}
use Rattle.reasons.specs.Laws.{IsTrueOfDeletion}
use Rattle.reasons.specs.Reasons.{deletion_reason_at, has_failed}

-- whether the pod has failed is as it was listed
failed_as_listed : (set : SetParts) (update : List ℕ) (listed : List PodParts) (i : ℕ) (pod : PodParts) → IsPodAt set listed i pod
    → has_failed (by_ordinal set update [] listed) i ≡ is_failed pod.readiness
failed_as_listed set update listed i pod at =
    ap (λ o. option_map_or (λ (r : Replica). is_failed r.readiness) o false) (first_counts set update [] listed i ∙ ap (option_map (replica_of set update [])) at)

true_of : (set : SetParts) (update : List ℕ) (listed : List PodParts) (i : ℕ) (pod : PodParts) → IsPodAt set listed i pod
    → (in_range set i ≡ true → is_failed pod.readiness ≡ false → (partition : ℕ) × (set.strategy ≡ RollingUpdate partition) × IsNextToUpdate set update listed partition i pod)
    → IsTrueOfDeletion (deletion_reason_at (record { set = set; update = update; pods = by_ordinal set update [] listed }) i) set update listed i pod
true_of set update listed i pod at next =
    let failed = failed_as_listed set update listed i pod at in
    elim (in_range set i) as (λ b. in_range set i ≡ b → IsTrueOfDeletion (if b then (if has_failed (by_ordinal set update [] listed) i then Failed else Outdated) else OutOfRange) set update listed i pod) [
      | false ↦ λ out. out
      | true ↦ λ within. elim (has_failed (by_ordinal set update [] listed) i) as (λ f. has_failed (by_ordinal set update [] listed) i ≡ f → IsTrueOfDeletion (if f then Failed else Outdated) set update listed i pod) [
        | true ↦ λ is. (within, sym failed ∙ is)
        | false ↦ λ is. (within, next within (sym failed ∙ is))
      ] refl
    ] refl

pub explained : (set : SetParts) (claims : Claims) (listed : List PodParts) (owned : List Object) (current update : Object) (actions : List Action) (name : List ℕ) (uid : ℕ)
    → plan_of_pods set claims listed owned current update ≡ Ok actions → Contains actions (DeletePod name uid)
    → (i : ℕ) × (name ≡ name_at set i) × ((pod : PodParts) × IsPodAt set listed i pod × IsTrueOfDeletion
    (deletion_reason_at (record { set = set; update = update.key.name; pods = by_ordinal set update.key.name [] listed }) i) set update.key.name listed i pod)
explained set claims listed owned current update actions name uid e h =
    let r = updated_by_rolling set claims listed owned current update actions name uid e h in
    (r.0, r.1, (r.2.0, r.2.1, true_of set update.key.name listed r.0 r.2.0 r.2.1 r.2.2))
