-- Definitions that the laws of reasons use.
use Rattle.std.specs.Prelude.{◌≡◌, ℕ, List, true, false}
use Rattle.set_views.specs.declared.policies.Strategy.TheVariants.{RollingUpdate}
use Rattle.set_views.specs.Pod.{PodParts}
use Rattle.set_views.specs.Set.{SetParts}
use Rattle.set_views.specs.Predicates.{in_range}
use Rattle.pod_steps.specs.Replicas.{is_failed}
use Rattle.sets.specs.Laws.{IsNextToUpdate}
use Rattle.reasons.specs.declared.reason.Reason.{Reason}
use Rattle.reasons.specs.declared.reason.Reason.TheVariants.{OutOfRange, Failed, Outdated}

-- what a reason says of a pod that is deleted, given the name of the set's update revision and the listed pods
abbrev pub IsTrueOfDeletion : Reason → SetParts → (update : List ℕ) → List PodParts → ℕ → PodParts → Type 0
IsTrueOfDeletion OutOfRange set update listed i pod = in_range set i ≡ false
IsTrueOfDeletion Failed set update listed i pod = (in_range set i ≡ true) × (is_failed pod.readiness ≡ true)
IsTrueOfDeletion Outdated set update listed i pod =
    (in_range set i ≡ true) × ((partition : ℕ) × (set.strategy ≡ RollingUpdate partition) × IsNextToUpdate set update listed partition i pod)
IsTrueOfDeletion _ set update listed i pod = ⊥
