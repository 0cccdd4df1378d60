-- The plan of a StatefulSet, or the first refusal.
use Rattle.std.specs.Prelude.{◌+◌, ◌-◌, ◌==◌, ◌||◌, ℕ, Bool, nat_le, List, [], ◌∷◌, length, map, take, Result, Ok, Err, ⊤}
use Rattle.objects.specs.declared.object.Object.{Object}
use Rattle.set_views.specs.declared.fault.PlanError.{PlanError}
use Rattle.set_views.specs.declared.fault.PlanError.TheVariants.{NameTooLong, NoRevisionName}
use Rattle.set_views.specs.declared.fault.PlanError.TheVariants as errors
use Rattle.set_views.specs.declared.pod.PodView.{PodView}
use Rattle.set_views.specs.Firsts.{is_held}
use Rattle.set_views.specs.Pod.{PodParts, pod_parts}
use Rattle.set_views.specs.Set.{SetParts}
use Rattle.set_views.specs.Steps.{◌>>=◌, guarded, Gives}
use Rattle.revisions.specs.Plan.{PlanParts, created, renumbered, settled, plan_of}
use Rattle.revisions.specs.Revision.{AreOwned, listed}
use Rattle.pod_steps.specs.Listed.{replicas_in}
use Rattle.pod_steps.specs.Replicas.{Pods}
use Rattle.pod_steps.specs.Views.{AreViews, listed_pods}
use Rattle.objects.specs.Names.{most_label}
use Rattle.claims.specs.Listed.{listed_claim}
use Rattle.sets.specs.declared.action.Action.{Action}
use Rattle.sets.specs.declared.action.Action.TheVariants.{WriteRevision}
use Rattle.sets.specs.declared.action.Plan.{Plan}
use Rattle.sets.specs.Actions.{Claims, name_at}
use Rattle.sets.specs.FullPlan.{full_plan}

-- the most actions of one plan; the rest is left to the next
abbrev pub most_actions : ℕ
most_actions = 1024

-- the name of the last pod in range, if there is one, is not too long
abbrev pub names_fit : SetParts → Bool
names_fit set = (set.replicas == 0) || nat_le (length (name_at set (set.start + set.replicas - 1))) most_label

-- the set's pods among the listed ones, given the names of its update and current revisions; NameTooLong is tested
-- before Foreign
unfoldable pub fitting_pods : SetParts → List ℕ → List ℕ → List PodParts → Result Pods PlanError
fitting_pods set update current pods = do
  fit ← guarded NameTooLong (names_fit set) pods
  replicas_in set update current fit

-- if no update revision is in place the pods are examined for their refusals alone
abbrev pub unless_refused : {A : Type 0} → SetParts → List PodParts → Result A PlanError → Result A PlanError
unless_refused set pods answer = fitting_pods set [] [] pods >>= λ _. answer

-- if the revisions are refused
abbrev pub refusal : SetParts → List PodParts → PlanError → Result (List Action) PlanError
refusal set pods NoRevisionName = unless_refused set pods (Err NoRevisionName)
refusal set pods e = Err e

-- if the update revision is in place
unfoldable pub plan_of_pods : SetParts → Claims → List PodParts → List Object → Object → Object → Result (List Action) PlanError
plan_of_pods set claims pods owned current update =
    fitting_pods set update.key.name current.key.name pods >>= λ replicas. Ok (take most_actions (full_plan set claims pods owned current update replicas))

-- given what is planned of the revisions: if one is written there is nothing else
unfoldable pub plan_by : SetParts → Claims → List PodParts → Result PlanParts PlanError → Result (List Action) PlanError
plan_by set claims pods (Ok (created o)) = unless_refused set pods (Ok (WriteRevision o ∷ []))
plan_by set claims pods (Ok (renumbered o)) = unless_refused set pods (Ok (WriteRevision o ∷ []))
plan_by set claims pods (Ok (settled owned current update)) = plan_of_pods set claims pods owned current update
plan_by set claims pods (Err e) = refusal set pods e

-- what is planned over these listed objects; nothing is said if memory ran out
abbrev pub IsPlan : SetParts → List Object → List Object → List Object → ℕ → Result Plan PlanError → Type 0
IsPlan set pods claims revisions digits (Err errors.Memory) = ⊤
IsPlan set pods claims revisions digits result =
    (owned : List Object) × AreOwned set revisions owned
    × ((views : List PodView) × AreViews (listed_pods set pods) views
    × Gives (λ p. p.actions.items) result (plan_by set (listed_claim set claims) (map pod_parts views) (plan_of set (is_held (listed set revisions)) digits owned)))
