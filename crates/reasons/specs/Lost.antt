-- Which claims are deleted with owners that are assumed to be gone, once a plan is carried out.
use Rattle.std.specs.Prelude.{ℕ, Bool, false, ◌&&◌, bytes_eq, List, [], ◌∷◌, filter, map, if◌then◌else◌}
use Rattle.std.specs.Option.{is_some}
use Rattle.objects.specs.declared.kind.Kind.TheVariants.{PersistentVolumeClaim}
use Rattle.objects.specs.declared.object.Object.{Object}
use Rattle.set_views.specs.Set.{SetParts}
use Rattle.set_views.specs.Predicates.{in_namespace}
use Rattle.sets.specs.declared.action.Action.{Action}
use Rattle.sets.specs.declared.action.Action.TheVariants as action
use Rattle.reasons.specs.Gone.{is_deleted_with, is_deleted, is_uid}

-- the action updates the claim
abbrev pub updates : Object → Action → Bool
updates claim (action.CreateClaim o) = false
updates claim (action.CreatePod o) = false
updates claim (action.DeletePod name uid) = false
updates claim (action.UpdateClaim o) = bytes_eq o.key.name claim.key.name
updates claim (action.WriteRevision o) = false
updates claim (action.DeleteRevision name uid version) = false
updates claim (action.WriteStatus o) = false
updates claim (action.Wait cause name) = false

-- the claim as that action leaves it
abbrev pub updated_by : Action → Object → Object
updated_by (action.UpdateClaim o) claim = o
updated_by _ claim = claim

-- the claim as these actions leave it: no plan updates one twice
abbrev pub claim_after : List Action → Object → Object
claim_after [] claim = claim
claim_after (a ∷ actions) claim = if updates claim a then updated_by a claim else claim_after actions claim

abbrev pub is_lost : SetParts → (ℕ → Bool) → List Action → Object → Bool
is_lost set gone actions claim = in_namespace set PersistentVolumeClaim claim && is_deleted_with gone (claim_after actions claim)

-- of these claims the names of those of the set's namespace that are deleted with these owners, after the actions
abbrev pub lost_names : SetParts → (ℕ → Bool) → List Action → List Object → List (List ℕ)
lost_names set gone actions claims = map (λ (claim : Object). claim.key.name) (filter (is_lost set gone actions) claims)

-- those that are deleted with the pods that the plan deletes
abbrev pub claims_with_pods : SetParts → List Action → List Object → List (List ℕ)
claims_with_pods set actions claims = lost_names set (is_deleted actions) actions claims

-- those that are deleted with the set, if it is being deleted
abbrev pub claims_with_set : SetParts → List Action → List Object → List (List ℕ)
claims_with_set set actions claims =
    if is_some set.object.meta.deletion then lost_names set (is_uid set.object.meta.uid) actions claims else []
