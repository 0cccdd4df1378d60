-- The actions of the steps of a plan (Kubernetes, "StatefulSets": "Pod Identity", "Deployment and Scaling Guarantees").
use Rattle.std.specs.Prelude.{ℕ, ◌==◌, List, [], ◌∷◌, decimal, map, Option, Result, Ok, Err, if◌then◌else◌}
use Rattle.objects.specs.declared.object.Object.{Object}
use Rattle.objects.specs.PodNames.{pod_name}
use Rattle.set_views.specs.declared.fault.PlanError.{PlanError}
use Rattle.set_views.specs.Set.{SetParts}
use Rattle.pod_steps.specs.declared.step.Revision.{Revision}
use Rattle.pod_steps.specs.declared.step.Revision.TheVariants.{Current, Update}
use Rattle.pod_steps.specs.declared.step.Step.{Step}
use Rattle.pod_steps.specs.declared.step.Step.TheVariants as steps
use Rattle.manifests.specs.BuiltPod.{named_pod}
use Rattle.manifests.specs.Template.{template_of}
use Rattle.claims.specs.declared.change.ClaimChange.{ClaimChange}
use Rattle.claims.specs.declared.change.ClaimChange.TheVariants.{Create, Update as Change}
use Rattle.claims.specs.Changes.{keep_claims, make_claims, release_claims}
use Rattle.sets.specs.declared.action.Action.{Action}
use Rattle.sets.specs.declared.action.Action.TheVariants.{CreateClaim, CreatePod, DeletePod, UpdateClaim, Wait}

-- of the current and the update revision, the one that a new pod is made from
abbrev pub revision_of : Object → Object → Revision → Object
revision_of current update Current = current
revision_of current update Update = update

-- the name of the set's pod of that ordinal
abbrev pub name_at : SetParts → ℕ → List ℕ
name_at set i = pod_name set.object.key.name i

-- that pod, from that revision
abbrev pub new_pod : SetParts → Object → ℕ → Object
new_pod set revision i = named_pod set (template_of revision) revision.key.name i (name_at set i)

-- the listed claim of a name, if there is one
abbrev pub Claims : Type 0
Claims = List ℕ → Option Object

abbrev pub claim_action : ClaimChange → Action
claim_action (Create o) = CreateClaim o
claim_action (Change o) = UpdateClaim o

abbrev pub claim_actions : List ClaimChange → List Action
claim_actions changes = map claim_action changes

-- a pod whose name is too long is not created: the plan is refused earlier
abbrev pub changes_in : Result (List ClaimChange) PlanError → List ClaimChange
changes_in (Ok changes) = changes
changes_in (Err e) = []

-- the actions of a step, given the listed claims, and the current and the update revision
unfoldable pub actions_of : SetParts → Claims → Object → Object → Step → List Action
actions_of set claims current update (steps.MakeClaims i) = claim_actions (changes_in (make_claims set claims i))
actions_of set claims current update (steps.KeepClaims i) = claim_actions (keep_claims set claims i)
actions_of set claims current update (steps.ReleaseClaims i uid) = claim_actions (release_claims set claims i uid)
actions_of set claims current update (steps.CreatePod i revision) = CreatePod (new_pod set (revision_of current update revision) i) ∷ []
actions_of set claims current update (steps.DeletePod i uid) = DeletePod (name_at set i) uid ∷ []
actions_of set claims current update (steps.Wait i cause) = Wait cause (name_at set i) ∷ []

-- the resource version that a DeleteRevision names, as a text; 0, of a revision that was not listed, is the empty text
abbrev pub version_or_empty : ℕ → List ℕ
version_or_empty n = if n == 0 then [] else decimal n
