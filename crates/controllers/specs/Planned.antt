-- The requests of the plan of a set, over what was listed (Kubernetes, "StatefulSets"; "Controllers").
use Rattle.std.specs.Prelude.{ℕ, ◌^◌, ◌==◌, nat_lt, List, [], ◌∷◌, Option, Some, None, Result, Ok, Err, if◌then◌else◌}
use Rattle.std.specs.List.{flat_map}
use Rattle.objects.specs.declared.key.Key.{Key}
use Rattle.objects.specs.declared.kind.Kind.{Kind}
use Rattle.objects.specs.declared.kind.Kind.TheVariants.{Pod, ControllerRevision}
use Rattle.objects.specs.declared.object.Draft.{Draft}
use Rattle.objects.specs.declared.object.Object.{Object}
use Rattle.objects.specs.Again.{draft_again_of}
use Rattle.objects.specs.Key.{is_key, key_parts}
use Rattle.objects.specs.Uid.{uid_text}
use Rattle.requests.specs.declared.request.Request.{Request}
use Rattle.requests.specs.declared.request.Request.TheVariants.{Create, Update, UpdateStatus, Delete}
use Rattle.rounds.specs.Drafts.{draft}
use Rattle.set_views.specs.declared.fault.PlanError.{PlanError}
use Rattle.set_views.specs.Set.{SetParts}
use Rattle.set_views.specs.SetReading.{set_of}
use Rattle.set_views.specs.Steps.{◌>>=◌}
use Rattle.sets.specs.Actions.{version_or_empty}
use Rattle.sets.specs.declared.action.Action.{Action}
use Rattle.sets.specs.declared.action.Action.TheVariants.{CreateClaim, CreatePod, DeletePod, UpdateClaim, WriteRevision, DeleteRevision, WriteStatus, Wait}
use Rattle.sets.specs.PlanOfLists.{plan_of_lists}

-- the object, to be written if it still has its UID and its version
abbrev pub as_read : Object → Draft
as_read o = draft_again_of o

-- the key of these parts, if they name an object
abbrev pub key_of : Kind → List ℕ → List ℕ → Option Key
key_of kind namespace name = if is_key (key_parts kind namespace name) then Some (key_parts kind namespace name) else None

-- The delete of the object of a key, if it still has the UID. There is none of what no store holds: it has no key, or
-- no UID.
abbrev pub deletions : Option Key → ℕ → Option (List ℕ) → Option (List ℕ) → List Request
deletions None uid version at = []
deletions (Some key) uid version at = if nat_lt uid (2 ^ 48) then Delete key (Some (uid_text uid)) version at ∷ [] else []

abbrev pub deletion_of : Kind → List ℕ → List ℕ → ℕ → Option (List ℕ) → Option (List ℕ) → List Request
deletion_of kind namespace name uid version at = deletions (key_of kind namespace name) uid version at

-- Each action but Wait is one request. A pod is marked with the moment of the controller.
abbrev pub request_of : List ℕ → List ℕ → Action → List Request
request_of namespace moment (CreateClaim o) = Create (draft o) ∷ []
request_of namespace moment (CreatePod o) = Create (draft o) ∷ []
request_of namespace moment (DeletePod name uid) = deletion_of Pod namespace name uid None (Some moment)
request_of namespace moment (UpdateClaim o) = Update (as_read o) ∷ []
request_of namespace moment (WriteRevision o) = (if o.meta.uid == 0 then Create (draft o) else Update (as_read o)) ∷ []
request_of namespace moment (DeleteRevision name uid version) = deletion_of ControllerRevision namespace name uid (Some (version_or_empty version)) None
request_of namespace moment (WriteStatus o) = UpdateStatus (as_read o) ∷ []
request_of namespace moment (Wait cause name) = []

abbrev pub requests_of : List ℕ → List ℕ → List Action → List Request
requests_of namespace moment actions = flat_map (request_of namespace moment) actions

-- the requests of the plan of a set that was read
unfoldable pub requested_for : SetParts → ℕ → List ℕ → List Object → List Object → List Object → Result (List Request) PlanError
requested_for set digits moment revisions pods claims =
    plan_of_lists set digits revisions pods claims >>= λ actions. Ok (requests_of set.object.key.namespace moment actions)

-- the requests of the plan of a set, or the refusal
unfoldable pub requested : Object → ℕ → List ℕ → List Object → List Object → List Object → Result (List Request) PlanError
requested o digits moment revisions pods claims = set_of o >>= λ set. requested_for set digits moment revisions pods claims

-- none if there is no plan
abbrev pub or_none : Result (List Request) PlanError → List Request
or_none (Ok requests) = requests
or_none (Err e) = []

-- why there is no plan
abbrev pub why_not : Result (List Request) PlanError → Option PlanError
why_not (Ok requests) = None
why_not (Err e) = Some e
