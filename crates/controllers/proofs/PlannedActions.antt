-- What is known of the actions of a plan, and of their requests.
use Rattle.std.proofs.Common.{◌≡◌, inl, inr, ℕ, Bool, true, false, List, [], ◌∷◌, ◌++◌, Option, Some, None, Result, Ok, Err, map, not, take, refl, sym, subst}
use Rattle.std.specs.Prelude.{if◌then◌else◌, slice_index_or}
use Rattle.std.specs.List.{All, AllByRecursion, Contains, flat_map, list_any}
use Rattle.std.specs.Option.{option_map_or}
use Rattle.std.proofs.lemmas.List.Elements.{All-append, All-cons, All-filter, All-map, All-nil, All-same, All-take}
use Rattle.objects.specs.declared.object.Object.{Object}
use Rattle.requests.specs.declared.request.Request.{Request}
use Rattle.requests.specs.Lists.{Has}
use Rattle.set_views.specs.declared.fault.PlanError.{PlanError}
use Rattle.set_views.specs.declared.fault.PlanError.TheVariants as errors
use Rattle.set_views.specs.Pod.{PodParts}
use Rattle.set_views.specs.Set.{SetParts}
use Rattle.set_views.specs.Steps.{◌>>=◌}
use Rattle.revisions.specs.History.{expired_revisions, history, is_live}
use Rattle.pod_steps.specs.declared.step.Cause.{Cause}
use Rattle.pod_steps.specs.declared.step.Revision.{Revision}
use Rattle.pod_steps.specs.declared.step.Step.{Step}
use Rattle.pod_steps.specs.declared.step.Step.TheVariants as steps
use Rattle.pod_steps.specs.Step.{is_of_pod}
use Rattle.pod_steps.specs.FullSteps.{full_steps}
use Rattle.pod_steps.proofs.ParallelPlans.{alone}
use Rattle.manifests.specs.BuiltStatus.{built_status}
use Rattle.claims.specs.declared.change.ClaimChange.{ClaimChange}
use Rattle.claims.specs.declared.change.ClaimChange.TheVariants as changes
use Rattle.claims.specs.Changes.{keep_claims, make_claims, release_claims}
use Rattle.rounds.proofs.Lists.{among_either}
use Rattle.sets.specs.declared.action.Action.{Action}
use Rattle.sets.specs.declared.action.Action.TheVariants.{CreateClaim, CreatePod, DeletePod, UpdateClaim, Wait, WriteRevision, WriteStatus}
use Rattle.sets.specs.Actions.{Claims, actions_of, changes_in, claim_action, claim_actions, name_at, new_pod, revision_of}
use Rattle.sets.specs.FullPlan.{current_name, deletion, deletions, full_plan, status_of, status_write}
use Rattle.sets.specs.Plan.{fitting_pods, plan_of_pods, refusal}
use Rattle.sets.proofs.Origins.{planned_over}
use Rattle.controllers.specs.Planned.{request_of, requests_of}

pub among_all : {X : Type 0} (P : X → Type 0) (xs : List X) (x : X) → AllByRecursion P xs → Has x xs → P x
among_all P [] x all at = absurd at
among_all P (y ∷ ys) x all (inl is) = subst P (sym is) all.0
among_all P (y ∷ ys) x all (inr at) = among_all P ys x all.1 at

-- ---- what holds of each action

module _ (P : Action → Type 0) (set : SetParts) (claims : Claims) (current update : Object) (made : (o : Object) → P (CreateClaim o)) (changed : (o : Object) → P (UpdateClaim o)) where
  of_change : (change : ClaimChange) → P (claim_action change)
  of_change (changes.Create o) = made o
  of_change (changes.Update o) = changed o

  of_claims : (changes : List ClaimChange) → All P (claim_actions changes)
  of_claims changes = All-map P claim_action changes (λ k d low. of_change (slice_index_or changes k d))

  of_one : (a : Action) → P a → All P (a ∷ [])
  of_one a holds = All-cons P a [] holds (All-nil P)

  -- it holds of each action of a step, if it does of what may be done to claims, and of the step's own action
  pub of_step : (s : Step) → ((i : ℕ) (revision : Revision) → s ≡ steps.CreatePod i revision → P (CreatePod (new_pod set (revision_of current update revision) i))) → ((i uid : ℕ) → P (DeletePod (name_at set i) uid))
      → ((i : ℕ) (cause : Cause) → P (Wait cause (name_at set i))) → All P (actions_of set claims current update s)
  unfolding actions_of
  of_step (steps.MakeClaims i) creates deletes waits = of_claims (changes_in (make_claims set claims i))
  of_step (steps.KeepClaims i) creates deletes waits = of_claims (keep_claims set claims i)
  of_step (steps.ReleaseClaims i uid) creates deletes waits = of_claims (release_claims set claims i uid)
  of_step (steps.CreatePod i revision) creates deletes waits = of_one _ (creates i revision refl)
  of_step (steps.DeletePod i uid) creates deletes waits = of_one _ (deletes i uid)
  of_step (steps.Wait i cause) creates deletes waits = of_one _ (waits i cause)

module _ (P : Action → Type 0) (set : SetParts) (claims : Claims) (views : List PodParts) (owned : List Object) (current update : Object) where
  of_steps : ((s : Step) → All P (actions_of set claims current update s)) → (xs : List Step) → All P (flat_map (actions_of set claims current update) xs)
  of_steps each [] = All-nil P
  of_steps each (s ∷ xs) = All-append P (actions_of set claims current update s) (flat_map (actions_of set claims current update) xs) (each s) (of_steps each xs)

  of_deletions : All (λ o. P (deletion o)) owned → (b : Bool) (now next : List ℕ) → All P (if b then [] else map deletion (expired_revisions set views now next owned))
  of_deletions each true now next = All-nil P
  of_deletions each false now next =
      All-map P deletion (expired_revisions set views now next owned)
      (All-take (λ o. P (deletion o)) _ (history set views now next owned) (All-filter (λ (o : Object). not (is_live set views now next o.key.name)) (λ o. P (deletion o)) owned each))

  of_status : ((o : Object) → P (WriteStatus o)) → (written : Option Object) → All P (option_map_or (λ o. WriteStatus o ∷ []) written [])
  of_status each None = All-nil P
  of_status each (Some o) = All-cons P (WriteStatus o) [] (each o) (All-nil P)

  -- it holds of each action of a plan, if it does of those of each step, of the deletes of revisions and of the writes
  -- of the status
  pub of_plan : (actions : List Action) → ((s : Step) → All P (actions_of set claims current update s)) → All (λ o. P (deletion o)) owned → ((o : Object) → P (WriteStatus o))
      → plan_of_pods set claims views owned current update ≡ Ok actions → All P actions
  unfolding full_plan
  of_plan actions steps gone written e =
      let p = planned_over set claims views owned current update actions e in
      let name : List ℕ = current_name set p.0 current update in
      let done : List Action = flat_map (actions_of set claims current update) (full_steps set p.0) in
      let going : List Action = deletions set views owned name update.key.name (full_steps set p.0) in
      let status : List Action = status_write set (status_of set p.0 name update.key.name) in
      All-same P actions (take 1024 (full_plan set claims views owned current update p.0)) p.1.1
      (All-take P 1024 (full_plan set claims views owned current update p.0)
      (All-append P (done ++ going) status
      (All-append P done going (of_steps steps (full_steps set p.0)) (of_deletions gone (list_any is_of_pod (full_steps set p.0)) name update.key.name))
      (of_status written (built_status set (status_of set p.0 name update.key.name)))))

-- ---- a revision alone, and a refusal

pub writes_alone : (actions : List Action) (x : Object) (a : Action) → actions ≡ WriteRevision x ∷ [] → Contains actions a → WriteRevision x ≡ a
writes_alone actions x a is at = alone (WriteRevision x) a (subst (λ (l : List Action). Contains l a) is at)

never_made : {A B : Type 0} (r : Result A PlanError) (e : PlanError) (x : B) → (r >>= λ _. Err e) ≡ Ok x → ⊥
never_made (Ok y) e x is = cc
never_made (Err d) e x is = cc

pub refused : (set : SetParts) (views : List PodParts) (e : PlanError) (actions : List Action) → refusal set views e ≡ Ok actions → ⊥
refused set views errors.NoRevisionName actions is = never_made (fitting_pods set [] [] views) errors.NoRevisionName actions is
refused set views e actions is = cc

-- ---- requests

pub in_requests : (namespace moment : List ℕ) (actions : List Action) (r : Request) → Has r (requests_of namespace moment actions) → (a : Action) × Has a actions × Has r (request_of namespace moment a)
in_requests namespace moment [] r at = absurd at
in_requests namespace moment (a ∷ rest) r at =
    elim (among_either r (request_of namespace moment a) (requests_of namespace moment rest) at) [
      | inl here ↦ (a, inl refl, here)
      | inr more ↦ let x = in_requests namespace moment rest r more in (x.0, inr x.1, x.2)
    ]
