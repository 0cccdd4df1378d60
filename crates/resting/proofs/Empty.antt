-- A full plan is empty exactly if the set is at rest.
use Rattle.std.proofs.Common.{◌≡◌, ◌↔◌, ◌||◌, ℕ, zero, suc, ◌+◌, ◌≤◌, ◌<◌, Bool, true, false, cond, if◌then◌else◌, List, [], ◌∷◌, ◌++◌, map, filter, Some, None, arith, refl, sym, ap, ◌∙◌, inl, inr}
use Rattle.std.specs.List.{flat_map, list_any, range_with_len}
use Rattle.std.specs.Option.{option_map_or}
use Rattle.objects.specs.declared.object.Object.{Object}
use Rattle.set_views.specs.declared.policies.Policy.TheVariants.{Parallel}
use Rattle.set_views.specs.Pod.{PodParts}
use Rattle.set_views.specs.Set.{SetParts}
use Rattle.revisions.specs.History.{expired_revisions}
use Rattle.pod_steps.specs.declared.step.Step.{Step}
use Rattle.pod_steps.specs.declared.step.Step.TheVariants.{MakeClaims, KeepClaims, ReleaseClaims, CreatePod, DeletePod, Wait}
use Rattle.pod_steps.specs.Replicas.{AreInOrder, Pods, ordinals}
use Rattle.pod_steps.specs.Step.{is_of_pod, pod_steps}
use Rattle.pod_steps.specs.FullSteps.{full_steps, keep_steps}
use Rattle.pod_steps.proofs.OrderedReadyPlans.{after_keep_steps, bounds, inside}
use Rattle.pod_steps.proofs.Found.{cases_eq}
use Rattle.manifests.specs.BuiltStatus.{StatusParts, built_status}
use Rattle.claims.specs.Changes.{keep_claims}
use Rattle.sets.specs.declared.action.Action.TheVariants.{WriteStatus}
use Rattle.sets.specs.Actions.{Claims, actions_of, claim_actions}
use Rattle.sets.specs.FullPlan.{current_name, deletion, deletions, full_plan, status_of, status_write}
use Rattle.convergence.specs.Standing.{AreTended, Stands}
use Rattle.convergence.proofs.SilentParallel.{silent_is_standing_either}
use Rattle.convergence.proofs.Standing.{standing}
use Rattle.resting.specs.Rest.{IsAtRest}

-- ---- lists
both_empty : {X : Type 0} (xs ys : List X) → xs ++ ys ≡ [] → (xs ≡ []) × (ys ≡ [])
both_empty [] ys e = (refl, e)
both_empty (x ∷ xs) ys e = absurd (cc)

map_empty : {X Y : Type 0} (f : X → Y) (xs : List X) → map f xs ≡ [] → xs ≡ []
map_empty f [] e = refl
map_empty f (x ∷ xs) e = absurd (cc)

pub none_any : {X : Type 0} (p : X → Bool) (xs : List X) → filter p xs ≡ [] → list_any p xs ≡ false
none_any p [] e = refl
none_any p (x ∷ xs) e =
    elim (p x) as (λ b. cond b (x ∷ filter p xs) (filter p xs) ≡ [] → (b || list_any p xs) ≡ false) [
      | true ↦ λ h. absurd (cc)
      | false ↦ λ h. none_any p xs h
    ] e

-- ---- steps
quiet_step : (set : SetParts) (claims : Claims) (current update : Object) (s : Step) → actions_of set claims current update s ≡ [] → is_of_pod s ≡ false
unfolding actions_of
quiet_step set claims current update (MakeClaims i) e = refl
quiet_step set claims current update (KeepClaims i) e = refl
quiet_step set claims current update (ReleaseClaims i uid) e = refl
quiet_step set claims current update (CreatePod i revision) e = absurd (cc)
quiet_step set claims current update (DeletePod i uid) e = absurd (cc)
quiet_step set claims current update (Wait i cause) e = absurd (cc)

quiet_steps : (set : SetParts) (claims : Claims) (current update : Object) (steps : List Step) → flat_map (actions_of set claims current update) steps ≡ [] → pod_steps steps ≡ []
quiet_steps set claims current update [] e = refl
quiet_steps set claims current update (s ∷ steps) e =
    let two = both_empty (actions_of set claims current update s) (flat_map (actions_of set claims current update) steps) e in
    ap (λ b. cond b (s ∷ pod_steps steps) (pod_steps steps)) (quiet_step set claims current update s two.0) ∙ quiet_steps set claims current update steps two.1

-- the steps of a set that stands are those that keep claims
abbrev keeping : ℕ → ℕ → List Step
keeping a n = flat_map keep_steps (range_with_len a n) ++ []

kept_where_empty : (set : SetParts) (claims : Claims) (current update : Object) (a n i : ℕ) → flat_map (actions_of set claims current update) (keeping a n) ≡ [] → a ≤ i → i < a + n → keep_claims set claims i ≡ []
unfolding actions_of
kept_where_empty set claims current update a zero i e from to = absurd (omega arith)
kept_where_empty set claims current update a (suc n) i e from to =
    let two = both_empty (claim_actions (keep_claims set claims a)) (flat_map (actions_of set claims current update) (keeping (a + 1) n)) e in
    elim (cases_eq a i from) [
      | inl same ↦ ap (keep_claims set claims) (sym same) ∙ map_empty _ (keep_claims set claims a) two.0
      | inr up ↦ kept_where_empty set claims current update (a + 1) n i two.1 (omega arith) (omega arith)
    ]

empty_where_kept : (set : SetParts) (claims : Claims) (current update : Object) (a n : ℕ) → ((i : ℕ) → a ≤ i → i < a + n → keep_claims set claims i ≡ []) → flat_map (actions_of set claims current update) (keeping a n) ≡ []
unfolding actions_of
empty_where_kept set claims current update a zero kept = refl
empty_where_kept set claims current update a (suc n) kept =
    ap (λ l. claim_actions l ++ flat_map (actions_of set claims current update) (keeping (a + 1) n)) (kept a (omega arith) (omega arith))
    ∙ empty_where_kept set claims current update (a + 1) n (λ i from to. kept i (omega arith) (omega arith))

-- ---- the status
no_status : (set : SetParts) (status : StatusParts) → status_write set status ≡ [] → built_status set status ≡ None
no_status set status e =
    elim (built_status set status) as (λ o. option_map_or (λ x. WriteStatus x ∷ []) o [] ≡ [] → o ≡ None) [
      | None ↦ λ h. refl
      | Some x ↦ λ h. absurd (cc)
    ] e

-- ---- both ways
rest_where_empty : (set : SetParts) (claims : Claims) (pods : List PodParts) (owned : List Object) (current update : Object) (replicas : Pods) → AreInOrder replicas
    → (pod_steps (full_steps set replicas) ≡ [] → Stands set replicas) → full_plan set claims pods owned current update replicas ≡ [] → IsAtRest set claims pods owned current update replicas
unfolding full_plan
rest_where_empty set claims pods owned current update replicas sorted back e =
    let name = current_name set replicas current update in
    let steps = full_steps set replicas in
    let two = both_empty (flat_map (actions_of set claims current update) steps ++ deletions set pods owned name update.key.name steps) (status_write set (status_of set replicas name update.key.name)) e in
    let one = both_empty (flat_map (actions_of set claims current update) steps) (deletions set pods owned name update.key.name steps) two.0 in
    let quiet : pod_steps steps ≡ [] = quiet_steps set claims current update steps one.0 in
    let stands : Stands set replicas = back quiet in
    record {
      stands = stands;
      claims_kept = λ i within.
          let at_i = bounds set i within in
          kept_where_empty set claims current update set.start set.replicas i (sym (ap (flat_map (actions_of set claims current update)) (standing set replicas sorted stands)) ∙ one.0) at_i.0 at_i.1;
      none_expired = map_empty deletion (expired_revisions set pods name update.key.name owned)
          (sym (ap (λ b. if b then [] else map deletion (expired_revisions set pods name update.key.name owned)) (none_any is_of_pod steps quiet)) ∙ one.1);
      status_written = no_status set (status_of set replicas name update.key.name) two.1;
    }

pub empty_where_rest : (set : SetParts) (claims : Claims) (pods : List PodParts) (owned : List Object) (current update : Object) (replicas : Pods) → AreInOrder replicas
    → IsAtRest set claims pods owned current update replicas → full_plan set claims pods owned current update replicas ≡ []
unfolding full_plan
empty_where_rest set claims pods owned current update replicas sorted rest =
    let name = current_name set replicas current update in
    let steps = full_steps set replicas in
    let kept = standing set replicas sorted rest.stands in
    let quiet : pod_steps steps ≡ [] = ap pod_steps kept ∙ after_keep_steps (ordinals set) [] in
    let first : flat_map (actions_of set claims current update) steps ≡ [] =
    ap (flat_map (actions_of set claims current update)) kept
    ∙ empty_where_kept set claims current update set.start set.replicas (λ i from to. rest.claims_kept i (inside set i from to)) in
    let second : deletions set pods owned name update.key.name steps ≡ [] =
    ap (λ b. if b then [] else map deletion (expired_revisions set pods name update.key.name owned)) (none_any is_of_pod steps quiet) ∙ ap (map deletion) rest.none_expired in
    let third : status_write set (status_of set replicas name update.key.name) ≡ [] = ap (λ o. option_map_or (λ x. WriteStatus x ∷ []) o []) rest.status_written in
    (λ k. (first k ++ second k) ++ third k)

pub empty_is_rest : (set : SetParts) (claims : Claims) (pods : List PodParts) (owned : List Object) (current update : Object) (replicas : Pods) → AreInOrder replicas → (set.policy ≡ Parallel → AreTended replicas)
    → (full_plan set claims pods owned current update replicas ≡ []) ↔ IsAtRest set claims pods owned current update replicas
empty_is_rest set claims pods owned current update replicas sorted are =
    (rest_where_empty set claims pods owned current update replicas sorted (silent_is_standing_either set replicas sorted are).0, empty_where_rest set claims pods owned current update replicas sorted)
