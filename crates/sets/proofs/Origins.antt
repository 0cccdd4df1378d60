-- Which step an action comes from, and what is known of the step.
use Rattle.std.proofs.Common.{◌≡◌, inl, inr, ℕ, suc, ◌+◌, ◌≤◌, ◌<◌, Bool, true, false, List, [], ◌∷◌, ◌++◌, Option, Some, None, Result, Ok, Err, map, take, find, drop, filter, length, length-append, refl, sym, ap, ◌∙◌, subst, arith}
use Rattle.std.proofs.lemmas.List.{append-nil, take-append-drop}
use Rattle.std.proofs.lemmas.List.Elements.{Contains-append_cases, Contains-append_left, Contains-append_right, filter-append}
use Rattle.std.specs.List.{Contains, flat_map, list_any}
use Rattle.std.specs.Option.{option_map_or}
use Rattle.std.specs.Prelude.{if◌then◌else◌}
use Rattle.objects.specs.declared.object.Object.{Object}
use Rattle.set_views.specs.declared.fault.PlanError.{PlanError}
use Rattle.set_views.specs.declared.fault.PlanError.TheVariants as errors
use Rattle.set_views.specs.declared.policies.Policy.TheVariants.{OrderedReady}
use Rattle.set_views.specs.declared.policies.Strategy.TheVariants.{OnDelete}
use Rattle.set_views.specs.Pod.{PodParts}
use Rattle.set_views.specs.Set.{SetParts}
use Rattle.set_views.specs.Steps.{◌>>=◌, guarded}
use Rattle.set_views.specs.Predicates.{in_range, owns_pod, is_healthy}
use Rattle.revisions.specs.History.{expired_revisions}
use Rattle.revisions.specs.Plan.{created, renumbered}
use Rattle.pod_steps.specs.declared.replica.Replica.{Replica}
use Rattle.pod_steps.specs.declared.step.Revision.{Revision}
use Rattle.pod_steps.specs.declared.step.Step.{Step}
use Rattle.pod_steps.specs.declared.step.Step.TheVariants as steps
use Rattle.pod_steps.specs.Listed.{is_named, replicas_in}
use Rattle.pod_steps.specs.Replicas as replicas
use Rattle.pod_steps.specs.Replicas.{Pods, has_healthy_pod, pod_at}
use Rattle.pod_steps.specs.Step.{is_of_pod, pod_steps}
use Rattle.pod_steps.specs.FullSteps.{full_steps}
use Rattle.pod_steps.proofs.ParallelPlans.{alone, nowhere, single}
use Rattle.pod_steps.proofs.Causes.{created_in_turn, created_is_absent, deleted, one_at_a_time}
use Rattle.pod_steps.proofs.Firsts.{is_listed, replicas_in_order}
use Rattle.pod_steps.proofs.ListedPlans.{created_is_free, deleted_is_owned, kept_of_list}
use Rattle.manifests.specs.BuiltStatus.{built_status}
use Rattle.claims.specs.declared.change.ClaimChange.{ClaimChange}
use Rattle.claims.specs.declared.change.ClaimChange.TheVariants.{Create, Update as Change}
use Rattle.claims.specs.Changes.{keep_claims, make_claims, release_claims}
use Rattle.sets.specs.declared.action.Action.{Action}
use Rattle.sets.specs.declared.action.Action.TheVariants.{CreateClaim, CreatePod, DeletePod, UpdateClaim, WriteRevision, DeleteRevision, WriteStatus, Wait}
use Rattle.sets.specs.Actions.{Claims, actions_of, changes_in, claim_action, claim_actions, name_at, new_pod, revision_of}
use Rattle.sets.specs.Plan.{fitting_pods, names_fit, plan_by, plan_of_pods}
use Rattle.sets.specs.FullPlan.{current_name, deletion, deletions, status_of, status_write, full_plan}
use Rattle.sets.proofs.Plans.{fitting_pods_fit}
use Rattle.sets.specs.Laws.{HasHealthyTarget, IsPodAt, is_on_pod}

-- the action comes from a step
unfoldable pub is_from_step : Action → Bool
is_from_step (CreateClaim o) = true
is_from_step (CreatePod o) = true
is_from_step (DeletePod name uid) = true
is_from_step (UpdateClaim o) = true
is_from_step (WriteRevision o) = false
is_from_step (DeleteRevision name uid version) = false
is_from_step (WriteStatus o) = false
is_from_step (Wait cause name) = true

in_flat : (f : Step → List Action) (xs : List Step) (a : Action) → Contains (flat_map f xs) a → (s : Step) × Contains xs s × Contains (f s) a
in_flat f [] a h = absurd (nowhere a h)
in_flat f (x ∷ xs) a h =
    elim (Contains-append_cases (f x) (flat_map f xs) a h) [
      | inl k ↦ (x, Contains-append_left (x ∷ []) xs x (single x x refl), k)
      | inr k ↦ let r = in_flat f xs a k in (r.0, Contains-append_right (x ∷ []) xs r.0 r.1, r.2)
    ]

in_map : (g : Object → Action) (os : List Object) (a : Action) → Contains (map g os) a → (o : Object) × (g o ≡ a)
in_map g [] a h = absurd (nowhere a h)
in_map g (o ∷ os) a h =
    elim (Contains-append_cases (g o ∷ []) (map g os) a h) [
      | inl k ↦ (o, alone (g o) a k)
      | inr k ↦ in_map g os a k
    ]

pub in_take : {X : Type 0} (n : ℕ) (xs : List X) (a : X) → Contains (take n xs) a → Contains xs a
in_take {X} n xs a h =
    let P : List X → Type 0 = λ l. Contains l a in
    subst P (take-append-drop n xs) (Contains-append_left (take n xs) (drop n xs) a h)

no_deletion : (b : Bool) (gone : List Object) (a : Action) → is_from_step a ≡ true → Contains (if b then [] else map deletion gone) a → ⊥
unfolding is_from_step
no_deletion true gone a t h = nowhere a h
no_deletion false gone a t h = let r = in_map deletion gone a h in let clash : false ≡ true = ap is_from_step r.1 ∙ t in absurd (cc)

no_status : (written : Option Object) (a : Action) → is_from_step a ≡ true → Contains (option_map_or (λ o. WriteStatus o ∷ []) written []) a → ⊥
unfolding is_from_step
no_status None a t h = nowhere a h
no_status (Some o) a t h = let clash : false ≡ true = ap is_from_step (alone (WriteStatus o) a h) ∙ t in absurd (cc)

from_step : (set : SetParts) (claims : Claims) (listed : List PodParts) (owned : List Object) (current update : Object) (pods : Pods) (a : Action) → is_from_step a ≡ true → Contains (full_plan set claims listed owned current update pods) a → (s : Step) × Contains (full_steps set pods) s × Contains (actions_of set claims current update s) a
unfolding full_plan
from_step set claims listed owned current update pods a t h =
    let name : List ℕ = current_name set pods current update in
    let steps : List Action = flat_map (actions_of set claims current update) (full_steps set pods) in
    let gone : List Action = deletions set listed owned name update.key.name (full_steps set pods) in
    elim (Contains-append_cases (steps ++ gone) (status_write set (status_of set pods name update.key.name)) a h) [
      | inl k ↦ elim (Contains-append_cases steps gone a k) [
        | inl m ↦ in_flat (actions_of set claims current update) (full_steps set pods) a m
        | inr m ↦ absurd (no_deletion (list_any is_of_pod (full_steps set pods)) (expired_revisions set listed name update.key.name owned) a t m)
      ]
      | inr k ↦ absurd (no_status (built_status set (status_of set pods name update.key.name)) a t k)
    ]

-- ---- creates and deletes
not_this : (change : ClaimChange) (a : Action) → is_on_pod a ≡ true → claim_action change ≡ a → ⊥
not_this (Create o) a t e = let clash : false ≡ true = ap is_on_pod e ∙ t in absurd (cc)
not_this (Change o) a t e = let clash : false ≡ true = ap is_on_pod e ∙ t in absurd (cc)

not_of_claims : (changes : List ClaimChange) (a : Action) → is_on_pod a ≡ true → Contains (claim_actions changes) a → ⊥
not_of_claims [] a t h = nowhere a h
not_of_claims (change ∷ changes) a t h =
    elim (Contains-append_cases (claim_action change ∷ []) (claim_actions changes) a h) [
      | inl k ↦ not_this change a t (alone (claim_action change) a k)
      | inr k ↦ not_of_claims changes a t k
    ]

object_in : Object → Action → Object
object_in d (CreateClaim o) = d
object_in d (CreatePod o) = o
object_in d (DeletePod name uid) = d
object_in d (UpdateClaim o) = d
object_in d (WriteRevision o) = d
object_in d (DeleteRevision name uid version) = d
object_in d (WriteStatus o) = d
object_in d (Wait cause name) = d

created_from : (set : SetParts) (claims : Claims) (current update : Object) (s : Step) (pod : Object) → Contains (actions_of set claims current update s) (CreatePod pod) → (i : ℕ) × (revision : Revision) × (s ≡ steps.CreatePod i revision) × (new_pod set (revision_of current update revision) i ≡ pod)
unfolding actions_of object_in
created_from set claims current update (steps.MakeClaims i) pod h = absurd (not_of_claims (changes_in (make_claims set claims i)) (CreatePod pod) refl h)
created_from set claims current update (steps.KeepClaims i) pod h = absurd (not_of_claims (keep_claims set claims i) (CreatePod pod) refl h)
created_from set claims current update (steps.ReleaseClaims i uid) pod h = absurd (not_of_claims (release_claims set claims i uid) (CreatePod pod) refl h)
created_from set claims current update (steps.CreatePod i revision) pod h =
    (i, revision, refl, ap (object_in pod) (alone (CreatePod (new_pod set (revision_of current update revision) i)) (CreatePod pod) h))
created_from set claims current update (steps.DeletePod i uid) pod h = let clash : DeletePod (name_at set i) uid ≡ CreatePod pod = alone (DeletePod (name_at set i) uid) (CreatePod pod) h in absurd (cc)
created_from set claims current update (steps.Wait i cause) pod h = let clash : Wait cause (name_at set i) ≡ CreatePod pod = alone (Wait cause (name_at set i)) (CreatePod pod) h in absurd (cc)

name_in : Action → List ℕ
name_in (CreateClaim o) = []
name_in (CreatePod o) = []
name_in (DeletePod name uid) = name
name_in (UpdateClaim o) = []
name_in (WriteRevision o) = []
name_in (DeleteRevision name uid version) = []
name_in (WriteStatus o) = []
name_in (Wait cause name) = []

uid_in : Action → ℕ
uid_in (CreateClaim o) = 0
uid_in (CreatePod o) = 0
uid_in (DeletePod name uid) = uid
uid_in (UpdateClaim o) = 0
uid_in (WriteRevision o) = 0
uid_in (DeleteRevision name uid version) = 0
uid_in (WriteStatus o) = 0
uid_in (Wait cause name) = 0

pub deleted_from : (set : SetParts) (claims : Claims) (current update : Object) (s : Step) (name : List ℕ) (uid : ℕ) → Contains (actions_of set claims current update s) (DeletePod name uid) → (i : ℕ) × (s ≡ steps.DeletePod i uid) × (name ≡ name_at set i)
unfolding actions_of name_in uid_in
deleted_from set claims current update (steps.MakeClaims i) name uid h = absurd (not_of_claims (changes_in (make_claims set claims i)) (DeletePod name uid) refl h)
deleted_from set claims current update (steps.KeepClaims i) name uid h = absurd (not_of_claims (keep_claims set claims i) (DeletePod name uid) refl h)
deleted_from set claims current update (steps.ReleaseClaims i u) name uid h = absurd (not_of_claims (release_claims set claims i u) (DeletePod name uid) refl h)
deleted_from set claims current update (steps.CreatePod i revision) name uid h =
    let clash : CreatePod (new_pod set (revision_of current update revision) i) ≡ DeletePod name uid = alone (CreatePod (new_pod set (revision_of current update revision) i)) (DeletePod name uid) h in
    absurd (cc)
deleted_from set claims current update (steps.DeletePod i u) name uid h =
    let same : DeletePod (name_at set i) u ≡ DeletePod name uid = alone (DeletePod (name_at set i) u) (DeletePod name uid) h in
    (i, ap (steps.DeletePod i) (ap uid_in same), sym (ap name_in same))
deleted_from set claims current update (steps.Wait i cause) name uid h = let clash : Wait cause (name_at set i) ≡ DeletePod name uid = alone (Wait cause (name_at set i)) (DeletePod name uid) h in absurd (cc)

-- ---- a plan over listed pods
is_made : {A : Type 0} → Result A PlanError → Bool
is_made (Ok x) = true
is_made (Err e) = false

list_in : Result (List Action) PlanError → List Action
list_in (Ok l) = l
list_in (Err e) = []

over : (r : Result Pods PlanError) (f : Pods → List Action) (actions : List Action) → (r >>= λ p. Ok (f p)) ≡ Ok actions → (pods : Pods) × (r ≡ Ok pods) × (actions ≡ f pods)
unfolding is_made list_in
over (Ok pods) f actions e = (pods, refl, sym (ap list_in e))
over (Err x) f actions e = let clash : false ≡ true = ap is_made e in absurd (cc)

found_fitting : (b : Bool) (f : List PodParts → Result Pods PlanError) (listed : List PodParts) (pods : Pods) → (guarded errors.NameTooLong b listed >>= f) ≡ Ok pods → f listed ≡ Ok pods
unfolding is_made
found_fitting true f listed pods e = e
found_fitting false f listed pods e = let clash : false ≡ true = ap is_made e in absurd (cc)

-- the pods that a plan is made over
abbrev pub IsOver : SetParts → Claims → List PodParts → List Object → Object → Object → List Action → Pods → Type 0
IsOver set claims listed owned current update actions pods = (replicas_in set update.key.name current.key.name listed ≡ Ok pods) × (actions ≡ take 1024 (full_plan set claims listed owned current update pods)) × (names_fit set ≡ true)

pub planned_over : (set : SetParts) (claims : Claims) (listed : List PodParts) (owned : List Object) (current update : Object) (actions : List Action) → plan_of_pods set claims listed owned current update ≡ Ok actions → (pods : Pods) × IsOver set claims listed owned current update actions pods
unfolding plan_of_pods fitting_pods
planned_over set claims listed owned current update actions e =
    let r = over (fitting_pods set update.key.name current.key.name listed) (λ pods. take 1024 (full_plan set claims listed owned current update pods)) actions e in
    (r.0, (found_fitting (names_fit set) (λ fit. replicas_in set update.key.name current.key.name fit) listed r.0 r.1, r.2, fitting_pods_fit set listed update.key.name current.key.name r.0 r.1))

pub origin : (set : SetParts) (claims : Claims) (listed : List PodParts) (owned : List Object) (current update : Object) (actions : List Action) (pods : Pods) (a : Action) → is_from_step a ≡ true → IsOver set claims listed owned current update actions pods → Contains actions a → (s : Step) × Contains (full_steps set pods) s × Contains (actions_of set claims current update s) a
origin set claims listed owned current update actions pods a t o h =
    let P : List Action → Type 0 = λ l. Contains l a in
    from_step set claims listed owned current update pods a t (in_take 1024 (full_plan set claims listed owned current update pods) a (subst P o.1 h))

-- ---- laws
pub deletes_owned : (set : SetParts) (claims : Claims) (listed : List PodParts) (owned : List Object) (current update : Object) (actions : List Action) (name : List ℕ) (uid : ℕ) → plan_of_pods set claims listed owned current update ≡ Ok actions → Contains actions (DeletePod name uid) → (i : ℕ) × (name ≡ name_at set i) × ((pod : PodParts) × (find (is_named set i) listed ≡ Some pod) × (owns_pod set pod ≡ true) × (pod.uid ≡ uid))
unfolding is_from_step
deletes_owned set claims listed owned current update actions name uid e h =
    let p = planned_over set claims listed owned current update actions e in
    let s = origin set claims listed owned current update actions p.0 (DeletePod name uid) refl p.1 h in
    let d = deleted_from set claims current update s.0 name uid s.2 in
    let P : Step → Type 0 = λ x. Contains (full_steps set p.0) x in
    (d.0, d.2, deleted_is_owned set update.key.name current.key.name listed p.0 d.0 uid p.1.0 (subst P d.1 s.1))

pub creates_free : (set : SetParts) (claims : Claims) (listed : List PodParts) (owned : List Object) (current update : Object) (actions : List Action) (pod : Object) → plan_of_pods set claims listed owned current update ≡ Ok actions → Contains actions (CreatePod pod) → (i : ℕ) × (pod.key.name ≡ name_at set i) × (in_range set i ≡ true) × (find (is_named set i) listed ≡ None)
unfolding is_from_step
creates_free set claims listed owned current update actions pod e h =
    let p = planned_over set claims listed owned current update actions e in
    let s = origin set claims listed owned current update actions p.0 (CreatePod pod) refl p.1 h in
    let c = created_from set claims current update s.0 pod s.2 in
    let P : Step → Type 0 = λ x. Contains (full_steps set p.0) x in
    let there = subst P c.2 s.1 in (
      c.0,
      ap (λ (o : Object). o.key.name) (sym c.3),
      (created_is_absent set p.0 c.0 c.1 (replicas_in_order set update.key.name current.key.name listed p.0 p.1.0) there).0,
      created_is_free set update.key.name current.key.name listed p.0 c.0 c.1 p.1.0 there,
    )

pub healthy_target : (set : SetParts) (update current : List ℕ) (listed : List PodParts) (pods : Pods) (j : ℕ) → replicas_in set update current listed ≡ Ok pods → has_healthy_pod pods j ≡ true → HasHealthyTarget set listed j
healthy_target set update current listed pods j made h =
    elim (pod_at pods j) as (λ o. pod_at pods j ≡ o → option_map_or replicas.is_healthy_replica o false ≡ true → HasHealthyTarget set listed j) [
      | Some y ↦ λ e k.
          let l = is_listed set update current listed pods j y made e in
          (l.0, l.1, ap (λ (r : Replica). r.owned) l.2 ∙ l.3, ap replicas.is_healthy_replica l.2 ∙ k)
      | None ↦ λ e k. absurd (cc)
    ] refl h

pub creates_in_turn : (set : SetParts) (claims : Claims) (listed : List PodParts) (owned : List Object) (current update : Object) (actions : List Action) (pod : Object) → set.policy ≡ OrderedReady → plan_of_pods set claims listed owned current update ≡ Ok actions → Contains actions (CreatePod pod) → (i : ℕ) × (pod.key.name ≡ name_at set i) × ((j : ℕ) → in_range set j ≡ true → j < i → HasHealthyTarget set listed j)
unfolding is_from_step
creates_in_turn set claims listed owned current update actions pod policy e h =
    let p = planned_over set claims listed owned current update actions e in
    let s = origin set claims listed owned current update actions p.0 (CreatePod pod) refl p.1 h in
    let c = created_from set claims current update s.0 pod s.2 in
    let P : Step → Type 0 = λ x. Contains (full_steps set p.0) x in (
      c.0,
      ap (λ (o : Object). o.key.name) (sym c.3),
      λ j within below. healthy_target set update.key.name current.key.name listed p.0 j p.1.0 (created_in_turn set p.0 c.0 j c.1 policy (subst P c.2 s.1) within below),
    )

pub kept_healthy : (set : SetParts) (claims : Claims) (listed : List PodParts) (owned : List Object) (current update : Object) (actions : List Action) (name : List ℕ) (uid : ℕ) → set.strategy ≡ OnDelete → plan_of_pods set claims listed owned current update ≡ Ok actions → Contains actions (DeletePod name uid) → (i : ℕ) × (name ≡ name_at set i) × ((pod : PodParts) × IsPodAt set listed i pod × (in_range set i ≡ true → is_healthy pod.readiness pod.terminating ≡ false))
unfolding is_from_step
kept_healthy set claims listed owned current update actions name uid strategy e h =
    let p = planned_over set claims listed owned current update actions e in
    let s = origin set claims listed owned current update actions p.0 (DeletePod name uid) refl p.1 h in
    let d = deleted_from set claims current update s.0 name uid s.2 in
    let P : Step → Type 0 = λ x. Contains (full_steps set p.0) x in
    let there = subst P d.1 s.1 in
    let r = deleted set p.0 d.0 uid (replicas_in_order set update.key.name current.key.name listed p.0 p.1.0) there in
    let l = is_listed set update.key.name current.key.name listed p.0 d.0 r.0 p.1.0 r.1 in
    (d.0, d.2, (l.0, l.1, λ within. ap replicas.is_healthy_replica l.2 ∙ kept_of_list set update.key.name current.key.name listed p.0 d.0 uid r.0 p.1.0 strategy there within r.1))

-- ---- one pod
no_pods : (changes : List ClaimChange) → filter is_on_pod (claim_actions changes) ≡ []
no_pods [] = refl
no_pods (Create o ∷ changes) = no_pods changes
no_pods (Change o ∷ changes) = no_pods changes

past_claims : (changes : List ClaimChange) (rest : List Action) → length (filter is_on_pod (claim_actions changes ++ rest)) ≡ length (filter is_on_pod rest)
past_claims changes rest = ap length (filter-append is_on_pod (claim_actions changes) rest ∙ ap (λ l. l ++ filter is_on_pod rest) (no_pods changes))

count_of_steps : (set : SetParts) (claims : Claims) (current update : Object) (xs : List Step) → length (filter is_on_pod (flat_map (actions_of set claims current update) xs)) ≡ length (pod_steps xs)
unfolding actions_of
count_of_steps set claims current update [] = refl
count_of_steps set claims current update (steps.MakeClaims i ∷ xs) = past_claims (changes_in (make_claims set claims i)) (flat_map (actions_of set claims current update) xs) ∙ count_of_steps set claims current update xs
count_of_steps set claims current update (steps.KeepClaims i ∷ xs) = past_claims (keep_claims set claims i) (flat_map (actions_of set claims current update) xs) ∙ count_of_steps set claims current update xs
count_of_steps set claims current update (steps.ReleaseClaims i uid ∷ xs) = past_claims (release_claims set claims i uid) (flat_map (actions_of set claims current update) xs) ∙ count_of_steps set claims current update xs
count_of_steps set claims current update (steps.CreatePod i revision ∷ xs) = ap suc (count_of_steps set claims current update xs)
count_of_steps set claims current update (steps.DeletePod i uid ∷ xs) = ap suc (count_of_steps set claims current update xs)
count_of_steps set claims current update (steps.Wait i cause ∷ xs) = ap suc (count_of_steps set claims current update xs)

none_of_map : (os : List Object) → filter is_on_pod (map deletion os) ≡ []
none_of_map [] = refl
none_of_map (o ∷ os) = none_of_map os

none_gone : (b : Bool) (os : List Object) → filter is_on_pod (if b then [] else map deletion os) ≡ []
none_gone true os = refl
none_gone false os = none_of_map os

none_written : (written : Option Object) → filter is_on_pod (option_map_or (λ o. WriteStatus o ∷ []) written []) ≡ []
none_written None = refl
none_written (Some o) = refl

count_of_full_plan : (set : SetParts) (claims : Claims) (listed : List PodParts) (owned : List Object) (current update : Object) (pods : Pods) → length (filter is_on_pod (full_plan set claims listed owned current update pods)) ≡ length (pod_steps (full_steps set pods))
unfolding full_plan
count_of_full_plan set claims listed owned current update pods =
    let name : List ℕ = current_name set pods current update in
    let steps : List Action = flat_map (actions_of set claims current update) (full_steps set pods) in
    let gone : List Action = deletions set listed owned name update.key.name (full_steps set pods) in
    let written : List Action = status_write set (status_of set pods name update.key.name) in
    let no_more : filter is_on_pod written ≡ [] = none_written (built_status set (status_of set pods name update.key.name)) in
    let none : filter is_on_pod gone ≡ [] = none_gone (list_any is_of_pod (full_steps set pods)) (expired_revisions set listed name update.key.name owned) in
    ap length (filter-append is_on_pod (steps ++ gone) written ∙ (ap (λ l. filter is_on_pod (steps ++ gone) ++ l) no_more ∙ (append-nil (filter is_on_pod (steps ++ gone))
    ∙ (filter-append is_on_pod steps gone ∙ (ap (λ l. filter is_on_pod steps ++ l) none ∙ append-nil (filter is_on_pod steps))))))
    ∙ count_of_steps set claims current update (full_steps set pods)

no_more_in_take : (n : ℕ) (xs : List Action) → length (filter is_on_pod (take n xs)) ≤ length (filter is_on_pod xs)
no_more_in_take n xs =
    let parts : length (filter is_on_pod xs) ≡ length (filter is_on_pod (take n xs)) + length (filter is_on_pod (drop n xs)) =
    ap (λ l. length (filter is_on_pod l)) (sym (take-append-drop n xs)) ∙ (ap length (filter-append is_on_pod (take n xs) (drop n xs)) ∙ length-append (filter is_on_pod (take n xs)) (filter is_on_pod (drop n xs))) in
    omega arith

-- few steps on pods become few actions on pods
pub few_on_pods : (set : SetParts) (claims : Claims) (listed : List PodParts) (owned : List Object) (current update : Object) (actions : List Action) (pods : Pods) → IsOver set claims listed owned current update actions pods → length (pod_steps (full_steps set pods)) ≤ 1 → length (filter is_on_pod actions) ≤ 1
few_on_pods set claims listed owned current update actions pods over few =
    let all : length (filter is_on_pod (full_plan set claims listed owned current update pods)) ≡ length (pod_steps (full_steps set pods)) = count_of_full_plan set claims listed owned current update pods in
    let first : length (filter is_on_pod actions) ≡ length (filter is_on_pod (take 1024 (full_plan set claims listed owned current update pods))) = ap (λ l. length (filter is_on_pod l)) over.1 in
    let fewer = no_more_in_take 1024 (full_plan set claims listed owned current update pods) in
    omega arith

pub one_pod : (set : SetParts) (claims : Claims) (listed : List PodParts) (owned : List Object) (current update : Object) (actions : List Action) → set.policy ≡ OrderedReady → plan_of_pods set claims listed owned current update ≡ Ok actions → length (filter is_on_pod actions) ≤ 1
one_pod set claims listed owned current update actions policy e =
    let p = planned_over set claims listed owned current update actions e in
    few_on_pods set claims listed owned current update actions p.0 p.1 (one_at_a_time set p.0 policy)

-- ---- a revision alone
pub created_alone : (set : SetParts) (claims : Claims) (listed : List PodParts) (actions : List Action) (o : Object) → plan_by set claims listed (Ok (created o)) ≡ Ok actions → actions ≡ WriteRevision o ∷ []
unfolding plan_by
created_alone set claims listed actions o e = (over (fitting_pods set [] [] listed) (λ _. WriteRevision o ∷ []) actions e).2

pub renumbered_alone : (set : SetParts) (claims : Claims) (listed : List PodParts) (actions : List Action) (o : Object) → plan_by set claims listed (Ok (renumbered o)) ≡ Ok actions → actions ≡ WriteRevision o ∷ []
unfolding plan_by
renumbered_alone set claims listed actions o e = (over (fitting_pods set [] [] listed) (λ _. WriteRevision o ∷ []) actions e).2
