-- A plan over lists is empty exactly if the set is at rest.
use Rattle.std.proofs.Common.{◌≡◌, ◌≢◌, ◌↔◌, ℕ, zero, suc, ◌<◌, arith, Bool, true, false, cond, List, [], ◌∷◌, find, map, take, Some, Result, Ok, Err, refl, ap, ◌∙◌, subst}
use Rattle.std.specs.List.{AllByRecursion}
use Rattle.objects.specs.declared.object.Object.{Object}
use Rattle.set_views.specs.declared.fault.PlanError.{PlanError}
use Rattle.set_views.specs.declared.fault.PlanError.TheVariants.{BadSpec, Foreign, Memory, NameTooLong, NoRevisionName, OrdinalTooLarge}
use Rattle.set_views.specs.declared.policies.Policy.TheVariants.{Parallel}
use Rattle.set_views.specs.declared.readiness.Readiness.{Readiness}
use Rattle.set_views.specs.declared.readiness.Readiness.TheVariants.{Failed, NotReady, Ready}
use Rattle.set_views.specs.Firsts.{is_held}
use Rattle.set_views.specs.Pod.{PodParts}
use Rattle.set_views.specs.Predicates.{is_ready}
use Rattle.set_views.specs.Set.{SetParts}
use Rattle.set_views.specs.Steps.{◌>>=◌, guarded}
use Rattle.revisions.specs.Plan.{PlanParts, created, plan_of, renumbered, settled}
use Rattle.revisions.specs.Revision.{listed}
use Rattle.pod_steps.specs.declared.replica.Replica.{Replica}
use Rattle.pod_steps.specs.Listed.{is_named, replica_of, replicas_in}
use Rattle.pod_steps.specs.Replicas.{AreInOrder, Pods, is_failed}
use Rattle.pod_steps.specs.Views.{listed_pods}
use Rattle.pod_steps.proofs.Firsts.{is_listed, replicas_in_order}
use Rattle.claims.specs.Listed.{listed_claim}
use Rattle.sets.specs.declared.action.Action.{Action}
use Rattle.sets.specs.declared.action.Action.TheVariants.{WriteRevision}
use Rattle.sets.specs.Actions.{Claims}
use Rattle.sets.specs.FullPlan.{full_plan}
use Rattle.sets.specs.Plan.{fitting_pods, most_actions, names_fit, plan_by, plan_of_pods, refusal, unless_refused}
use Rattle.sets.specs.PlanOfLists.{owned_of, plan_of_lists, view_of, views_of}
use Rattle.convergence.specs.Standing.{AreTended, IsTended}
use Rattle.resting.specs.Rest.{IsAtRest, RestsOver}
use Rattle.resting.specs.Still.{IsTendedPod}
use Rattle.resting.proofs.Empty.{empty_is_rest, empty_where_rest}

-- ---- plans
take_empty_of : (n : ℕ) (xs : List Action) → 0 < n → take n xs ≡ [] → xs ≡ []
take_empty_of zero xs some e = absurd (omega arith)
take_empty_of (suc n) [] some e = refl
take_empty_of (suc n) (x ∷ xs) some e = absurd (cc)

take_empty : (xs : List Action) → take most_actions xs ≡ [] → xs ≡ []
take_empty xs e = take_empty_of most_actions xs (omega arith) e

ok_is : (xs ys : List Action) → ◌≡◌ {A = Result (List Action) PlanError} (Ok xs) (Ok ys) → xs ≡ ys
ok_is xs ys e = cc

abbrev Replicas : SetParts → List PodParts → Object → Object → Pods → Type 0
Replicas set pods current update replicas = fitting_pods set update.key.name current.key.name pods ≡ Ok replicas

over_fitting : (set : SetParts) (update current : List ℕ) (pods : List PodParts) (replicas : Pods) → fitting_pods set update current pods ≡ Ok replicas → replicas_in set update current pods ≡ Ok replicas
unfolding fitting_pods
over_fitting set update current pods replicas e =
    elim (names_fit set) as (λ b. (guarded NameTooLong b pods >>= λ fit. replicas_in set update current fit) ≡ Ok replicas → replicas_in set update current pods ≡ Ok replicas) [
      | true ↦ λ h. h
      | false ↦ λ h. absurd (cc)
    ] e

fitting_in_order : (set : SetParts) (update current : List ℕ) (pods : List PodParts) (replicas : Pods) → fitting_pods set update current pods ≡ Ok replicas → AreInOrder replicas
fitting_in_order set update current pods replicas e = replicas_in_order set update current pods replicas (over_fitting set update current pods replicas e)

-- ---- pods as a kubelet's turn leaves them
abbrev IsTendedView : PodParts → Type 0
IsTendedView pod = (pod.terminating ≡ false) × (pod.readiness ≢ NotReady)

tended_found : (q : PodParts → Bool) (os : List Object) (pod : PodParts) → AllByRecursion IsTendedPod os → find q (map view_of os) ≡ Some pod → IsTendedView pod
tended_found q [] pod all e = absurd (cc)
tended_found q (o ∷ os) pod all e =
    elim (q (view_of o)) as (λ b. cond b (Some (view_of o)) (find q (map view_of os)) ≡ Some pod → IsTendedView pod) [
      | true ↦ λ h. let same : view_of o ≡ pod = cc in let P : PodParts → Type 0 = λ x. IsTendedView x in subst P same all.0
      | false ↦ λ h. tended_found q os pod all.1 h
    ] e

ready_unless_failed : (r : Readiness) → r ≢ NotReady → is_failed r ≡ false → is_ready r ≡ true
ready_unless_failed Ready starting h = refl
ready_unless_failed NotReady starting h = absurd (starting refl)
ready_unless_failed Failed starting h = absurd (cc)

is_tended_as : (set : SetParts) (update current : List ℕ) (pod : PodParts) → IsTendedView pod → IsTended (replica_of set update current pod)
is_tended_as set update current pod view = record { staying = view.0; ready = λ h. ready_unless_failed pod.readiness view.1 h }

pub tended_over : (set : SetParts) (update current : List ℕ) (pods : List Object) (replicas : Pods) → AllByRecursion IsTendedPod (listed_pods set pods) → replicas_in set update current (views_of set pods) ≡ Ok replicas → AreTended replicas
unfolding views_of
tended_over set update current pods replicas all e i y here =
    let r = is_listed set update current (views_of set pods) replicas i y e here in
    let view = tended_found (is_named set i) (listed_pods set pods) r.0 all r.1 in
    let P : Replica → Type 0 = λ x. IsTended x in
    subst P r.2 (is_tended_as set update current r.0 view)

rest_of_pods : (set : SetParts) (claims : Claims) (pods : List PodParts) (owned : List Object) (current update : Object) → ((replicas : Pods) → Replicas set pods current update replicas → set.policy ≡ Parallel → AreTended replicas)
    → plan_of_pods set claims pods owned current update ≡ Ok []
    → (replicas : Pods) × Replicas set pods current update replicas × IsAtRest set claims pods owned current update replicas
unfolding plan_of_pods
rest_of_pods set claims pods owned current update are e =
    elim (fitting_pods set update.key.name current.key.name pods) as (λ r. fitting_pods set update.key.name current.key.name pods ≡ r
    → (r >>= λ replicas. Ok (take most_actions (full_plan set claims pods owned current update replicas))) ≡ Ok []
    → (replicas : Pods) × Replicas set pods current update replicas × IsAtRest set claims pods owned current update replicas) [
      | Err x ↦ λ h k. absurd (cc)
      | Ok replicas ↦ λ h k.
          let sorted = fitting_in_order set update.key.name current.key.name pods replicas h in
          let none = ok_is (take most_actions (full_plan set claims pods owned current update replicas)) [] k in
          (replicas, h, (empty_is_rest set claims pods owned current update replicas sorted (are replicas h)).0 (take_empty (full_plan set claims pods owned current update replicas) none))
    ] refl e

pods_of_rest : (set : SetParts) (claims : Claims) (pods : List PodParts) (owned : List Object) (current update : Object) (replicas : Pods)
    → Replicas set pods current update replicas → IsAtRest set claims pods owned current update replicas → plan_of_pods set claims pods owned current update ≡ Ok []
unfolding plan_of_pods
pods_of_rest set claims pods owned current update replicas fit rest =
    let sorted = fitting_in_order set update.key.name current.key.name pods replicas fit in
    let none : full_plan set claims pods owned current update replicas ≡ [] = empty_where_rest set claims pods owned current update replicas sorted rest in
    ap (λ r. r >>= λ replicas. Ok (take most_actions (full_plan set claims pods owned current update replicas))) fit ∙ ap (λ l. Ok (take most_actions l)) none

written_is_some : (set : SetParts) (pods : List PodParts) (a : Action) → unless_refused set pods (Ok (a ∷ [])) ≡ Ok [] → ⊥
written_is_some set pods a e =
    elim (fitting_pods set [] [] pods) as (λ r. (r >>= λ _. Ok (a ∷ [])) ≡ Ok [] → ⊥) [
      | Err x ↦ λ h. absurd (cc)
      | Ok replicas ↦ λ h. absurd (cc)
    ] e

refused_is_some : (set : SetParts) (pods : List PodParts) (x : PlanError) → refusal set pods x ≡ Ok [] → ⊥
refused_is_some set pods NoRevisionName e =
    elim (fitting_pods set [] [] pods) as (λ (r : Result Pods PlanError). ◌≡◌ {A = Result (List Action) PlanError} (r >>= λ _. Err NoRevisionName) (Ok []) → ⊥) [
      | Err x ↦ λ h. absurd (cc)
      | Ok replicas ↦ λ h. absurd (cc)
    ] e
refused_is_some set pods NameTooLong e = absurd (cc)
refused_is_some set pods BadSpec e = absurd (cc)
refused_is_some set pods (Foreign name) e = absurd (cc)
refused_is_some set pods OrdinalTooLarge e = absurd (cc)
refused_is_some set pods Memory e = absurd (cc)

-- ---- over lists
abbrev Revisions : SetParts → ℕ → List Object → Result PlanParts PlanError
Revisions set digits revisions = plan_of set (is_held (listed set revisions)) digits (owned_of set revisions)

-- the policy waits for each pod, or all pods are tended
abbrev AreTendedInParallel : SetParts → List Object → Type 0
AreTendedInParallel set pods = set.policy ≡ Parallel → AllByRecursion IsTendedPod (listed_pods set pods)

rests : (set : SetParts) (digits : ℕ) (revisions pods claims : List Object) (plan : Result PlanParts PlanError) → AreTendedInParallel set pods → Revisions set digits revisions ≡ plan
    → plan_by set (listed_claim set claims) (views_of set pods) plan ≡ Ok [] → RestsOver set digits revisions pods claims
unfolding plan_by
rests set digits revisions pods claims (Ok (created o)) seen is e = absurd (written_is_some set (views_of set pods) (WriteRevision o) e)
rests set digits revisions pods claims (Ok (renumbered o)) seen is e = absurd (written_is_some set (views_of set pods) (WriteRevision o) e)
rests set digits revisions pods claims (Ok (settled owned current update)) seen is e =
    let r = rest_of_pods set (listed_claim set claims) (views_of set pods) owned current update (λ replicas fit policy. tended_over set update.key.name current.key.name pods replicas (seen policy) (over_fitting set update.key.name current.key.name (views_of set pods) replicas fit)) e in
    record { owned = owned; current = current; update = update; replicas = r.0; in_place = is; fit = r.1; at_rest = r.2 }
rests set digits revisions pods claims (Err x) seen is e = absurd (refused_is_some set (views_of set pods) x e)

where_rests : (set : SetParts) (digits : ℕ) (revisions pods claims : List Object) → RestsOver set digits revisions pods claims → plan_by set (listed_claim set claims) (views_of set pods) (Revisions set digits revisions) ≡ Ok []
unfolding plan_by
where_rests set digits revisions pods claims rest =
    ap (plan_by set (listed_claim set claims) (views_of set pods)) rest.in_place
    ∙ pods_of_rest set (listed_claim set claims) (views_of set pods) rest.owned rest.current rest.update rest.replicas rest.fit rest.at_rest

pub empty_over_lists : (set : SetParts) (digits : ℕ) (revisions pods claims : List Object) → AreTendedInParallel set pods → (plan_of_lists set digits revisions pods claims ≡ Ok []) ↔ RestsOver set digits revisions pods claims
unfolding plan_of_lists
empty_over_lists set digits revisions pods claims seen =
    (rests set digits revisions pods claims (Revisions set digits revisions) seen refl, where_rests set digits revisions pods claims)

pub rest_is_empty : (set : SetParts) (digits : ℕ) (revisions pods claims : List Object) → RestsOver set digits revisions pods claims → plan_of_lists set digits revisions pods claims ≡ Ok []
unfolding plan_of_lists
rest_is_empty set digits revisions pods claims rest = where_rests set digits revisions pods claims rest
