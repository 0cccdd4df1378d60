-- A plan depends on the first listed pod and claim of each name.
use Rattle.std.proofs.Common.{◌≡◌, ℕ, Bool, true, false, List, [], ◌∷◌, ◌++◌, Result, Ok, Err, filter, find, map, take, not, refl, sym, ap, ◌∙◌, subst}
use Rattle.std.specs.List.{flat_map, list_any}
use Rattle.std.specs.Prelude.{◌||◌, bytes_eq, if◌then◌else◌}
use Rattle.objects.specs.declared.object.Object.{Object}
use Rattle.set_views.specs.declared.fault.PlanError.{PlanError}
use Rattle.set_views.specs.declared.fault.PlanError.TheVariants as errors
use Rattle.set_views.specs.declared.pod.PodView.{PodView}
use Rattle.set_views.specs.Firsts.{is_held}
use Rattle.set_views.specs.Pod.{PodParts, pod_parts}
use Rattle.set_views.specs.Set.{SetParts}
use Rattle.set_views.specs.Steps.{◌>>=◌, Gives, guarded}
use Rattle.revisions.specs.History.{all_but_last, expired_revisions, has_pod}
use Rattle.revisions.specs.Plan.{PlanParts, created, renumbered, settled, plan_of}
use Rattle.revisions.specs.Revision.{listed}
use Rattle.pod_steps.specs.Listed.{is_named, replicas_in}
use Rattle.pod_steps.specs.Replicas.{Pods}
use Rattle.pod_steps.specs.Step.{is_of_pod}
use Rattle.pod_steps.specs.Views.{AreViews, listed_pod, listed_pods}
use Rattle.pod_steps.specs.FullSteps.{full_steps}
use Rattle.pod_steps.proofs.Same.{same_replicas}
use Rattle.claims.specs.Listed.{listed_claim}
use Rattle.sets.specs.declared.action.Action.{Action}
use Rattle.sets.specs.declared.action.Action.TheVariants.{WriteRevision}
use Rattle.sets.specs.declared.action.Plan.{Plan}
use Rattle.sets.specs.Actions.{Claims, actions_of}
use Rattle.sets.specs.Plan.{IsPlan, fitting_pods, names_fit, plan_by, plan_of_pods, refusal, unless_refused}
use Rattle.sets.specs.PlanOfLists.{views_of}
use Rattle.sets.specs.FullPlan.{current_name, deletion, status_of, status_write, full_plan}
use Rattle.sets.proofs.FirstPods.{same_firsts, same_held, stays_listed, views_among}
use Rattle.sets.proofs.SplitNames.{same_views}

module _ (set : SetParts) (listed moved : List PodParts) (firsts : (i : ℕ) → find (is_named set i) listed ≡ find (is_named set i) moved) (held : (name : List ℕ) → has_pod set listed name ≡ has_pod set moved name) where
  fitting_at : (b : Bool) (u v : List ℕ) → (guarded errors.NameTooLong b listed >>= λ fit. replicas_in set u v fit) ≡ (guarded errors.NameTooLong b moved >>= λ fit. replicas_in set u v fit)
  fitting_at true u v = same_replicas set u v listed moved firsts
  fitting_at false u v = refl

  same_fitting : (u v : List ℕ) → fitting_pods set u v listed ≡ fitting_pods set u v moved
  unfolding fitting_pods
  same_fitting u v = fitting_at (names_fit set) u v

  same_expired : (current update : List ℕ) (owned : List Object) → expired_revisions set listed current update owned ≡ expired_revisions set moved current update owned
  same_expired current update owned =
      let each : has_pod set listed ≡ has_pod set moved = λ i name. held name i in
      ap (λ (has : List ℕ → Bool). all_but_last set.history_limit (filter (λ o. not (has o.key.name || (bytes_eq o.key.name update || bytes_eq o.key.name current))) owned)) each

  same_full_plan : (claims : Claims) (owned : List Object) (current update : Object) (pods : Pods) → full_plan set claims listed owned current update pods ≡ full_plan set claims moved owned current update pods
  unfolding full_plan
  same_full_plan claims owned current update pods =
      let name : List ℕ = current_name set pods current update in
      ap (λ (gone : List Object).
      flat_map (actions_of set claims current update) (full_steps set pods) ++ (if list_any is_of_pod (full_steps set pods) then [] else map deletion gone) ++ status_write set (status_of set pods name update.key.name))
      (same_expired name update.key.name owned)

  same_pods : (claims : Claims) (owned : List Object) (current update : Object) → plan_of_pods set claims listed owned current update ≡ plan_of_pods set claims moved owned current update
  unfolding plan_of_pods
  same_pods claims owned current update =
      let each : full_plan set claims listed owned current update ≡ full_plan set claims moved owned current update = λ i pods. same_full_plan claims owned current update pods i in
      ap (λ (r : Result Pods PlanError). r >>= λ replicas. Ok (take 1024 (full_plan set claims listed owned current update replicas))) (same_fitting update.key.name current.key.name)
      ∙ ap (λ (f : Pods → List Action). fitting_pods set update.key.name current.key.name moved >>= λ replicas. Ok (take 1024 (f replicas))) each

  same_unless_refused : (answer : Result (List Action) PlanError) → unless_refused set listed answer ≡ unless_refused set moved answer
  same_unless_refused answer = ap (λ (r : Result Pods PlanError). r >>= λ _. answer) (same_fitting [] [])

  same_refusal : (e : PlanError) → refusal set listed e ≡ refusal set moved e
  same_refusal errors.NoRevisionName = same_unless_refused (Err errors.NoRevisionName)
  same_refusal e = refl

  same_plan : (claims : Claims) (p : Result PlanParts PlanError) → plan_by set claims listed p ≡ plan_by set claims moved p
  unfolding plan_by
  same_plan claims (Ok (created o)) = same_unless_refused (Ok (WriteRevision o ∷ []))
  same_plan claims (Ok (renumbered o)) = same_unless_refused (Ok (WriteRevision o ∷ []))
  same_plan claims (Ok (settled owned current update)) = same_pods claims owned current update
  same_plan claims (Err e) = same_refusal e

read_views : (set : SetParts) (os : List Object) (views : List PodView) → AreViews (listed_pods set os) views → map pod_parts views ≡ views_of set os
unfolding views_of
read_views set os views are = same_views (listed_pods set os) views are

pub plan_of_other_pods : (set : SetParts) (pods others claims revisions : List Object) (digits : ℕ) (result : Result Plan PlanError) → ((name : List ℕ) → listed_pod set pods name ≡ listed_pod set others name)
    → IsPlan set pods claims revisions digits result → IsPlan set others claims revisions digits result
plan_of_other_pods set pods others claims revisions digits (Err errors.Memory) same is = tt
plan_of_other_pods set pods others claims revisions digits result same is =
    let found : Result PlanParts PlanError = plan_of set (is_held (listed set revisions)) digits is.0 in
    let by : List PodParts → Result (List Action) PlanError = λ ps. plan_by set (listed_claim set claims) ps found in
    let read = views_among (listed_pods set others) (listed_pods set pods) is.2.0 is.2.1 (stays_listed set others pods (λ name. sym (same name))) in
    let before : map pod_parts is.2.0 ≡ views_of set pods = read_views set pods is.2.0 is.2.1 in
    let after : map pod_parts read.0 ≡ views_of set others = read_views set others read.0 read.1 in
    let plans : by (views_of set pods) ≡ by (views_of set others) =
    same_plan set (views_of set pods) (views_of set others) (same_firsts set pods others same) (same_held set pods others same) (listed_claim set claims) found in
    let both : by (map pod_parts is.2.0) ≡ by (map pod_parts read.0) = ap by before ∙ (plans ∙ ap by (sym after)) in
    (is.0, is.1, (read.0, read.1, subst (λ (r : Result (List Action) PlanError). Gives (λ (p : Plan). p.actions.items) result r) both is.2.2))

pub plan_of_other_claims : (set : SetParts) (pods claims others revisions : List Object) (digits : ℕ) (result : Result Plan PlanError) → ((name : List ℕ) → listed_claim set claims name ≡ listed_claim set others name)
    → IsPlan set pods claims revisions digits result → IsPlan set pods others revisions digits result
plan_of_other_claims set pods claims others revisions digits (Err errors.Memory) same is = tt
plan_of_other_claims set pods claims others revisions digits result same is =
    let each : listed_claim set claims ≡ listed_claim set others = λ i name. same name i in
    let found : Result PlanParts PlanError = plan_of set (is_held (listed set revisions)) digits is.0 in
    (is.0, is.1, (is.2.0, is.2.1, subst (λ (c : Claims). Gives (λ (p : Plan). p.actions.items) result (plan_by set c (map pod_parts is.2.0) found)) each is.2.2))
