-- A plan that is carried out in a store, and then a kubelet's turn, are a round on the pods of the set.
use Rattle.std.proofs.Common.{◌≡◌, ◌≢◌, ◌≤◌, ◌^◌, ℕ, Bool, true, false, if◌then◌else◌, List, [], ◌∷◌, length, take, option_map, Option, Some, None, Result, Ok, Err, arith, refl, sym, ap, ◌∙◌, subst, length-append}
use Rattle.std.specs.Prelude.{◌&&◌, nat_lt, bytes_eq}
use Rattle.std.specs.List.{list_any}
use Rattle.std.proofs.lemmas.Bool.{and_parts}
use Rattle.std.proofs.lemmas.List.{take_all}
use Rattle.objects.specs.declared.kind.Kind.{Kind}
use Rattle.objects.specs.declared.kind.Kind.TheVariants as kinds
use Rattle.objects.specs.declared.object.Object.{Object}
use Rattle.objects.specs.declared.key.Key.{Key}
use Rattle.objects.specs.Key.{is_key, key_parts}
use Rattle.objects.specs.Uid.{uid_text}
use Rattle.requests.specs.declared.request.Request.{Request}
use Rattle.requests.specs.declared.request.Request.TheVariants.{Delete}
use Rattle.set_views.specs.declared.fault.PlanError.{PlanError}
use Rattle.set_views.specs.declared.fault.PlanError.TheVariants.{NameTooLong}
use Rattle.set_views.specs.declared.readiness.Readiness.TheVariants.{Ready}
use Rattle.set_views.specs.Pod.{PodParts}
use Rattle.set_views.specs.Predicates.{in_namespace, is_kind, is_ready}
use Rattle.set_views.specs.Set.{SetParts}
use Rattle.set_views.specs.Steps.{◌>>=◌, guarded}
use Rattle.pod_steps.specs.declared.replica.Replica.{Replica}
use Rattle.pod_steps.specs.declared.step.Step.{Step}
use Rattle.pod_steps.specs.FullSteps.{full_steps}
use Rattle.pod_steps.specs.Listed.{replicas_in}
use Rattle.pod_steps.specs.Replicas.{Pods, is_failed, pod_at}
use Rattle.pod_steps.specs.Step.{pod_steps}
use Rattle.pod_steps.proofs.Firsts.{replicas_in_order}
use Rattle.pod_steps.proofs.Searches.{passes_in}
use Rattle.claims.specs.Listed.{listed_claim}
use Rattle.plain_store.specs.Run.{after}
use Rattle.plain_store.specs.Store.{Store}
use Rattle.sets.specs.declared.action.Action.{Action}
use Rattle.sets.specs.declared.action.Action.TheVariants.{CreateClaim, CreatePod, DeletePod, UpdateClaim, WriteRevision, DeleteRevision, WriteStatus, Wait}
use Rattle.sets.specs.Actions.{Claims}
use Rattle.sets.specs.FullPlan.{full_plan}
use Rattle.sets.specs.Plan.{fitting_pods, most_actions, names_fit, plan_by, plan_of_pods}
use Rattle.sets.specs.PlanOfLists.{plan_of_lists}
use Rattle.controllers.specs.Planned.{deletions, or_none, request_of, requested_for, requests_of}
use Rattle.convergence.specs.Rounds.{IsNew, IsRound, after_round, creates, deletes, made_ready, tended}
use Rattle.resting.specs.Acting.{IsCreated, IsPlannedOver, MayAct, after_both, after_plan, after_steps, marked, planned_requests, views_in}
use Rattle.resting.specs.Still.{listed_in}
use Rattle.resting.specs.Turns.{MayTurn}
use Rattle.resting.proofs.PlanLists.{plan_requests}
use Rattle.resting.proofs.PlansOnPods.{pod_after}
use Rattle.resting.proofs.Turns.{turn_is_over}
use Rattle.resting.proofs.TurnsOnPods.{at_store, own_at, turn_at}

-- ---- what is sent
guarded_pods : (b : Bool) (views : List PodParts) (f : List PodParts → Result Pods PlanError) (pods : Pods) → (guarded NameTooLong b views >>= f) ≡ Ok pods → f views ≡ Ok pods
guarded_pods true views f pods is = is
guarded_pods false views f pods is = let clash : Err NameTooLong ≡ Ok pods = is in absurd (cc)

module _ (set : SetParts) (digits : ℕ) (moment : List ℕ) (s : Store) (plan : IsPlannedOver set digits s) where
  abbrev pub claims_there : Claims
  claims_there = listed_claim set (listed_in s set.object.key kinds.PersistentVolumeClaim)

  abbrev pub sent : List Request
  sent = plan_requests set claims_there (views_in set s) plan.owned plan.current plan.update plan.pods moment

  abbrev then_sent : Result (List Action) PlanError → List Request
  then_sent planned = or_none (planned >>= λ actions. Ok (requests_of set.object.key.namespace moment actions))

  pub sent_is : planned_requests set digits moment s ≡ sent
  unfolding requested_for plan_of_lists plan_by plan_of_pods
  sent_is =
      ap (λ r. then_sent (plan_by set claims_there (views_in set s) r)) plan.in_place
      ∙ (ap (λ r. then_sent (r >>= λ replicas. Ok (take most_actions (full_plan set claims_there (views_in set s) plan.owned plan.current plan.update replicas)))) plan.fit
      ∙ ap (requests_of set.object.key.namespace moment) (take_all most_actions (full_plan set claims_there (views_in set s) plan.owned plan.current plan.update plan.pods) plan.whole))

  pub replicas_are : replicas_in set plan.update.key.name plan.current.key.name (views_in set s) ≡ Ok plan.pods
  unfolding fitting_pods
  replicas_are = guarded_pods (names_fit set) (views_in set s) (λ fit. replicas_in set plan.update.key.name plan.current.key.name fit) plan.pods plan.fit

-- ---- how many requests
at_most_one : (b c : Bool) (key : Key) (uid : ℕ) (version at : Option (List ℕ)) → length (deletions (if b then Some key else None) uid version at) ≤ 1
at_most_one false c key uid version at = omega arith
at_most_one true c key uid version at =
    elim (nat_lt uid (2 ^ 48)) as (λ d. length (if d then Delete key (Some (uid_text uid)) version at ∷ [] else []) ≤ 1) [ true ↦ omega arith | false ↦ omega arith ]

one_request : (namespace moment : List ℕ) (a : Action) → length (request_of namespace moment a) ≤ 1
one_request namespace moment (CreateClaim o) = omega arith
one_request namespace moment (CreatePod o) = omega arith
one_request namespace moment (DeletePod name uid) = at_most_one (is_key (key_parts kinds.Pod namespace name)) true (key_parts kinds.Pod namespace name) uid None (Some moment)
one_request namespace moment (UpdateClaim o) = omega arith
one_request namespace moment (WriteRevision o) = omega arith
one_request namespace moment (DeleteRevision name uid version) = at_most_one (is_key (key_parts kinds.ControllerRevision namespace name)) true (key_parts kinds.ControllerRevision namespace name) uid _ None
one_request namespace moment (WriteStatus o) = omega arith
one_request namespace moment (Wait cause name) = omega arith

no_more_requests : (namespace moment : List ℕ) (actions : List Action) → length (requests_of namespace moment actions) ≤ length actions
no_more_requests namespace moment [] = omega arith
no_more_requests namespace moment (a ∷ actions) =
    let first = one_request namespace moment a in
    let rest = no_more_requests namespace moment actions in
    let both = length-append (request_of namespace moment a) (requests_of namespace moment actions) in
    omega (arith, first, rest, both)

-- ---- claims
is_claim : (kind : Kind) → is_kind kinds.PersistentVolumeClaim kind ≡ true → kind ≡ kinds.PersistentVolumeClaim
is_claim kinds.StatefulSet h = absurd (cc)
is_claim kinds.Pod h = absurd (cc)
is_claim kinds.PersistentVolumeClaim h = refl
is_claim kinds.ControllerRevision h = absurd (cc)

pub are_claims : (set : SetParts) (objects : List Object) (name : List ℕ) (o : Object) → listed_claim set objects name ≡ Some o → o.key.kind ≡ kinds.PersistentVolumeClaim
are_claims set objects name o found =
    let test : Object → Bool = λ x. in_namespace set kinds.PersistentVolumeClaim x && bytes_eq x.key.name name in
    let both = and_parts (in_namespace set kinds.PersistentVolumeClaim o) (bytes_eq o.key.name name) (passes_in test objects o found) in
    is_claim o.key.kind (and_parts (is_kind kinds.PersistentVolumeClaim o.key.kind) (bytes_eq o.key.namespace set.object.key.namespace) both.0).0

-- ---- a plan
module _ (set : SetParts) (digits : ℕ) (moment : List ℕ) (s : Store) (plan : IsPlannedOver set digits s) (some : moment ≢ []) (may : MayAct set most_actions s) where
  abbrev own_now : Store → ℕ → Option Replica
  own_now t i = own_at set plan.update.key.name plan.current.key.name t i

  abbrev steps_now : List Step
  steps_now = pod_steps (full_steps set plan.pods)

  pub may_send : MayAct set (length (sent set digits moment s plan)) s
  may_send =
      let few = no_more_requests set.object.key.namespace moment (full_plan set (claims_there set digits moment s plan) (views_in set s) plan.owned plan.current plan.update plan.pods) in
      let whole = plan.whole in
      let room = may.room in
      record { filed = may.filed; keys = may.keys; uids = may.uids; kind = may.kind; name = may.name; ordinals = may.ordinals; room = omega (arith, few, whole, room) }

  own_after_plan : (i : ℕ) → (new : Replica) × IsCreated set i new × (own_now (after_plan set digits moment s) i ≡ after_steps steps_now i new (pod_at plan.pods i))
  own_after_plan i =
      let P : List Request → Type 0 = λ rs. (new : Replica) × IsCreated set i new × (own_now (after s rs) i ≡ after_steps steps_now i new (pod_at plan.pods i)) in
      subst P (sym (sent_is set digits moment s plan))
      (pod_after set (claims_there set digits moment s plan) plan.owned plan.current plan.update plan.pods moment s (are_claims set (listed_in s set.object.key kinds.PersistentVolumeClaim)) (replicas_are set digits moment s plan) some may_send i)

  pub plan_acts : (next : Pods) → replicas_in set plan.update.key.name plan.current.key.name (views_in set (after_plan set digits moment s)) ≡ Ok next
      → (i : ℕ) → (new : Replica) × IsCreated set i new × (pod_at next i ≡ after_steps steps_now i new (pod_at plan.pods i))
  plan_acts next shown i =
      let a = own_after_plan i in
      (a.0, a.1, at_store set plan.update.key.name plan.current.key.name (after_plan set digits moment s) next i shown ∙ a.2)

  -- ---- and a turn
  ready_then : (pod : Replica) → is_failed pod.readiness ≡ false → is_ready (made_ready pod).readiness ≡ true
  ready_then pod starting = ap (λ b. is_ready (if b then pod else record pod { readiness = Ready }).readiness) starting

  same_mark : (pod : Replica) → (made_ready pod).terminating ≡ pod.terminating
  same_mark pod = elim (is_failed pod.readiness) as (λ b. (if b then pod else record pod { readiness = Ready }).terminating ≡ pod.terminating) [ true ↦ refl | false ↦ refl ]

  same_revision : (pod : Replica) → (made_ready pod).updated ≡ pod.updated
  same_revision pod = elim (is_failed pod.readiness) as (λ b. (if b then pod else record pod { readiness = Ready }).updated ≡ pod.updated) [ true ↦ refl | false ↦ refl ]

  new_then : (i : ℕ) (pod : Replica) → IsCreated set i pod → IsNew set i (made_ready pod)
  new_then i pod is = record {
    ready = ready_then pod is.starting;
    staying = same_mark pod ∙ is.staying;
    updated = λ at. same_revision pod ∙ is.updated at;
  }

  gone_then : (here : Option Replica) → tended (option_map marked here) ≡ None
  gone_then None = refl
  gone_then (Some pod) = refl

  tended_then : (steps : List Step) (i : ℕ) (new : Replica) (here : Option Replica) → new.terminating ≡ false → tended (after_steps steps i new here) ≡ after_round steps i (made_ready new) here
  tended_then steps i new here staying =
      elim (list_any (deletes i) steps) as (λ b. tended (if b then option_map marked here else if list_any (creates i) steps then Some new else here) ≡ (if b then None else if list_any (creates i) steps then Some (made_ready new) else tended here)) [
        | true ↦ gone_then here
        | false ↦ elim (list_any (creates i) steps) as (λ b. tended (if b then Some new else here) ≡ (if b then Some (made_ready new) else tended here)) [
          | true ↦ ap (λ b. if b then None else Some (made_ready new)) staying
          | false ↦ refl
        ]
      ]

  -- at an ordinal, if the turn takes what the plan has left there
  pub round_at : (t : Store) → ((i : ℕ) → own_now t i ≡ tended (own_now (after_plan set digits moment s) i))
      → (i : ℕ) → (new : Replica) × IsNew set i new × (own_now t i ≡ after_round steps_now i new (pod_at plan.pods i))
  round_at t turned i =
      let a = own_after_plan i in
      (made_ready a.0, new_then i a.0 a.1, turned i ∙ (ap tended a.2 ∙ tended_then steps_now i a.0 (pod_at plan.pods i) a.1.staying))

  pub round_on_pods : (next : Pods) → MayTurn set.object.key.namespace (after_plan set digits moment s)
      → replicas_in set plan.update.key.name plan.current.key.name (views_in set (after_both set digits moment s)) ≡ Ok next → IsRound set plan.pods next
  round_on_pods next turns shown =
      let end = after_both set digits moment s in
      let turned : (i : ℕ) → own_now end i ≡ tended (own_now (after_plan set digits moment s) i) =
      turn_at set plan.update.key.name plan.current.key.name (after_plan set digits moment s) end turns.filed (turn_is_over (after_plan set digits moment s) set.object.key.namespace turns) in
      record {
        in_order = replicas_in_order set plan.update.key.name plan.current.key.name (views_in set end) next shown;
        new = λ i. (round_at end turned i).0;
        are_new = λ i. (round_at end turned i).1;
        is_next = λ i. at_store set plan.update.key.name plan.current.key.name end next i shown ∙ (round_at end turned i).2;
      }
