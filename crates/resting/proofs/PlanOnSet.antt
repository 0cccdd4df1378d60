-- Of a set itself a plan writes no more than its status.
use Rattle.std.proofs.Common.{◌≡◌, ◌≢◌, ◌⊎◌, inl, inr, ◌≤◌, ℕ, Bool, true, false, if◌then◌else◌, List, [], ◌∷◌, ◌++◌, Some, None, Ok, sym, ap, ◌∙◌, subst}
use Rattle.std.specs.List.{AllByRecursion, flat_map, list_any}
use Rattle.std.specs.Option.{option_map_or}
use Rattle.std.proofs.lemmas.Option.{same_Some}
use Rattle.serde_json.specs.Data.{object}
use Rattle.objects.specs.declared.key.Key.{Key}
use Rattle.objects.specs.declared.kind.Kind.TheVariants as kinds
use Rattle.objects.specs.declared.object.Object.{Object}
use Rattle.objects.specs.Key.{key_parts}
use Rattle.objects.specs.PodNames.{most_ordinal}
use Rattle.requests.specs.declared.request.Request.{Request}
use Rattle.requests.specs.Lists.{Has as Among}
use Rattle.set_views.specs.Claims.{are_distinct, names_of}
use Rattle.set_views.specs.Pod.{PodParts}
use Rattle.set_views.specs.Set.{SetParts}
use Rattle.set_views.specs.SetReading.{set_of}
use Rattle.revisions.specs.History.{expired_revisions}
use Rattle.manifests.specs.BuiltStatus.{StatusParts, built_status, differs, new_status, old_status, set_with}
use Rattle.pod_steps.specs.FullSteps.{full_steps}
use Rattle.pod_steps.specs.Replicas.{AreInOrder, Pods}
use Rattle.pod_steps.specs.Step.{is_of_pod}
use Rattle.pod_steps.proofs.Firsts.{replicas_in_order}
use Rattle.plain_store.specs.AtKey.{Has}
use Rattle.plain_store.specs.Store.{Store}
use Rattle.rounds.proofs.Lists.{among_either}
use Rattle.sets.specs.declared.action.Action.{Action}
use Rattle.sets.specs.declared.action.Action.TheVariants.{WriteStatus}
use Rattle.sets.specs.Actions.{Claims, actions_of}
use Rattle.sets.specs.FullPlan.{current_name, deletions, full_plan, status_of, status_write}
use Rattle.sets.specs.Plan.{most_actions}
use Rattle.sets.proofs.Ordered.{all_among}
use Rattle.controllers.specs.Planned.{request_of, requests_of}
use Rattle.controllers.proofs.PlannedActions.{among_all, in_requests}
use Rattle.resting.specs.Acting.{IsPlannedOver, MayAct, planned_requests, views_in}
use Rattle.resting.specs.Still.{listed_in}
use Rattle.resting.proofs.AcceptedPlans.{claim_key_is, distinct, known_low}
use Rattle.resting.proofs.Acts.{IsElsewhere}
use Rattle.resting.proofs.Pairs.{in_flat}
use Rattle.resting.proofs.PlanApart.{IsPlaceBy, in_gone, of_action, of_step, target}
use Rattle.resting.proofs.ReadAgain.{IsOnStatus}
use Rattle.resting.proofs.RoundsOnPods.{claims_there, replicas_are, sent_is}
use Rattle.resting.proofs.StepsApart.{IsKnown, ordinal_of, steps_known}

-- ---- actions
not_at_place : (set : SetParts) (p : Bool) (i : ℕ) (k : Key) → IsPlaceBy set p i k → k.kind ≡ kinds.StatefulSet → ⊥
not_at_place set true i k at is = let clash : kinds.Pod ≡ kinds.StatefulSet = ap (λ (q : Key). q.kind) (sym at) ∙ is in absurd (cc)
not_at_place set false i k at is = let clash : kinds.PersistentVolumeClaim ≡ kinds.StatefulSet = ap (λ (q : Key). q.kind) (sym at.1) ∙ is in absurd (cc)

abbrev IsStatus : SetParts → Action → Type 0
IsStatus set a = (parts : StatusParts) × (a ≡ WriteStatus (set_with set (object (new_status set parts (old_status set)))))

status_is : (set : SetParts) (parts : StatusParts) (a : Action) → Among a (status_write set parts) → IsStatus set a
unfolding built_status
status_is set parts a at =
    let status = object (new_status set parts (old_status set)) in
    elim (differs set status) as (λ b. Among a (option_map_or (λ o. WriteStatus o ∷ []) (if b then Some (set_with set status) else None) []) → IsStatus set a) [
      | true ↦ λ here. elim here [ inl is ↦ (parts, is) | inr none ↦ absurd none ]
      | false ↦ λ here. absurd here
    ] at

on_set : (set : SetParts) (claims : Claims) (views : List PodParts) (owned : List Object) (current update : Object) (pods : Pods)
    → ((name : List ℕ) (o : Object) → claims name ≡ Some o → o.key ≡ key_parts kinds.PersistentVolumeClaim set.object.key.namespace name) → are_distinct (names_of set.claims) ≡ true
    → AreInOrder pods → ((i : ℕ) → IsKnown set pods i → i ≤ most_ordinal)
    → (a : Action) → Among a (full_plan set claims views owned current update pods)
    → ((target set a).kind ≢ kinds.StatefulSet) ⊎ Among a (status_write set (status_of set pods (current_name set pods current update) update.key.name))
unfolding full_plan
on_set set claims views owned current update pods keyed different sorted low a at =
    let all = full_steps set pods in
    let name = current_name set pods current update in
    let done = flat_map (actions_of set claims current update) all in
    let gone = deletions set views owned name update.key.name all in
    elim (among_either a (done ++ gone) (status_write set (status_of set pods name update.key.name)) at) [
      | inr last ↦ inr last
      | inl before ↦ elim (among_either a done gone before) [
        | inl here ↦
            let m = in_flat (actions_of set claims current update) all a here in
            let known : ordinal_of m.0 ≤ most_ordinal = low (ordinal_of m.0) (among_all (λ x. IsKnown set pods (ordinal_of x)) all m.0 (steps_known set pods sorted) m.1) in
            inl (not_at_place set (is_of_pod m.0) (ordinal_of m.0) (target set a) ((of_step set claims keyed different current update m.0 known).1 a m.2))
        | inr there ↦
            let kind = in_gone set (list_any is_of_pod all) (expired_revisions set views name update.key.name owned) a there in
            inl (λ is. (let clash : kinds.ControllerRevision ≡ kinds.StatefulSet = sym kind ∙ is in absurd (cc)))
      ]
    ]

-- ---- requests
module _ (set : SetParts) (digits : ℕ) (moment : List ℕ) (s : Store) (plan : IsPlannedOver set digits s) (some : moment ≢ []) (may : MayAct set most_actions s) (is_there : Has s set.object.key set.object) (is_read : set_of set.object ≡ Ok set) where
  abbrev space : List ℕ
  space = set.object.key.namespace

  abbrev full : List Action
  full = full_plan set (claims_there set digits moment s plan) (views_in set s) plan.owned plan.current plan.update plan.pods

  -- the status that the plan counts
  abbrev pub counted : StatusParts
  counted = status_of set plan.pods (current_name set plan.pods plan.current plan.update) plan.update.key.name

  of_action_of : (a : Action) → Among a full → ((target set a).kind ≢ kinds.StatefulSet) ⊎ Among a (status_write set counted)
  of_action_of a at =
      let shown = replicas_are set digits moment s plan in
      let sorted : AreInOrder plan.pods = replicas_in_order set plan.update.key.name plan.current.key.name (views_in set s) plan.pods shown in
      on_set set (claims_there set digits moment s plan) (views_in set s) plan.owned plan.current plan.update plan.pods (claim_key_is set (listed_in s set.object.key kinds.PersistentVolumeClaim))
      (distinct set digits moment s plan some may is_there is_read) sorted (known_low set digits moment s plan some may is_there is_read) a at

  elsewhere : (a : Action) (r : Request) → Among r (request_of space moment a) → (target set a).kind ≢ kinds.StatefulSet → IsElsewhere set.object.key r
  elsewhere a r at other same = other (ap (λ (k : Key). k.kind) (sym (same_Some set.object.key (target set a) (same ∙ (of_action set moment a).0 r at))) ∙ may.kind)

  of_status : (a : Action) (r : Request) → Among r (request_of space moment a) → IsStatus set a → IsOnStatus set is_read r
  of_status a r at status =
      let P : Action → Type 0 = λ x. Among r (request_of space moment x) in
      elim (subst P status.1 at) [
        | inl is ↦ inr (status.0, is)
        | inr none ↦ absurd none
      ]

  of_one : (a : Action) (r : Request) → Among r (request_of space moment a) → ((target set a).kind ≢ kinds.StatefulSet) ⊎ Among a (status_write set counted) → IsOnStatus set is_read r
  of_one a r at (inl other) = inl (elsewhere a r at other)
  of_one a r at (inr last) = of_status a r at (status_is set counted a last)

  off_one : status_write set counted ≡ [] → (a : Action) (r : Request) → Among r (request_of space moment a) → ((target set a).kind ≢ kinds.StatefulSet) ⊎ Among a (status_write set counted) → IsElsewhere set.object.key r
  off_one none a r at (inl other) = elsewhere a r at other
  off_one none a r at (inr last) = absurd (subst (Among a) none last)

  all_by : (P : Request → Type 0) → ((a : Action) (r : Request) → Among r (request_of space moment a) → ((target set a).kind ≢ kinds.StatefulSet) ⊎ Among a (status_write set counted) → P r) → AllByRecursion P (planned_requests set digits moment s)
  all_by P each =
      subst (AllByRecursion P) (sym (sent_is set digits moment s plan))
      (all_among P (requests_of space moment full) (λ r at.
      let m = in_requests space moment full r at in
      each m.0 r m.2 (of_action_of m.0 m.1)))

  pub on_status_alone : AllByRecursion (IsOnStatus set is_read) (planned_requests set digits moment s)
  on_status_alone = all_by (IsOnStatus set is_read) of_one

  -- if the plan writes no status, nothing of it is about the set
  pub off_the_set : status_write set counted ≡ [] → AllByRecursion (IsElsewhere set.object.key) (planned_requests set digits moment s)
  off_the_set none = all_by (IsElsewhere set.object.key) (off_one none)
