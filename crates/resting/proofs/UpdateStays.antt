-- An update revision that is in place stays there: a round deletes revisions, but never this one, and it writes none.
use Rattle.std.proofs.Common.{◌≡◌, ◌≢◌, ◌⊎◌, inl, inr, ◌==◌, ◌+◌, ◌-◌, ◌^◌, ◌≤◌, ℕ, zero, suc, Bool, true, false, cond, not, if◌then◌else◌, List, [], ◌∷◌, ◌++◌, length, map, take, bytes_eq, Option, Some, None, Ok, refl, sym, ap, ◌∙◌, subst, true≢false}
use Rattle.std.specs.Prelude.{◌||◌, nat_lt}
use Rattle.std.specs.FinMap as finite
use Rattle.std.specs.FinMap.{get-remove}
use Rattle.std.specs.List.{AllByRecursion, flat_map, list_any}
use Rattle.std.proofs.lemmas.Option.{same_Some}
use Rattle.std.proofs.lemmas.Slice.Eq.{bytes_eq-Decides}
use Rattle.objects.specs.declared.key.Key.{Key}
use Rattle.objects.specs.declared.kind.Kind.TheVariants as kinds
use Rattle.objects.specs.declared.object.Object.{Object}
use Rattle.objects.specs.Key.{is_key, key_parts}
use Rattle.objects.specs.KeyOrder.{key_cmp_total}
use Rattle.objects.specs.PodNames.{most_ordinal}
use Rattle.objects.specs.Uid.{uid_text}
use Rattle.requests.specs.declared.request.Request.{Request}
use Rattle.requests.specs.declared.request.Request.TheVariants.{Delete}
use Rattle.requests.specs.declared.reply.Reply.{Reply}
use Rattle.requests.specs.declared.reply.Reply.TheVariants.{Refused}
use Rattle.requests.specs.declared.reply.Reason.TheVariants.{Conflict, StoreFull}
use Rattle.requests.specs.declared.verdict.Verdict.{Verdict}
use Rattle.requests.specs.declared.verdict.Verdict.TheVariants.{Refuse}
use Rattle.requests.specs.Change.{accepted, removes, stamp}
use Rattle.requests.specs.Lists.{Has as Among}
use Rattle.requests.specs.Verdict.{conflicts, deleted, graceful, on_delete}
use Rattle.set_views.specs.Firsts.{is_held}
use Rattle.set_views.specs.Set.{SetParts}
use Rattle.set_views.specs.SetReading.{set_of}
use Rattle.revisions.specs.Choice.{data_with}
use Rattle.revisions.specs.History.{expired_revisions, has_pod, history, is_live}
use Rattle.revisions.specs.Revision.{listed}
use Rattle.pod_steps.specs.FullSteps.{full_steps}
use Rattle.pod_steps.specs.Step.{is_of_pod}
use Rattle.pod_steps.proofs.Firsts.{replicas_in_order}
use Rattle.plain_store.specs.AtKey.{Has}
use Rattle.plain_store.specs.Route.{route}
use Rattle.plain_store.specs.Run.{after}
use Rattle.plain_store.specs.Store.{Store, carried_out, step, with_change}
use Rattle.plain_store.proofs.OneKey.{step_elsewhere}
use Rattle.rounds.proofs.Lists.{among_either}
use Rattle.sets.specs.declared.action.Action.{Action}
use Rattle.sets.specs.declared.action.Action.TheVariants.{CreateClaim, CreatePod, DeletePod, UpdateClaim, WriteRevision, DeleteRevision, WriteStatus, Wait}
use Rattle.sets.specs.Actions.{Claims, actions_of, version_or_empty}
use Rattle.sets.specs.FullPlan.{current_name, deletion, deletions, full_plan, status_of, status_write}
use Rattle.sets.specs.Plan.{most_actions}
use Rattle.sets.specs.PlanOfLists.{owned_of}
use Rattle.sets.proofs.Ordered.{all_among}
use Rattle.sets.proofs.Owned.{filtered}
use Rattle.controllers.specs.Planned.{deletions as delete_requests, request_of, requests_of}
use Rattle.controllers.proofs.PlannedActions.{among_all, in_requests}
use Rattle.resting.specs.Acting.{IsPlannedOver, MayAct, planned_requests, views_in}
use Rattle.resting.specs.Still.{listed_in}
use Rattle.resting.proofs.AcceptedPlans.{claim_key_is, distinct, known_low}
use Rattle.resting.proofs.Acts.{IsElsewhere}
use Rattle.resting.proofs.Choices.{IsNewest, newest_of}
use Rattle.resting.proofs.OwnedAgain.{IsOwnedIn, kind_of, owned_there, revisions_in}
use Rattle.resting.proofs.Pairs.{in_flat, in_map, in_reverse}
use Rattle.resting.proofs.PlanApart.{IsPlaceBy, of_action, of_status, of_step, target}
use Rattle.resting.proofs.PlanLists.{IsPlanned, plan_is}
use Rattle.resting.proofs.RoundsOnPods.{are_claims, claims_there, replicas_are, sent_is}
use Rattle.resting.proofs.StepsApart.{IsKnown, ordinal_of, steps_known}
use Rattle.resting.proofs.Turns.{no_moment}
use Rattle.resting.proofs.UpToDate.{settled_owned}

-- ---- requests that delete what is there, if anything
abbrev pub Takes : Request → Type 0
Takes r = (q : Key) × (uid : Option (List ℕ)) × (version : Option (List ℕ)) × (r ≡ Delete q uid version None)

abbrev pub SparesOrTakes : Key → Request → Type 0
SparesOrTakes k r = IsElsewhere k r ⊎ Takes r

abbrev IsKeptOrGone : Key → Store → Store → Type 0
IsKeptOrGone k s t = (finite.get t.objects k ≡ finite.get s.objects k) ⊎ (finite.get t.objects k ≡ None)

by_test : (b : Bool) (x y : Option Object) → y ≡ cond b None x → (y ≡ x) ⊎ (y ≡ None)
by_test true x y is = inr is
by_test false x y is = inl is

taken : (s : Store) (k q : Key) (uid version : Option (List ℕ)) → IsKeptOrGone k s (step s (Delete q uid version None)).0
unfolding step route
taken s k q uid version =
    let Q : Verdict → Type 0 = λ v. IsKeptOrGone k s (carried_out s q v).0 in
    elim (finite.get s.objects q) as (λ x. Q (on_delete version uid None x)) [
      | None ↦ inl refl
      | Some o ↦ elim (conflicts version uid o) as (λ b. Q (if b then Refuse Conflict else deleted (graceful o.key.kind None) o)) [
        | true ↦ inl refl
        | false ↦ subst (λ at. Q (deleted at o)) (sym (no_moment o.key.kind))
            (elim (s.counter == s.capacity) as (λ b. let done : Store × Reply = if b then (s, Refused StoreFull) else (with_change s q (removes o), accepted (removes o) (stamp (removes o) (s.counter + 1))) in IsKeptOrGone k s done.0) [
              | true ↦ inl refl
              | false ↦ by_test _ (finite.get s.objects k) (finite.get (finite.remove s.objects q) k) (get-remove key_cmp_total s.objects q k)
            ])
      ]
    ]

one_kept : (k : Key) (s : Store) (r : Request) → SparesOrTakes k r → IsKeptOrGone k s (step s r).0
one_kept k s r (inl other) = inl (step_elsewhere s r k other)
one_kept k s r (inr takes) = let P : Request → Type 0 = λ x. IsKeptOrGone k s (step s x).0 in subst P (sym takes.3) (taken s k takes.0 takes.1 takes.2)

both_kept : (k : Key) (s t u : Store) → IsKeptOrGone k s t → IsKeptOrGone k t u → IsKeptOrGone k s u
both_kept k s t u first (inr none) = inr none
both_kept k s t u (inl same) (inl again) = inl (again ∙ same)
both_kept k s t u (inr none) (inl again) = inr (again ∙ none)

pub kept_or_gone : (k : Key) (s : Store) (rs : List Request) → AllByRecursion (SparesOrTakes k) rs → IsKeptOrGone k s (after s rs)
kept_or_gone k s [] all = inl refl
kept_or_gone k s (r ∷ rs) all = both_kept k s (step s r).0 (after (step s r).0 rs) (one_kept k s r all.0) (kept_or_gone k (step s r).0 rs all.1)

-- ---- lists
among_taken : {X : Type 0} (n : ℕ) (xs : List X) (x : X) → Among x (take n xs) → Among x xs
among_taken zero xs x at = absurd at
among_taken (suc n) [] x at = absurd at
among_taken (suc n) (y ∷ ys) x (inl is) = inl is
among_taken (suc n) (y ∷ ys) x (inr more) = inr (among_taken n ys x more)

or_true : (b c : Bool) → (b || (true || c)) ≡ true
or_true true c = refl
or_true false c = refl

-- ---- the requests of a plan
module _ (set : SetParts) (digits : ℕ) (moment : List ℕ) (s : Store) (plan : IsPlannedOver set digits s) (some : moment ≢ []) (may : MayAct set most_actions s) (is_there : Has s set.object.key set.object) (is_read : set_of set.object ≡ Ok set) where
  abbrev space : List ℕ
  space = set.object.key.namespace

  abbrev claims : Claims
  claims = claims_there set digits moment s plan

  abbrev full : List Action
  full = full_plan set claims (views_in set s) plan.owned plan.current plan.update plan.pods

  abbrev name : List ℕ
  name = current_name set plan.pods plan.current plan.update

  module _ (k : Key) (kind : k.kind ≡ kinds.ControllerRevision) where
    elsewhere : (a : Action) (r : Request) → Among r (request_of space moment a) → ((target set a).kind ≡ kinds.ControllerRevision → ⊥) → IsElsewhere k r
    elsewhere a r at other same = other (ap (λ (q : Key). q.kind) (sym (same_Some k (target set a) (same ∙ (of_action set moment a).0 r at))) ∙ kind)

    takes_it : (called : List ℕ) (uid : ℕ) (version : Option (List ℕ)) (r : Request) (b : Bool) → Among r (delete_requests (if b then Some (key_parts kinds.ControllerRevision space called) else None) uid version None) → Takes r
    takes_it called uid version r false at = absurd at
    takes_it called uid version r true at =
        let q : Key = key_parts kinds.ControllerRevision space called in
        elim (nat_lt uid (2 ^ 48)) as (λ c. Among r (if c then Delete q (Some (uid_text uid)) version None ∷ [] else []) → Takes r) [
          | true ↦ λ here. elim here [ inl is ↦ (q, Some (uid_text uid), version, is) | inr none ↦ absurd none ]
          | false ↦ λ here. absurd here
        ] at

    by_action : (a : Action) (r : Request) → IsPlanned set plan.current plan.update (full_steps set plan.pods) a → Among r (request_of space moment a) → SparesOrTakes k r
    by_action (CreateClaim o) r is at = inl (elsewhere (CreateClaim o) r at (λ same. (let clash : kinds.PersistentVolumeClaim ≡ kinds.ControllerRevision = sym is ∙ same in absurd (cc))))
    by_action (CreatePod o) r is at = inl (elsewhere (CreatePod o) r at (λ same. (let clash : kinds.Pod ≡ kinds.ControllerRevision = sym (ap (λ (x : Object). x.key.kind) is.3) ∙ same in absurd (cc))))
    by_action (DeletePod called uid) r is at = inl (elsewhere (DeletePod called uid) r at (λ same. (let clash : kinds.Pod ≡ kinds.ControllerRevision = same in absurd (cc))))
    by_action (UpdateClaim o) r is at = inl (elsewhere (UpdateClaim o) r at (λ same. (let clash : kinds.PersistentVolumeClaim ≡ kinds.ControllerRevision = sym is ∙ same in absurd (cc))))
    by_action (WriteRevision o) r is at = absurd is
    by_action (DeleteRevision called uid version) r is at = inr (takes_it called uid (Some (version_or_empty version)) r (is_key (key_parts kinds.ControllerRevision space called)) at)
    by_action (WriteStatus o) r is at =
        inl (elsewhere (WriteStatus o) r at (λ same. (let clash : kinds.StatefulSet ≡ kinds.ControllerRevision = sym may.kind ∙ (ap (λ (q : Key). q.kind) (sym is) ∙ same) in absurd (cc))))
    by_action (Wait cause called) r is at = absurd at

    pub spared_or_taken : AllByRecursion (SparesOrTakes k) (planned_requests set digits moment s)
    spared_or_taken =
        let planned = plan_is set claims (views_in set s) plan.owned plan.current plan.update plan.pods (are_claims set (listed_in s set.object.key kinds.PersistentVolumeClaim)) in
        subst (AllByRecursion (SparesOrTakes k)) (sym (sent_is set digits moment s plan))
        (all_among (SparesOrTakes k) (requests_of space moment full) (λ r at.
        let m = in_requests space moment full r at in
        by_action m.0 r (among_all (IsPlanned set plan.current plan.update (full_steps set plan.pods)) full m.0 planned m.1) m.2))

  -- ---- the update revision
  pub owned_is : plan.owned ≡ owned_of set (revisions_in s set)
  owned_is = settled_owned set (is_held (listed set (revisions_in s set))) digits (owned_of set (revisions_in s set)) plan.owned plan.current plan.update plan.in_place

  pub newest : IsNewest (data_with set.template) (owned_of set (revisions_in s set)) plan.update
  newest = newest_of set (is_held (listed set (revisions_in s set))) digits (owned_of set (revisions_in s set)) plan.owned plan.current plan.update plan.in_place

  pub update_owned : Among plan.update (owned_of set (revisions_in s set))
  update_owned = in_reverse (owned_of set (revisions_in s set)) plan.update (subst (Among plan.update) (sym newest.last) (inl refl))

  pub update_there : IsOwnedIn s set plan.update
  update_there = owned_there s set may.filed plan.update update_owned

  update_kind : plan.update.key.kind ≡ kinds.ControllerRevision
  update_kind = kind_of space plan.update.key update_there.1

  -- what is live has not expired
  pub live_stays : (o : Object) → Among o (expired_revisions set (views_in set s) name plan.update.key.name plan.owned) → is_live set (views_in set s) name plan.update.key.name o.key.name ≡ true → ⊥
  live_stays o at live =
      let old = history set (views_in set s) name plan.update.key.name plan.owned in
      let f = filtered (λ x. not (is_live set (views_in set s) name plan.update.key.name x.key.name)) o plan.owned (among_taken (length old - set.history_limit) old o at) in
      true≢false (sym f.1 ∙ ap not live)

  not_expired : (o : Object) → Among o (expired_revisions set (views_in set s) name plan.update.key.name plan.owned) → o.key.name ≢ plan.update.key.name
  not_expired o at same =
      live_stays o at
      (ap (λ b. has_pod set (views_in set s) o.key.name || (b || bytes_eq o.key.name name)) ((bytes_eq-Decides o.key.name plan.update.key.name).1 same)
      ∙ or_true (has_pod set (views_in set s) o.key.name) (bytes_eq o.key.name name))

  -- ---- a revision that has not expired
  abbrev expired : List Object
  expired = expired_revisions set (views_in set s) name plan.update.key.name plan.owned

  module _ (spared : Object) (kind : spared.key.kind ≡ kinds.ControllerRevision) (other : (o : Object) → Among o expired → o.key.name ≢ spared.key.name) where
    in_gone : (b : Bool) (a : Action) → Among a (if b then [] else map deletion expired) → target set a ≢ spared.key
    in_gone true a at same = absurd at
    in_gone false a at same =
        let m = in_map deletion expired a at in
        other m.0 m.1 (ap (λ (x : Action). (target set x).name) (sym m.2) ∙ ap (λ (q : Key). q.name) same)

    not_at_place : (p : Bool) (i : ℕ) (q : Key) → IsPlaceBy set p i q → q ≢ spared.key
    not_at_place true i q at same = let clash : kinds.Pod ≡ kinds.ControllerRevision = ap (λ (x : Key). x.kind) (sym at ∙ same) ∙ kind in absurd (cc)
    not_at_place false i q at same = let clash : kinds.PersistentVolumeClaim ≡ kinds.ControllerRevision = ap (λ (x : Key). x.kind) (sym at.1 ∙ same) ∙ kind in absurd (cc)

    spares : (a : Action) → Among a full → target set a ≢ spared.key
    unfolding full_plan
    spares a at =
        let all = full_steps set plan.pods in
        let done = flat_map (actions_of set claims plan.current plan.update) all in
        let gone = deletions set (views_in set s) plan.owned name plan.update.key.name all in
        let status = status_write set (status_of set plan.pods name plan.update.key.name) in
        let shown = replicas_are set digits moment s plan in
        let sorted = replicas_in_order set plan.update.key.name plan.current.key.name (views_in set s) plan.pods shown in
        elim (among_either a (done ++ gone) status at) [
          | inr last ↦ λ same.
              let clash : kinds.StatefulSet ≡ kinds.ControllerRevision = sym may.kind ∙ (ap (λ (q : Key). q.kind) (sym ((of_status set (status_of set plan.pods name plan.update.key.name)).1 a last) ∙ same) ∙ kind) in
              absurd (cc)
          | inl before ↦ elim (among_either a done gone before) [
            | inr there ↦ in_gone (list_any is_of_pod all) a there
            | inl here ↦
                let m = in_flat (actions_of set claims plan.current plan.update) all a here in
                let low : ordinal_of m.0 ≤ most_ordinal =
                known_low set digits moment s plan some may is_there is_read (ordinal_of m.0) (among_all (λ x. IsKnown set plan.pods (ordinal_of x)) all m.0 (steps_known set plan.pods sorted) m.1) in
                not_at_place (is_of_pod m.0) (ordinal_of m.0) (target set a)
                ((of_step set claims (claim_key_is set (listed_in s set.object.key kinds.PersistentVolumeClaim)) (distinct set digits moment s plan some may is_there is_read) plan.current plan.update m.0 low).1 a m.2)
          ]
        ]

    pub elsewhere_of : AllByRecursion (IsElsewhere spared.key) (planned_requests set digits moment s)
    elsewhere_of =
        subst (AllByRecursion (IsElsewhere spared.key)) (sym (sent_is set digits moment s plan))
        (all_among (IsElsewhere spared.key) (requests_of space moment full) (λ r at same.
        let m = in_requests space moment full r at in
        spares m.0 m.1 (sym (same_Some spared.key (target set m.0) (same ∙ (of_action set moment m.0).0 r m.2)))))

  pub update_elsewhere : AllByRecursion (IsElsewhere plan.update.key) (planned_requests set digits moment s)
  update_elsewhere = elsewhere_of plan.update update_kind not_expired
