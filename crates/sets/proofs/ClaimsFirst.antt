-- The create of a pod is after the creates of its claims.
use Rattle.std.proofs.Common.{◌≡◌, inl, inr, ℕ, zero, suc, ◌+◌, ◌-◌, ◌^◌, ◌≤◌, ◌<◌, Bool, true, false, if◌then◌else◌, List, [], ◌∷◌, ◌++◌, append_assoc, map, take, find, reverse, Option, Some, None, Ok, arith, refl, sym, ap, subst}
use Rattle.std.proofs.lemmas.Grind.{flat_map-append}
use Rattle.std.proofs.lemmas.List.{append-nil}
use Rattle.std.proofs.lemmas.List.Elements.{Contains-append_cases, Contains-append_left, Contains-append_right}
use Rattle.std.specs.List.{Contains, flat_map, list_any, range_with_len}
use Rattle.std.specs.Option.{option_map_or}
use Rattle.std.specs.Prelude.{⊤, ◌||◌, length, nat_le, not, ◌&&◌}
use Rattle.serde_json.specs.View.{items_of}
use Rattle.objects.specs.declared.object.Object.{Object}
use Rattle.objects.specs.PodNames.{claim_name}
use Rattle.set_views.specs.declared.fault.PlanError.TheVariants.{NameTooLong}
use Rattle.set_views.specs.declared.policies.Policy.TheVariants.{OrderedReady, Parallel}
use Rattle.set_views.specs.declared.policies.Strategy.TheVariants.{RollingUpdate, OnDelete}
use Rattle.set_views.specs.Pod.{PodParts}
use Rattle.set_views.specs.Set.{SetParts}
use Rattle.set_views.specs.Steps.{guarded}
use Rattle.set_views.specs.Predicates.{in_range, is_ready}
use Rattle.revisions.specs.History.{expired_revisions}
use Rattle.pod_steps.specs.declared.replica.Replica.{Replica}
use Rattle.pod_steps.specs.declared.step.Step.{Step}
use Rattle.pod_steps.specs.declared.step.Step.TheVariants as steps
use Rattle.pod_steps.specs.Replicas.{Pods, is_out_of_range, is_due, is_failed, lacks_healthy, ordinals, pod_at}
use Rattle.pod_steps.specs.Step.{is_of_pod}
use Rattle.pod_steps.specs.FullSteps.{all_target_steps, parallel_steps, target_steps, removal_steps_unless, ordered_ready_steps, ordered_ready_steps_at, is_other_unhealthy, keep_steps, condemned_steps, creation_steps, gap_steps, full_steps, full_steps_by, removal_steps, replacement_steps, scale_down_steps, scale_down_or_update_steps, revision_at, rolling_update_steps, parallel_scaling_steps, update_steps, update_steps_by, wait_for}
use Rattle.pod_steps.proofs.ParallelPlans.{alone, nowhere, single}
use Rattle.pod_steps.proofs.Searches.{found_in}
use Rattle.pod_steps.proofs.OrderedReadyPlans.{bounds, inside}
use Rattle.manifests.specs.BuiltClaim.{built_claim}
use Rattle.manifests.specs.BuiltStatus.{built_status}
use Rattle.claims.specs.declared.change.ClaimChange.{ClaimChange}
use Rattle.claims.specs.declared.change.ClaimChange.TheVariants.{Create, Update as Change}
use Rattle.claims.specs.Changes.{all_creates_and_updates, keep_claims, create_or_update as made_of, make_claims, release_claims}
use Rattle.claims.specs.Owners.{owner_in_range, wanted_entries}
use Rattle.sets.specs.declared.action.Action.{Action}
use Rattle.sets.specs.declared.action.Action.TheVariants.{CreateClaim, CreatePod, DeletePod, UpdateClaim, WriteRevision, DeleteRevision, WriteStatus, Wait}
use Rattle.sets.specs.Actions.{Claims, actions_of, changes_in, claim_action, claim_actions, name_at, new_pod, revision_of}
use Rattle.sets.specs.Laws.{CreateMissingClaims}
use Rattle.sets.specs.Plan.{plan_of_pods}
use Rattle.sets.specs.FullPlan.{current_name, deletion, deletions, status_of, status_write, full_plan}
use Rattle.sets.proofs.ClaimActions.{from_template}
use Rattle.sets.proofs.Names.{created_fits}
use Rattle.sets.proofs.Origins.{planned_over}

module _ (set : SetParts) (claims : Claims) where
  -- what is said of an action after these
  Follows : List Action → Action → Type 0
  Follows before (CreateClaim o) = ⊤
  Follows before (CreatePod pod) = (i : ℕ) × (pod.key.name ≡ name_at set i) × (in_range set i ≡ true) × CreateMissingClaims set claims before i
  Follows before (DeletePod name uid) = ⊤
  Follows before (UpdateClaim o) = ⊤
  Follows before (WriteRevision o) = ⊤
  Follows before (DeleteRevision name uid version) = ⊤
  Follows before (WriteStatus o) = ⊤
  Follows before (Wait cause name) = ⊤

  -- and of each of a list, after those before it
  AllFollow : List Action → List Action → Type 0
  AllFollow before [] = ⊤
  AllFollow before (a ∷ xs) = Follows before a × AllFollow (before ++ a ∷ []) xs

  further : (before xs ys : List Action) (a : Action) → AllFollow ((before ++ a ∷ []) ++ xs) ys → AllFollow (before ++ a ∷ xs) ys
  further before xs ys a h = let P : List Action → Type 0 = λ l. AllFollow l ys in subst P (append_assoc before (a ∷ []) xs) h

  both : (before xs ys : List Action) → AllFollow before xs → AllFollow (before ++ xs) ys → AllFollow before (xs ++ ys)
  unfolding AllFollow
  both before [] ys f g = let P : List Action → Type 0 = λ l. AllFollow l ys in subst P (append-nil before) g
  both before (a ∷ xs) ys f g =
      let P : List Action → Type 0 = λ l. AllFollow l ys in
      (f.0, both (before ++ a ∷ []) xs ys f.1 (subst P (sym (append_assoc before (a ∷ []) xs)) g))

  of_first : (n : ℕ) (before xs : List Action) → AllFollow before xs → AllFollow before (take n xs)
  unfolding AllFollow
  of_first zero before xs f = tt
  of_first (suc n) before [] f = tt
  of_first (suc n) before (a ∷ xs) f = (f.0, of_first n (before ++ a ∷ []) xs f.1)

  at : (before xs ys : List Action) (a : Action) → AllFollow before (xs ++ a ∷ ys) → Follows (before ++ xs) a
  unfolding AllFollow
  at before [] ys a f = let P : List Action → Type 0 = λ l. Follows l a in subst P (sym (append-nil before)) f.0
  at before (x ∷ xs) ys a f = let P : List Action → Type 0 = λ l. Follows l a in subst P (append_assoc before (x ∷ []) xs) (at (before ++ x ∷ []) xs ys a f.1)

  -- whatever comes before
  Stands : List Action → Type 0
  Stands xs = (before : List Action) → AllFollow before xs

  stand_both : (xs ys : List Action) → Stands xs → Stands ys → Stands (xs ++ ys)
  unfolding Stands
  stand_both xs ys f g before = both before xs ys (f before) (g (before ++ xs))

  stand_none : Stands []
  unfolding Stands AllFollow
  stand_none before = tt

  stand_changes : (changes : List ClaimChange) → Stands (claim_actions changes)
  unfolding Stands AllFollow Follows
  stand_changes [] before = tt
  stand_changes (Create o ∷ changes) before = (tt, stand_changes changes (before ++ CreateClaim o ∷ []))
  stand_changes (Change o ∷ changes) before = (tt, stand_changes changes (before ++ UpdateClaim o ∷ []))

  stand_deletions : (os : List Object) → Stands (map deletion os)
  unfolding Stands AllFollow Follows
  stand_deletions [] before = tt
  stand_deletions (o ∷ os) before = (tt, stand_deletions os (before ++ deletion o ∷ []))

  stand_history : (b : Bool) (os : List Object) → Stands (if b then [] else map deletion os)
  stand_history true os = stand_none
  stand_history false os = stand_deletions os

  stand_status : (written : Option Object) → Stands (option_map_or (λ o. WriteStatus o ∷ []) written [])
  unfolding Stands AllFollow Follows
  stand_status None before = tt
  stand_status (Some o) before = (tt, tt)

  -- ---- the actions of a create
  all_in : (i : ℕ) (b : Bool) → b ≡ true → changes_in (guarded NameTooLong b (all_creates_and_updates set claims i set.claims)) ≡ all_creates_and_updates set claims i set.claims
  all_in i true fit = refl
  all_in i false fit = absurd (cc)

  -- the name of a pod in range is not too long
  Fits : Type 0
  Fits = (i : ℕ) → in_range set i ≡ true → nat_le (length (name_at set i)) 63 ≡ true

  among_actions : (changes : List ClaimChange) (change : ClaimChange) → Contains changes change → Contains (claim_actions changes) (claim_action change)
  among_actions [] change h = absurd (nowhere change h)
  among_actions (x ∷ changes) change h =
      elim (Contains-append_cases (x ∷ []) changes change h) [
        | inl k ↦ Contains-append_left (claim_action x ∷ []) (claim_actions changes) (claim_action change) (single (claim_action x) (claim_action change) (ap claim_action (alone x change k)))
        | inr k ↦ Contains-append_right (claim_action x ∷ []) (claim_actions changes) (claim_action change) (among_actions changes change k)
      ]

  all_are_made : Fits → (i : ℕ) → in_range set i ≡ true → (before : List Action) → CreateMissingClaims set claims (before ++ claim_actions (changes_in (make_claims set claims i))) i
  unfolding Fits built_claim
  all_are_made fits i within before c there missing =
      let new : Object = built_claim set i (items_of (wanted_entries set (name_at set i) (owner_in_range set) [])) c in
      let is : made_of set i c (claims (claim_name c.0 set.object.key.name i)) ≡ Some (Create new) = ap (made_of set i c) missing in
      let among : Contains (all_creates_and_updates set claims i set.claims) (Create new) = from_template (λ x. made_of set i x (claims (claim_name x.0 set.object.key.name i))) set.claims c (Create new) there is in
      let P : List ClaimChange → Type 0 = λ l. Contains (claim_actions l) (CreateClaim new) in
      (new, Contains-append_right before (claim_actions (changes_in (make_claims set claims i))) (CreateClaim new) (subst P (sym (all_in i _ (fits i within))) (among_actions (all_creates_and_updates set claims i set.claims) (Create new) among)), refl)

  module _ (current update : Object) where
    -- ---- the actions of steps
    StepsStand : List Step → Type 0
    StepsStand xs = Stands (flat_map (actions_of set claims current update) xs)

    steps_both : (xs ys : List Step) → StepsStand xs → StepsStand ys → StepsStand (xs ++ ys)
    unfolding StepsStand
    steps_both xs ys f g = subst Stands (sym (flat_map-append (actions_of set claims current update) xs ys)) (stand_both (flat_map (actions_of set claims current update) xs) (flat_map (actions_of set claims current update) ys) f g)

    steps_none : StepsStand []
    unfolding StepsStand
    steps_none = stand_none

    one_step : (x : Step) → Stands (actions_of set claims current update x) → StepsStand (x ∷ [])
    unfolding StepsStand
    one_step x f = stand_both (actions_of set claims current update x) [] f stand_none

    keeping : (i : ℕ) → StepsStand (keep_steps i)
    unfolding actions_of
    keeping i = one_step (steps.KeepClaims i) (stand_changes (keep_claims set claims i))

    releasing : (i uid : ℕ) → StepsStand (steps.ReleaseClaims i uid ∷ [])
    unfolding actions_of
    releasing i uid = one_step (steps.ReleaseClaims i uid) (stand_changes (release_claims set claims i uid))

    deleting : (i uid : ℕ) → StepsStand (steps.DeletePod i uid ∷ [])
    unfolding actions_of Stands AllFollow Follows
    deleting i uid = one_step (steps.DeletePod i uid) (λ before. (tt, tt))

    waiting : (i : ℕ) (pod : Replica) → StepsStand (wait_for i pod ∷ [])
    unfolding actions_of Stands AllFollow Follows
    waiting i pod = one_step (wait_for i pod) (λ before. (tt, tt))

    removing : (i : ℕ) (pod : Replica) → StepsStand (removal_steps i pod)
    removing i pod = steps_both (steps.ReleaseClaims i pod.uid ∷ []) (steps.DeletePod i pod.uid ∷ []) (releasing i pod.uid) (deleting i pod.uid)

    making : Fits → (i : ℕ) → in_range set i ≡ true → StepsStand (creation_steps set i)
    unfolding actions_of StepsStand Stands AllFollow Follows
    making fits i within before =
        let changes : List Action = claim_actions (changes_in (make_claims set claims i)) in
        both before changes (CreatePod (new_pod set (revision_of current update (revision_at set.strategy i)) i) ∷ []) (stand_changes (changes_in (make_claims set claims i)) before)
        ((i, refl, within, all_are_made fits i within before), tt)

    -- ---- the walk
    over_all : {X : Type 0} (g : X → List Step) → ((x : X) → StepsStand (g x)) → (xs : List X) → StepsStand (flat_map g xs)
    over_all g f [] = steps_none
    over_all g f (x ∷ xs) = steps_both (g x) (flat_map g xs) (f x) (over_all g f xs)

    over_range : (g : ℕ → List Step) (a n : ℕ) → ((j : ℕ) → a ≤ j → j < a + n → StepsStand (g j)) → StepsStand (flat_map g (range_with_len a n))
    over_range g a zero f = steps_none
    over_range g a (suc n) f = steps_both (g a) (flat_map g (range_with_len (a + 1) n)) (f a (omega arith) (omega arith)) (over_range g (a + 1) n (λ j from to. f j (omega arith) (omega arith)))

    closing_gap : Fits → (i : ℕ) (here : Option Replica) → in_range set i ≡ true → StepsStand (gap_steps set i here)
    closing_gap fits i None within = making fits i within
    closing_gap fits i (Some pod) within =
        elim (pod.terminating) as (λ t. StepsStand (if t then wait_for i pod ∷ [] else if is_failed pod.readiness then steps.DeletePod i pod.uid ∷ [] else wait_for i pod ∷ [])) [
          | true ↦ waiting i pod
          | false ↦ elim (is_failed pod.readiness) as (λ f. StepsStand (if f then steps.DeletePod i pod.uid ∷ [] else wait_for i pod ∷ [])) [ true ↦ deleting i pod.uid | false ↦ waiting i pod ]
        ]

    of_target : Fits → (i : ℕ) (here : Option Replica) → in_range set i ≡ true → StepsStand (target_steps set i here)
    of_target fits i None within = making fits i within
    of_target fits i (Some pod) within =
        elim (pod.terminating) as (λ t. StepsStand (if t then [] else if is_failed pod.readiness then steps.DeletePod i pod.uid ∷ [] else if is_ready pod.readiness then keep_steps i else [])) [
          | true ↦ steps_none
          | false ↦ elim (is_failed pod.readiness) as (λ f. StepsStand (if f then steps.DeletePod i pod.uid ∷ [] else if is_ready pod.readiness then keep_steps i else [])) [
            | true ↦ deleting i pod.uid
            | false ↦ elim (is_ready pod.readiness) as (λ r. StepsStand (if r then keep_steps i else [])) [ true ↦ keeping i | false ↦ steps_none ]
          ]
        ]

    of_condemned : (e : ℕ × Replica) → StepsStand (condemned_steps set e)
    of_condemned e = elim (in_range set e.0 || e.1.terminating) as (λ b. StepsStand (if b then [] else removal_steps e.0 e.1)) [ true ↦ steps_none | false ↦ removing e.0 e.1 ]

    replacing : (i : ℕ) (here : Option Replica) → StepsStand (replacement_steps i here)
    replacing i None = steps_none
    replacing i (Some pod) = elim (not pod.updated && not pod.terminating) as (λ b. StepsStand (if b then steps.DeletePod i pod.uid ∷ [] else wait_for i pod ∷ [])) [ true ↦ deleting i pod.uid | false ↦ waiting i pod ]

    rolling : (pods : Pods) (due : Option ℕ) → StepsStand (rolling_update_steps pods due)
    rolling pods None = steps_none
    rolling pods (Some i) = replacing i (pod_at pods i)

    updating : (pods : Pods) → StepsStand (update_steps set pods)
    unfolding update_steps
    updating pods =
        elim (set.strategy) as (λ s. StepsStand (update_steps_by s set pods)) [
          | RollingUpdate partition ↦ rolling pods (find (is_due partition pods) (reverse (ordinals set)))
          | OnDelete ↦ steps_none
        ]

    scaling_down : (pods : Pods) (e : ℕ × Replica) → StepsStand (scale_down_steps set pods e)
    scaling_down pods e =
        elim (e.1.terminating) as (λ t. StepsStand (if t then wait_for e.0 e.1 ∷ [] else removal_steps_unless e (find (is_other_unhealthy set e.0) pods))) [
          | true ↦ waiting e.0 e.1
          | false ↦ elim (find (is_other_unhealthy set e.0) pods) as (λ o. StepsStand (removal_steps_unless e o)) [ None ↦ removing e.0 e.1 | Some other ↦ waiting other.0 other.1 ]
        ]

    ending : (pods : Pods) (highest : Option (ℕ × Replica)) → StepsStand (scale_down_or_update_steps set pods highest)
    ending pods None = updating pods
    ending pods (Some e) = scaling_down pods e

    ordered_ready_stand : Fits → (pods : Pods) → StepsStand (ordered_ready_steps set pods)
    ordered_ready_stand fits pods =
        elim (find (lacks_healthy pods) (ordinals set)) as (λ g. find (lacks_healthy pods) (ordinals set) ≡ g → StepsStand (ordered_ready_steps_at set pods g)) [
          | Some i ↦ λ e.
              let at = found_in (lacks_healthy pods) set.start set.replicas i e in
              steps_both (flat_map keep_steps (range_with_len set.start (i - set.start))) (gap_steps set i (pod_at pods i)) (over_all keep_steps keeping (range_with_len set.start (i - set.start))) (closing_gap fits i (pod_at pods i) (inside set i at.0 at.1))
          | None ↦ λ e. steps_both (flat_map keep_steps (ordinals set)) (scale_down_or_update_steps set pods (find (is_out_of_range set) (reverse pods))) (over_all keep_steps keeping (ordinals set)) (ending pods (find (is_out_of_range set) (reverse pods)))
        ] refl

    parallel_stand : Fits → (pods : Pods) → StepsStand (parallel_steps set pods)
    unfolding parallel_scaling_steps
    parallel_stand fits pods =
        let rest : List Step = if list_any is_of_pod (parallel_scaling_steps set pods) then [] else update_steps set pods in
        steps_both (parallel_scaling_steps set pods) rest
        (steps_both (all_target_steps set pods) (flat_map (condemned_steps set) (reverse pods))
        (over_range (λ i. target_steps set i (pod_at pods i)) set.start set.replicas (λ j from to. of_target fits j (pod_at pods j) (inside set j from to)))
        (over_all (condemned_steps set) of_condemned (reverse pods)))
        (elim (list_any is_of_pod (parallel_scaling_steps set pods)) as (λ b. StepsStand (if b then [] else update_steps set pods)) [ true ↦ steps_none | false ↦ updating pods ])

    planned_stand : Fits → (pods : Pods) → StepsStand (full_steps set pods)
    planned_stand fits pods = elim (set.policy) as (λ p. StepsStand (full_steps_by p set pods)) [ OrderedReady ↦ ordered_ready_stand fits pods | Parallel ↦ parallel_stand fits pods ]

    -- ---- the full plan
    full_plan_stands : Fits → (listed : List PodParts) (owned : List Object) (pods : Pods) → Stands (full_plan set claims listed owned current update pods)
    unfolding full_plan StepsStand
    full_plan_stands fits listed owned pods =
        let name : List ℕ = current_name set pods current update in
        let steps : List Action = flat_map (actions_of set claims current update) (full_steps set pods) in
        let gone : List Action = deletions set listed owned name update.key.name (full_steps set pods) in
        stand_both (steps ++ gone) (status_write set (status_of set pods name update.key.name))
        (stand_both steps gone (planned_stand fits pods) (stand_history (list_any is_of_pod (full_steps set pods)) (expired_revisions set listed name update.key.name owned)))
        (stand_status (built_status set (status_of set pods name update.key.name)))

pub claims_come_first : (set : SetParts) (claims : Claims) (listed : List PodParts) (owned : List Object) (current update : Object) (before after : List Action) (pod : Object) → set.start + set.replicas ≤ 2 ^ 31 → plan_of_pods set claims listed owned current update ≡ Ok (before ++ CreatePod pod ∷ after) → (i : ℕ) × (pod.key.name ≡ name_at set i) × (in_range set i ≡ true) × CreateMissingClaims set claims before i
unfolding Follows Stands Fits
claims_come_first set claims listed owned current update before after pod small e =
    let p = planned_over set claims listed owned current update (before ++ CreatePod pod ∷ after) e in
    let fits : Fits set claims = λ i within. (let range = bounds set i within in created_fits set i range.0 range.1 small p.1.2) in
    let all = of_first set claims 1024 [] (full_plan set claims listed owned current update p.0) (full_plan_stands set claims current update fits listed owned p.0 []) in
    let P : List Action → Type 0 = λ l. AllFollow set claims [] l in
    at set claims [] before after (CreatePod pod) (subst P (sym p.1.1) all)
