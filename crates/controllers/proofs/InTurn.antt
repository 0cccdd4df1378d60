-- A create of a pod that a controller sends is an action of its plan, and so comes in turn.
use Rattle.std.proofs.Common.{◌≡◌, inl, inr, ℕ, ◌^◌, ◌<◌, ◌≤◌, ◌+◌, Bool, true, false, cond, List, [], ◌∷◌, Option, Some, None, Result, Ok, Err, filter, find, length, length-append, refl, sym, ap, ◌∙◌, subst, true≢false, arith}
use Rattle.std.specs.Prelude.{⊤, ◌==◌, nat_le, nat_lt, option_and_then, if◌then◌else◌, reverse}
use Rattle.std.specs.List.{AllByRecursion, Contains, cons_option, filter_map}
use Rattle.std.specs.Option.{option_map_or}
use Rattle.std.proofs.lemmas.Bool.{and_parts}
use Rattle.std.proofs.lemmas.List.Elements.{All-contains, All-from_recursion, filter-append, recursion_from_All}
use Rattle.std.proofs.lemmas.List.Sorted.{All-permutation, IsPermutation-reverse}
use Rattle.serde_json.specs.Data.{Data}
use Rattle.serde_json.specs.Written.{compact_text}
use Rattle.objects.specs.declared.key.Key.{Key}
use Rattle.objects.specs.declared.kind.Kind.{Kind}
use Rattle.objects.specs.declared.kind.Kind.TheVariants as kinds
use Rattle.objects.specs.declared.object.Draft.{Draft}
use Rattle.objects.specs.declared.object.Object.{Object}
use Rattle.objects.specs.Key.{is_key, key_parts}
use Rattle.objects.specs.Names.{most_label}
use Rattle.objects.specs.PodNames.{claim_name}
use Rattle.objects.specs.Uid.{uid_text}
use Rattle.requests.specs.declared.request.Request.{Request}
use Rattle.requests.specs.declared.request.Request.TheVariants.{Create, Update, UpdateStatus, Delete}
use Rattle.set_views.specs.declared.fault.PlanError.{PlanError}
use Rattle.set_views.specs.declared.fault.PlanError.TheVariants as errors
use Rattle.set_views.specs.declared.policies.Policy.TheVariants.{OrderedReady}
use Rattle.set_views.specs.Firsts.{is_held}
use Rattle.set_views.specs.Claims.{Claim}
use Rattle.set_views.specs.Pod.{PodParts}
use Rattle.set_views.specs.Set.{SetParts}
use Rattle.set_views.specs.SetReading.{set_of}
use Rattle.set_views.specs.Steps.{◌>>=◌, guarded, required}
use Rattle.set_views.specs.Predicates.{in_range, is_kind}
use Rattle.revisions.specs.Built.{new_revision}
use Rattle.revisions.specs.Choice.{Choice, in_place, to_renumber, to_create, choice_from, choice_of, data_with, greatest, has_data}
use Rattle.revisions.specs.Name.{first_free, most_tries, revision_name}
use Rattle.revisions.specs.Plan as revision_plans
use Rattle.revisions.specs.Plan.{created, renumbered, settled, plan_of}
use Rattle.revisions.specs.Revision.{listed}
use Rattle.pod_steps.specs.declared.step.Revision.{Revision}
use Rattle.pod_steps.specs.declared.step.Step.{Step}
use Rattle.pod_steps.specs.declared.step.Step.TheVariants as steps
use Rattle.pod_steps.specs.Listed.{is_named}
use Rattle.pod_steps.specs.FullSteps as pod_steps
use Rattle.pod_steps.proofs.Causes as causes
use Rattle.pod_steps.proofs.Causes.{created_is_absent}
use Rattle.pod_steps.proofs.Firsts.{replicas_in_order}
use Rattle.pod_steps.proofs.ListedPlans.{created_is_free}
use Rattle.manifests.specs.BuiltClaim.{built_claim}
use Rattle.claims.specs.declared.change.ClaimChange.{ClaimChange}
use Rattle.claims.specs.declared.change.ClaimChange.TheVariants as changes
use Rattle.claims.specs.Changes.{all_creates_and_updates, entries_of, create_or_update, update, with_owner_entries}
use Rattle.claims.specs.Listed.{listed_claim}
use Rattle.claims.specs.Owners.{owner_in_range, owner_of_condemned, wanted_entries}
use Rattle.requests.specs.Lists.{Has}
use Rattle.sets.specs.declared.action.Action.{Action}
use Rattle.sets.specs.declared.action.Action.TheVariants.{CreateClaim, CreatePod, DeletePod, UpdateClaim, WriteRevision, DeleteRevision, WriteStatus, Wait}
use Rattle.sets.specs.Actions.{Claims, actions_of, changes_in, claim_action, claim_actions, name_at, new_pod, revision_of, version_or_empty}
use Rattle.sets.specs.Laws.{HasHealthyTarget, is_on_pod as acts_on_pod}
use Rattle.sets.specs.Plan.{plan_by, plan_of_pods}
use Rattle.sets.specs.PlanOfLists.{owned_of, plan_of_lists, views_of}
use Rattle.sets.proofs.Origins.{created_alone, healthy_target, is_from_step, one_pod, origin, planned_over, renumbered_alone}
use Rattle.rounds.proofs.Lists.{contains_among}
use Rattle.rounds.specs.Drafts.{draft}
use Rattle.controllers.specs.Planned.{as_read, deletions as removals, key_of, or_none, request_of, requested, requested_for, requests_of}
use Rattle.controllers.proofs.OwnedRevisions.{of_owned}
use Rattle.controllers.proofs.PlannedActions.{among_all, in_requests, of_plan, of_step, refused, writes_alone}
use Rattle.controllers.specs.InTurn.{IsInTurn, is_on_pod}

all_reversed : {X : Type 0} (P : X → Type 0) (xs : List X) → AllByRecursion P xs → AllByRecursion P (reverse xs)
all_reversed P xs all = recursion_from_All P (reverse xs) (All-permutation P xs (reverse xs) (IsPermutation-reverse xs) (All-from_recursion P xs all))

-- ---- a plan creates no other object that is a pod

abbrev IsOther : Object → Type 0
IsOther o = is_kind kinds.Pod o.key.kind ≡ false

abbrev IsApart : Action → Type 0
IsApart (CreateClaim o) = IsOther o
IsApart (WriteRevision o) = IsOther o
IsApart action = ⊤

abbrev IsChangeApart : Option ClaimChange → Type 0
IsChangeApart None = ⊤
IsChangeApart (Some change) = IsApart (claim_action change)

apart_changes : (h : Claim → Option ClaimChange) → ((c : Claim) → IsChangeApart (h c)) → (cs : List Claim) → AllByRecursion IsApart (claim_actions (filter_map h cs))
apart_changes h each [] = tt
apart_changes h each (c ∷ cs) =
    elim (h c) as (λ o. IsChangeApart o → AllByRecursion IsApart (claim_actions (cons_option o (filter_map h cs)))) [
      | None ↦ λ apart. apart_changes h each cs
      | Some change ↦ λ apart. (apart, apart_changes h each cs)
    ] (each c)

apart_update : (b : Bool) (o : Object) → IsChangeApart (cond b None (Some (changes.Update o)))
apart_update true o = tt
apart_update false o = tt

apart_made : (set : SetParts) (i : ℕ) (c : Claim) (here : Option Object) → IsChangeApart (create_or_update set i c here)
unfolding built_claim
apart_made set i c None = refl
apart_made set i c (Some o) = apart_update _ (with_owner_entries o (wanted_entries set (name_at set i) (owner_in_range set) (entries_of o)))

apart_there : (h : Object → Option ClaimChange) → ((o : Object) → IsChangeApart (h o)) → (here : Option Object) → IsChangeApart (option_and_then h here)
apart_there h each None = tt
apart_there h each (Some o) = each o

apart_guarded : (b : Bool) (changes : List ClaimChange) → AllByRecursion IsApart (claim_actions changes) → AllByRecursion IsApart (claim_actions (changes_in (guarded errors.NameTooLong b changes)))
apart_guarded true changes all = all
apart_guarded false changes all = tt

module _ (set : SetParts) (claims : Claims) (current newest : Object) where
  apart_step : (s : Step) → AllByRecursion IsApart (actions_of set claims current newest s)
  unfolding actions_of
  apart_step (steps.MakeClaims i) =
      apart_guarded _ (all_creates_and_updates set claims i set.claims)
      (apart_changes (λ c. create_or_update set i c (claims (claim_name c.0 set.object.key.name i))) (λ c. apart_made set i c (claims (claim_name c.0 set.object.key.name i))) set.claims)
  apart_step (steps.KeepClaims i) =
      apart_changes _ (λ c.
      apart_there (update set (name_at set i) (owner_in_range set)) (λ o. apart_update _ (with_owner_entries o (wanted_entries set (name_at set i) (owner_in_range set) (entries_of o)))) (claims (claim_name c.0 set.object.key.name i))) set.claims
  apart_step (steps.ReleaseClaims i uid) =
      apart_changes _ (λ c.
      apart_there (update set (name_at set i) (owner_of_condemned set uid)) (λ o. apart_update _ (with_owner_entries o (wanted_entries set (name_at set i) (owner_of_condemned set uid) (entries_of o)))) (claims (claim_name c.0 set.object.key.name i))) set.claims
  apart_step (steps.CreatePod i revision) = (tt, tt)
  apart_step (steps.DeletePod i uid) = (tt, tt)
  apart_step (steps.Wait i cause) = (tt, tt)

-- ---- the revision that is written

abbrev IsOtherResult : Result Object PlanError → Type 0
IsOtherResult (Ok o) = IsOther o
IsOtherResult (Err e) = ⊤

abbrev IsRevisionPlan : Result revision_plans.PlanParts PlanError → Type 0
IsRevisionPlan (Ok (created o)) = IsOther o
IsRevisionPlan (Ok (renumbered o)) = IsOther o
IsRevisionPlan (Ok (settled owned current newest)) = ⊤
IsRevisionPlan (Err e) = ⊤

other_after : (r : Result (List ℕ) PlanError) (f : List ℕ → Result Object PlanError) → ((name : List ℕ) → IsOtherResult (f name)) → IsOtherResult (r >>= f)
other_after (Ok name) f other = other name
other_after (Err e) f other = tt

other_created : (r : Result Object PlanError) → IsOtherResult r → IsRevisionPlan (r >>= λ o. Ok (created o))
other_created (Ok o) other = other
other_created (Err e) other = tt

creation_is_other : (set : SetParts) (held : List ℕ → Bool) (digits n : ℕ) → IsOtherResult (revision_plans.creation set held digits n)
unfolding revision_plans.creation
creation_is_other set held digits n =
    other_after (guarded errors.NameTooLong (nat_le (length set.object.key.name + 1 + digits) most_label) set.object.key.name)
    (λ name. required errors.NoRevisionName (first_free held (revision_name name (compact_text (data_with set.template)) digits) set.collisions most_tries) >>= λ free. Ok (new_revision set free n))
    (λ name.
    other_after (required errors.NoRevisionName (first_free held (revision_name name (compact_text (data_with set.template)) digits) set.collisions most_tries))
    (λ free. Ok (new_revision set free n)) (λ free. refl))

abbrev IsOtherChoice : Choice → Type 0
IsOtherChoice (in_place o) = ⊤
IsOtherChoice (to_renumber o) = IsOther o
IsOtherChoice to_create = ⊤

older_is_other : (p : Object → Bool) (os : List Object) → AllByRecursion IsOther os → IsOtherChoice (option_map_or to_renumber (find p os) to_create)
older_is_other p [] all = tt
older_is_other p (o ∷ os) all = elim (p o) as (λ b. IsOtherChoice (option_map_or to_renumber (cond b (Some o) (find p os)) to_create)) [ true ↦ all.0 | false ↦ older_is_other p os all.1 ]

choice_is_other : (d : Data) (os : List Object) → AllByRecursion IsOther os → IsOtherChoice (choice_from d os)
choice_is_other d [] all = tt
choice_is_other d (o ∷ os) all =
    elim (has_data d o) as (λ b. IsOtherChoice (cond b (in_place o) (option_map_or to_renumber (find (has_data d) os) to_create))) [ true ↦ tt | false ↦ older_is_other (has_data d) os all.1 ]

module _ (set : SetParts) (held : List ℕ → Bool) (digits : ℕ) (owned : List Object) where
  other_by_choice : (x : Choice) → IsOtherChoice x → IsRevisionPlan (revision_plans.plan_by set held digits owned x)
  other_by_choice (in_place o) other = tt
  other_by_choice (to_renumber o) other = other
  other_by_choice to_create other = other_created (revision_plans.creation set held digits (greatest owned + 1)) (creation_is_other set held digits (greatest owned + 1))

  revision_is_other : AllByRecursion IsOther owned → IsRevisionPlan (plan_of set held digits owned)
  unfolding plan_of
  revision_is_other all =
      let x = choice_of (data_with set.template) owned in
      elim (revision_plans.is_sound set owned x) as (λ b. IsRevisionPlan (cond b (Ok x) (Err errors.BadSpec) >>= λ y. revision_plans.plan_by set held digits owned y)) [
        | true ↦ other_by_choice x (choice_is_other (data_with set.template) (reverse owned) (all_reversed IsOther owned all))
        | false ↦ tt
      ]

other_kind : (kind : Kind) → is_kind kinds.ControllerRevision kind ≡ true → is_kind kinds.Pod kind ≡ false
other_kind kinds.StatefulSet h = refl
other_kind kinds.Pod h = absurd (true≢false (sym h))
other_kind kinds.PersistentVolumeClaim h = refl
other_kind kinds.ControllerRevision h = refl

owned_are_other : (set : SetParts) (revisions : List Object) → AllByRecursion IsOther (owned_of set revisions)
owned_are_other set revisions = of_owned IsOther set revisions (λ o there near. other_kind o.key.kind (and_parts (is_kind kinds.ControllerRevision o.key.kind) _ near).0)

-- ---- what creates a pod is the step of its ordinal

module _ (set : SetParts) (claims : Claims) (current newest : Object) where
  abbrev IsMadeBy : Step → Action → Type 0
  IsMadeBy s (CreatePod pod) = (i : ℕ) × (revision : Revision) × (s ≡ steps.CreatePod i revision) × (new_pod set (revision_of current newest revision) i ≡ pod)
  IsMadeBy s action = ⊤

  created_from : (s : Step) (pod : Object) → Contains (actions_of set claims current newest s) (CreatePod pod) → IsMadeBy s (CreatePod pod)
  created_from s pod h =
      All-contains (IsMadeBy s) (actions_of set claims current newest s) (CreatePod pod)
      (of_step (IsMadeBy s) set claims current newest (λ o. tt) (λ o. tt) s (λ i revision is. (i, revision, is, refl)) (λ i uid. tt) (λ i cause. tt)) h

-- the pod is of the least ordinal in range without a healthy one, under a name that no listed pod has
record IsNext (set : SetParts) (views : List PodParts) (pod : Object) : Type 0 where
  pub ordinal : ℕ
  pub name_is : pod.key.name ≡ name_at set ordinal
  pub within : in_range set ordinal ≡ true
  pub absent : find (is_named set ordinal) views ≡ None
  pub lower : (j : ℕ) → in_range set j ≡ true → j < ordinal → HasHealthyTarget set views j

abbrev IsFew : List Action → Type 0
IsFew actions = length (filter acts_on_pod actions) ≤ 1

created_next : (set : SetParts) (claims : Claims) (views : List PodParts) (owned : List Object) (current newest : Object) (actions : List Action) (pod : Object) → set.policy ≡ OrderedReady
    → plan_of_pods set claims views owned current newest ≡ Ok actions → Contains actions (CreatePod pod) → IsNext set views pod
unfolding is_from_step
created_next set claims views owned current newest actions pod policy e h =
    let p = planned_over set claims views owned current newest actions e in
    let s = origin set claims views owned current newest actions p.0 (CreatePod pod) refl p.1 h in
    let c = created_from set claims current newest s.0 pod s.2 in
    let there = subst (λ (x : Step). Contains (pod_steps.full_steps set p.0) x) c.2 s.1 in
    record {
      ordinal = c.0;
      name_is = ap (λ (o : Object). o.key.name) (sym c.3);
      within = (created_is_absent set p.0 c.0 c.1 (replicas_in_order set newest.key.name current.key.name views p.0 p.1.0) there).0;
      absent = created_is_free set newest.key.name current.key.name views p.0 c.0 c.1 p.1.0 there;
      lower = λ j inside below.
          healthy_target set newest.key.name current.key.name views p.0 j p.1.0 (causes.created_in_turn set p.0 c.0 j c.1 policy there inside below);
    }

module _ (set : SetParts) (claims : Claims) (views : List PodParts) (actions : List Action) where
  apart : (p : Result revision_plans.PlanParts PlanError) → IsRevisionPlan p → plan_by set claims views p ≡ Ok actions → AllByRecursion IsApart actions
  unfolding plan_by
  apart (Ok (created x)) other e = subst (AllByRecursion IsApart) (sym (created_alone set claims views actions x e)) (other, tt)
  apart (Ok (renumbered x)) other e = subst (AllByRecursion IsApart) (sym (renumbered_alone set claims views actions x e)) (other, tt)
  apart (Ok (settled owned current newest)) other e =
      recursion_from_All IsApart actions
      (of_plan IsApart set claims views owned current newest actions
      (λ s. All-from_recursion IsApart (actions_of set claims current newest s) (apart_step set claims current newest s)) (λ k d low. tt) (λ o. tt) e)
  apart (Err x) other e = absurd (refused set views x actions e)

  in_turn : (p : Result revision_plans.PlanParts PlanError) (pod : Object) → set.policy ≡ OrderedReady → plan_by set claims views p ≡ Ok actions → Contains actions (CreatePod pod)
      → IsNext set views pod × IsFew actions
  unfolding plan_by
  in_turn (Ok (created x)) pod policy e at = let clash : WriteRevision x ≡ CreatePod pod = writes_alone actions x (CreatePod pod) (created_alone set claims views actions x e) at in absurd (cc)
  in_turn (Ok (renumbered x)) pod policy e at = let clash : WriteRevision x ≡ CreatePod pod = writes_alone actions x (CreatePod pod) (renumbered_alone set claims views actions x e) at in absurd (cc)
  in_turn (Ok (settled owned current newest)) pod policy e at =
      (created_next set claims views owned current newest actions pod policy e at, one_pod set claims views owned current newest actions policy e)
  in_turn (Err x) pod policy e at = absurd (refused set views x actions e)

-- ---- requests

module _ (d : Draft) where
  only : (r : Request) → Has (Create d) (r ∷ []) → Create d ≡ r
  only r (inl is) = is
  only r (inr none) = absurd none

  same : (o : Object) → Create d ≡ Create (draft o) → d.object ≡ o
  same o is = let drafts : d ≡ draft o = cc in ap (λ (x : Draft). x.object) drafts

  no_removal : (key : Option Key) (uid : ℕ) (version at : Option (List ℕ)) → Has (Create d) (removals key uid version at) → ⊥
  no_removal None uid version at h = h
  no_removal (Some k) uid version at h =
      elim (nat_lt uid (2 ^ 48)) as (λ b. Has (Create d) (cond b (Delete k (Some (uid_text uid)) version at ∷ []) []) → ⊥) [
        | true ↦ λ there. let clash : Create d ≡ Delete k (Some (uid_text uid)) version at = only (Delete k (Some (uid_text uid)) version at) there in cc
        | false ↦ λ there. there
      ] h

  other_request : (o : Object) → is_kind kinds.Pod d.object.key.kind ≡ true → IsOther o → Create d ≡ Create (draft o) → ⊥
  other_request o kind other is = true≢false (sym kind ∙ ap (λ (x : Object). is_kind kinds.Pod x.key.kind) (same o is) ∙ other)

  no_write : (b : Bool) (o : Object) → is_kind kinds.Pod d.object.key.kind ≡ true → IsOther o → Create d ≡ cond b (Create (draft o)) (Update (as_read o)) → ⊥
  no_write true o kind other is = other_request o kind other is
  no_write false o kind other is = cc

  -- a request for a pod is an action that creates it
  asks : (Q : Object → Type 0) (actions : List Action) (namespace moment : List ℕ) (a : Action) → ((pod : Object) → Contains actions (CreatePod pod) → Q pod) → is_kind kinds.Pod d.object.key.kind ≡ true
      → IsApart a → Contains actions a → Has (Create d) (request_of namespace moment a) → Q d.object
  asks Q actions namespace moment (CreateClaim o) each kind other at h = absurd (other_request o kind other (only (Create (draft o)) h))
  asks Q actions namespace moment (CreatePod o) each kind other at h = subst Q (sym (same o (only (Create (draft o)) h))) (each o at)
  asks Q actions namespace moment (DeletePod name uid) each kind other at h = absurd (no_removal (key_of kinds.Pod namespace name) uid None (Some moment) h)
  asks Q actions namespace moment (UpdateClaim o) each kind other at h = let clash : Create d ≡ Update (as_read o) = only (Update (as_read o)) h in absurd (cc)
  asks Q actions namespace moment (WriteRevision o) each kind other at h = absurd (no_write (o.meta.uid == 0) o kind other (only (if o.meta.uid == 0 then Create (draft o) else Update (as_read o)) h))
  asks Q actions namespace moment (DeleteRevision name uid version) each kind other at h = absurd (no_removal (key_of kinds.ControllerRevision namespace name) uid (Some (version_or_empty version)) None h)
  asks Q actions namespace moment (WriteStatus o) each kind other at h = let clash : Create d ≡ UpdateStatus (as_read o) = only (UpdateStatus (as_read o)) h in absurd (cc)
  asks Q actions namespace moment (Wait cause name) each kind other at h = absurd h

-- ---- how many requests there are for pods

least_of : (b : Bool) (r : Request) → length (cond b (r ∷ []) []) ≤ 1
least_of true r = omega arith
least_of false r = omega arith

none_of : (b : Bool) (r : Request) → b ≡ false → length (cond b (r ∷ []) []) ≤ 0
none_of b r is = subst (λ c. length (cond c (r ∷ []) []) ≤ 0) (sym is) (omega arith)

few_removals : (key : Option Key) (uid : ℕ) (version at : Option (List ℕ)) → length (filter is_on_pod (removals key uid version at)) ≤ 1
few_removals None uid version at = omega arith
few_removals (Some k) uid version at =
    elim (nat_lt uid (2 ^ 48)) as (λ b. length (filter is_on_pod (cond b (Delete k (Some (uid_text uid)) version at ∷ []) [])) ≤ 1) [
      | true ↦ least_of (is_kind kinds.Pod k.kind) (Delete k (Some (uid_text uid)) version at)
      | false ↦ omega arith
    ]

no_removals : (namespace name : List ℕ) (uid : ℕ) (version at : Option (List ℕ)) → length (filter is_on_pod (removals (key_of kinds.ControllerRevision namespace name) uid version at)) ≤ 0
no_removals namespace name uid version at =
    elim (is_key (key_parts kinds.ControllerRevision namespace name))
    as (λ b. length (filter is_on_pod (removals (cond b (Some (key_parts kinds.ControllerRevision namespace name)) None) uid version at)) ≤ 0) [
      | true ↦ elim (nat_lt uid (2 ^ 48))
          as (λ b. length (filter is_on_pod (cond b (Delete (key_parts kinds.ControllerRevision namespace name) (Some (uid_text uid)) version at ∷ []) [])) ≤ 0) [
            | true ↦ omega arith
            | false ↦ omega arith
          ]
      | false ↦ omega arith
    ]

few_writes : (b : Bool) (o : Object) → IsOther o → length (filter is_on_pod (cond b (Create (draft o)) (Update (as_read o)) ∷ [])) ≤ 0
few_writes true o other = none_of (is_kind kinds.Pod o.key.kind) (Create (draft o)) other
few_writes false o other = omega arith

few_of : (namespace moment : List ℕ) (a : Action) → IsApart a → length (filter is_on_pod (request_of namespace moment a)) ≤ length (filter acts_on_pod (a ∷ []))
few_of namespace moment (CreateClaim o) other = none_of (is_kind kinds.Pod o.key.kind) (Create (draft o)) other
few_of namespace moment (CreatePod o) other = least_of (is_kind kinds.Pod o.key.kind) (Create (draft o))
few_of namespace moment (DeletePod name uid) other = few_removals (key_of kinds.Pod namespace name) uid None (Some moment)
few_of namespace moment (UpdateClaim o) other = omega arith
few_of namespace moment (WriteRevision o) other = few_writes (o.meta.uid == 0) o other
few_of namespace moment (DeleteRevision name uid version) other = no_removals namespace name uid (Some (version_or_empty version)) None
few_of namespace moment (WriteStatus o) other = omega arith
few_of namespace moment (Wait cause name) other = omega arith

few_requests : (namespace moment : List ℕ) (actions : List Action) → AllByRecursion IsApart actions
    → length (filter is_on_pod (requests_of namespace moment actions)) ≤ length (filter acts_on_pod actions)
few_requests namespace moment [] all = omega arith
few_requests namespace moment (a ∷ rest) all =
    let one = few_of namespace moment a all.0 in
    let more = few_requests namespace moment rest all.1 in
    let asked : length (filter is_on_pod (requests_of namespace moment (a ∷ rest))) ≡ length (filter is_on_pod (request_of namespace moment a)) + length (filter is_on_pod (requests_of namespace moment rest)) =
    ap length (filter-append is_on_pod (request_of namespace moment a) (requests_of namespace moment rest))
    ∙ length-append (filter is_on_pod (request_of namespace moment a)) (filter is_on_pod (requests_of namespace moment rest)) in
    let acted : length (filter acts_on_pod (a ∷ rest)) ≡ length (filter acts_on_pod (a ∷ [])) + length (filter acts_on_pod rest) =
    ap length (filter-append acts_on_pod (a ∷ []) rest) ∙ length-append (filter acts_on_pod (a ∷ [])) (filter acts_on_pod rest) in
    omega (arith, one, more, asked, acted)

among_filter : (p : Request → Bool) (r : Request) (rs : List Request) → p r ≡ true → Has r rs → Has r (filter p rs)
among_filter p r [] holds at = absurd at
among_filter p r (x ∷ rs) holds (inl is) = subst (λ b. Has r (cond b (x ∷ filter p rs) (filter p rs))) (sym holds ∙ ap p is) (inl is)
among_filter p r (x ∷ rs) holds (inr at) =
    elim (p x) as (λ b. Has r (cond b (x ∷ filter p rs) (filter p rs))) [
      | true ↦ inr (among_filter p r rs holds at)
      | false ↦ among_filter p r rs holds at
    ]

single : (r : Request) (rs : List Request) → length rs ≤ 1 → Has r rs → rs ≡ r ∷ []
single r [] few at = absurd at
single r (x ∷ []) few (inl is) = ap (λ y. y ∷ []) (sym is)
single r (x ∷ []) few (inr at) = absurd at
single r (x ∷ y ∷ rs) few at = absurd (omega (arith, few))

made_in_turn : (set : SetParts) (digits : ℕ) (moment : List ℕ) (revisions pods claims : List Object) (requests : List Request) (d : Draft) (p : Result (List Action) PlanError) → set.policy ≡ OrderedReady
    → plan_of_lists set digits revisions pods claims ≡ p → (p >>= λ actions. Ok (requests_of set.object.key.namespace moment actions)) ≡ Ok requests → Has (Create d) requests → is_kind kinds.Pod d.object.key.kind ≡ true
    → IsInTurn set pods requests d
unfolding plan_of_lists
made_in_turn set digits moment revisions pods claims requests d (Err e) policy plan is at kind = absurd (cc)
made_in_turn set digits moment revisions pods claims requests d (Ok actions) policy plan is at kind =
    let namespace = set.object.key.namespace in
    let held : List ℕ → Bool = is_held (listed set revisions) in
    let views = views_of set pods in
    let p : Result revision_plans.PlanParts PlanError = plan_of set held digits (owned_of set revisions) in
    let made : requests_of namespace moment actions ≡ requests = ap or_none is in
    let all : AllByRecursion IsApart actions =
    apart set (listed_claim set claims) views actions p (revision_is_other set held digits (owned_of set revisions) (owned_are_other set revisions)) plan in
    let x = in_requests namespace moment actions (Create d) (subst (λ (l : List Request). Has (Create d) l) (sym made) at) in
    let next = asks d (λ pod. IsNext set views pod × IsFew actions) actions namespace moment x.0
    (λ pod created. in_turn set (listed_claim set claims) views actions p pod policy plan created) kind (among_all IsApart actions x.0 all x.1) (contains_among x.0 actions x.1) x.2 in
    let few = few_requests namespace moment actions all in
    let one = next.1 in
    record {
      ordinal = next.0.ordinal;
      name_is = next.0.name_is;
      within = next.0.within;
      absent = next.0.absent;
      lower = next.0.lower;
      alone = single (Create d) (filter is_on_pod requests) (subst (λ (l : List Request). length (filter is_on_pod l) ≤ 1) made (omega (arith, few, one)))
          (among_filter is_on_pod (Create d) requests kind at);
    }

pub created_in_turn : (o : Object) (set : SetParts) (digits : ℕ) (moment : List ℕ) (revisions pods claims : List Object) (requests : List Request) (d : Draft) → set_of o ≡ Ok set → set.policy ≡ OrderedReady
    → requested o digits moment revisions pods claims ≡ Ok requests → Has (Create d) requests → d.object.key.kind ≡ kinds.Pod → IsInTurn set pods requests d
unfolding requested requested_for
created_in_turn o set digits moment revisions pods claims requests d read policy is at kind =
    made_in_turn set digits moment revisions pods claims requests d (plan_of_lists set digits revisions pods claims) policy refl
    (sym (ap (λ (s : Result SetParts PlanError). s >>= λ t. requested_for t digits moment revisions pods claims) read) ∙ is) at (ap (is_kind kinds.Pod) kind)
