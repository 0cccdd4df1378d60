-- No two requests of a plan name one key.
use Rattle.std.proofs.Common.{◌≡◌, ◌≢◌, ◌⊎◌, inl, inr, ◌==◌, ◌-◌, ℕ, ◌^◌, ◌≤◌, Bool, true, false, not, if◌then◌else◌, List, [], ◌∷◌, ◌++◌, length, map, filter, bytes_eq, option_and_then, Option, Some, None, arith, refl, sym, ap, ◌∙◌, subst, true≢false}
use Rattle.std.specs.Prelude.{◌||◌, nat_le, nat_lt}
use Rattle.std.specs.List.{AllByRecursion, filter_map, flat_map, list_any}
use Rattle.std.specs.Option.{option_map_or}
use Rattle.std.proofs.lemmas.Bool.{and_parts}
use Rattle.std.proofs.lemmas.Option.{same_Some}
use Rattle.std.proofs.lemmas.Slice.Eq.{bytes_eq-Decides}
use Rattle.serde_json.specs.Data.{Data, object}
use Rattle.objects.specs.declared.key.Key.{Key}
use Rattle.objects.specs.declared.kind.Kind.{Kind}
use Rattle.objects.specs.declared.kind.Kind.TheVariants as kinds
use Rattle.objects.specs.declared.object.Object.{Object}
use Rattle.objects.specs.Key.{is_key, key_parts}
use Rattle.objects.specs.Names.{most_label}
use Rattle.objects.specs.PodNames.{claim_name, most_ordinal}
use Rattle.objects.specs.Uid.{uid_text}
use Rattle.objects.proofs.PodNamesDiffer.{claim_names-differ}
use Rattle.requests.specs.declared.request.Request.{Request}
use Rattle.requests.specs.declared.request.Request.TheVariants.{Create, Delete, Update, UpdateStatus}
use Rattle.requests.specs.Keys.{key_named}
use Rattle.requests.specs.Lists.{Has as Among}
use Rattle.set_views.specs.declared.fault.PlanError.TheVariants.{NameTooLong}
use Rattle.set_views.specs.Claims.{Claim, are_distinct, names_of}
use Rattle.set_views.specs.Firsts.{first_of_each}
use Rattle.set_views.specs.Pod.{PodParts}
use Rattle.set_views.specs.Set.{SetParts}
use Rattle.set_views.specs.Steps.{guarded}
use Rattle.revisions.specs.History.{expired_revisions, history, is_live}
use Rattle.revisions.specs.Revision.{listed, owned_among, owns_revision, revision_cmp}
use Rattle.manifests.specs.BuiltClaim.{built_claim}
use Rattle.manifests.specs.BuiltStatus.{StatusParts, built_status, differs, new_status, old_status, set_with}
use Rattle.claims.specs.declared.change.ClaimChange.{ClaimChange}
use Rattle.claims.specs.declared.change.ClaimChange.TheVariants as changes
use Rattle.claims.specs.Changes.{all_creates_and_updates, create as new_claim, create_or_update, entries_of, keep_claims, make_claims, release_claims, update as update_claim, with_owner_entries}
use Rattle.claims.specs.Owners.{are_wanted, owner_in_range, owner_of_condemned, wanted_entries}
use Rattle.pod_steps.specs.declared.step.Step.{Step}
use Rattle.pod_steps.specs.declared.step.Step.TheVariants as steps
use Rattle.pod_steps.specs.FullSteps.{full_steps}
use Rattle.pod_steps.specs.Replicas.{AreInOrder, Pods}
use Rattle.pod_steps.specs.Step.{is_of_pod}
use Rattle.rounds.proofs.Lists.{among_either}
use Rattle.sets.specs.declared.action.Action.{Action}
use Rattle.sets.specs.declared.action.Action.TheVariants.{CreateClaim, CreatePod, DeletePod, UpdateClaim, WriteRevision, DeleteRevision, WriteStatus, Wait}
use Rattle.sets.specs.Actions.{Claims, actions_of, changes_in, claim_action, claim_actions, name_at, new_pod, revision_of, version_or_empty}
use Rattle.sets.specs.FullPlan.{current_name, deletion, deletions, full_plan, status_of, status_write}
use Rattle.sets.specs.PlanOfLists.{owned_of}
use Rattle.sets.proofs.Ordered.{all_among}
use Rattle.sets.proofs.Owned.{filtered}
use Rattle.rounds.specs.Drafts.{draft}
use Rattle.controllers.specs.Planned.{as_read, deletions as delete_requests, request_of, requests_of}
use Rattle.controllers.proofs.PlannedActions.{among_all}
use Rattle.resting.specs.Accepting.{NameApart}
use Rattle.resting.proofs.Pairs.{ArePaired, in_filter_map, in_flat, in_map, pairs_append, pairs_by, pairs_filter_map, pairs_filtered, pairs_flat, pairs_in_order, pairs_mapped, pairs_taken}
use Rattle.resting.proofs.PlanLists.{pod_key}
use Rattle.resting.proofs.PlansOnPods.{apart}
use Rattle.resting.proofs.StepsApart.{AreApart, IsKnown, ordinal_of, steps_apart, steps_known}

-- ---- the templates of claims
abbrev NamesDiffer : Claim → Claim → Type 0
NamesDiffer c d = c.0 ≢ d.0

none_equal : (name : List ℕ) (claims : List Claim) → list_any (bytes_eq name) (names_of claims) ≡ false → AllByRecursion (λ (d : Claim). name ≢ d.0) claims
none_equal name [] none = tt
none_equal name (d ∷ claims) none =
    elim (bytes_eq name d.0) as (λ b. bytes_eq name d.0 ≡ b → (b || list_any (bytes_eq name) (names_of claims)) ≡ false → (name ≢ d.0) × AllByRecursion (λ (x : Claim). name ≢ x.0) claims) [
      | true ↦ λ e h. absurd (true≢false h)
      | false ↦ λ e h. ((λ same. true≢false (sym ((bytes_eq-Decides name d.0).1 same) ∙ e)), none_equal name claims h)
    ] refl none

not_true : (b : Bool) → not b ≡ true → b ≡ false
not_true true h = absurd (true≢false (sym h))
not_true false h = refl

pub templates_differ : (claims : List Claim) → are_distinct (names_of claims) ≡ true → ArePaired NamesDiffer claims
templates_differ [] distinct = tt
templates_differ (c ∷ claims) distinct =
    let parts = and_parts (not (list_any (bytes_eq c.0) (names_of claims))) (are_distinct (names_of claims)) distinct in
    (none_equal c.0 claims (not_true (list_any (bytes_eq c.0) (names_of claims)) parts.0), templates_differ claims parts.1)

-- ---- what an action is about
abbrev pub target : SetParts → Action → Key
target set (CreateClaim o) = o.key
target set (CreatePod o) = o.key
target set (DeletePod name uid) = key_parts kinds.Pod set.object.key.namespace name
target set (UpdateClaim o) = o.key
target set (WriteRevision o) = o.key
target set (DeleteRevision name uid version) = key_parts kinds.ControllerRevision set.object.key.namespace name
target set (WriteStatus o) = o.key
target set (Wait cause name) = key_parts kinds.Pod set.object.key.namespace name

abbrev pub HaveOthers : SetParts → Action → Action → Type 0
HaveOthers set a b = target set a ≢ target set b

abbrev key_of : ClaimChange → Key
key_of (changes.Create o) = o.key
key_of (changes.Update o) = o.key

target_is : (set : SetParts) (c : ClaimChange) → target set (claim_action c) ≡ key_of c
target_is set (changes.Create o) = refl
target_is set (changes.Update o) = refl

module _ (set : SetParts) where
  abbrev space : List ℕ
  space = set.object.key.namespace

  abbrev pub claim_key : List ℕ → ℕ → Key
  claim_key template i = key_parts kinds.PersistentVolumeClaim space (claim_name template set.object.key.name i)

  -- a key of what steps are about, of pods or of claims, at an ordinal
  abbrev pub IsPlaceBy : Bool → ℕ → Key → Type 0
  IsPlaceBy true i k = k ≡ pod_key set i
  IsPlaceBy false i k = (template : List ℕ) × (k ≡ claim_key template i)

  abbrev pub IsPlace : Step → Key → Type 0
  IsPlace s k = IsPlaceBy (is_of_pod s) (ordinal_of s) k

  of_kinds : (i j : ℕ) (template : List ℕ) → pod_key set i ≡ claim_key template j → ⊥
  of_kinds i j template same = let clash : kinds.Pod ≡ kinds.PersistentVolumeClaim = ap (λ (k : Key). k.kind) same in absurd (cc)

  places_differ : (p q : Bool) (i j : ℕ) (k l : Key) → i ≤ most_ordinal → j ≤ most_ordinal → (i ≢ j) ⊎ (p ≢ q) → IsPlaceBy p i k → IsPlaceBy q j l → k ≢ l
  places_differ true true i j k l low_i low_j (inl other) at_k at_l same = other (apart set i j low_i low_j (sym at_k ∙ (same ∙ at_l)))
  places_differ true true i j k l low_i low_j (inr other) at_k at_l same = other refl
  places_differ true false i j k l low_i low_j other at_k at_l same = of_kinds i j at_l.0 (sym at_k ∙ (same ∙ at_l.1))
  places_differ false true i j k l low_i low_j other at_k at_l same = of_kinds j i at_k.0 (sym at_l ∙ (sym same ∙ at_k.1))
  places_differ false false i j k l low_i low_j (inl other) at_k at_l same =
      other (claim_names-differ set.object.key.name at_k.0 at_l.0 i j (omega arith) (omega arith) (ap (λ (q : Key). q.name) (sym at_k.1 ∙ (same ∙ at_l.1)))).1
  places_differ false false i j k l low_i low_j (inr other) at_k at_l same = other refl

  -- ---- the claims of an ordinal
  module _ (claims : Claims) (keyed : (name : List ℕ) (o : Object) → claims name ≡ Some o → o.key ≡ key_parts kinds.PersistentVolumeClaim space name) (distinct : are_distinct (names_of set.claims) ≡ true) (i : ℕ) (low : i ≤ most_ordinal) where
    abbrev Keyed : (Claim → Option ClaimChange) → Type 0
    Keyed h = (c : Claim) (change : ClaimChange) → h c ≡ Some change → key_of change ≡ claim_key c.0 i

    -- the change of a claim that is there has its key
    abbrev KeepsKey : (Object → Option ClaimChange) → Type 0
    KeepsKey f = (claim : Object) (change : ClaimChange) → f claim ≡ Some change → key_of change ≡ claim.key

    of_update : (kept : Bool) (claim : Object) (entries : List Data) (change : ClaimChange) → (if kept then None else Some (changes.Update (with_owner_entries claim entries))) ≡ Some change → key_of change ≡ claim.key
    of_update true claim entries change is = absurd (cc)
    of_update false claim entries change is = ap key_of (sym (same_Some (changes.Update (with_owner_entries claim entries)) change is))

    in_range_keeps : KeepsKey (update_claim set (name_at set i) (owner_in_range set))
    in_range_keeps claim change is = of_update (are_wanted set (name_at set i) (owner_in_range set) (entries_of claim)) claim (wanted_entries set (name_at set i) (owner_in_range set) (entries_of claim)) change is

    condemned_keeps : (uid : ℕ) → KeepsKey (update_claim set (name_at set i) (owner_of_condemned set uid))
    condemned_keeps uid claim change is =
        of_update (are_wanted set (name_at set i) (owner_of_condemned set uid) (entries_of claim)) claim (wanted_entries set (name_at set i) (owner_of_condemned set uid) (entries_of claim)) change is

    of_found : (f : Object → Option ClaimChange) → KeepsKey f → (name : List ℕ) (change : ClaimChange) → option_and_then f (claims name) ≡ Some change → key_of change ≡ key_parts kinds.PersistentVolumeClaim space name
    of_found f keeps name change is =
        elim (claims name) as (λ found. claims name ≡ found → option_and_then f found ≡ Some change → key_of change ≡ key_parts kinds.PersistentVolumeClaim space name) [
          | None ↦ λ e h. absurd (cc)
          | Some claim ↦ λ e h. keeps claim change h ∙ keyed name claim e
        ] refl is

    of_template : (c : Claim) (change : ClaimChange) → create_or_update set i c (claims (claim_name c.0 set.object.key.name i)) ≡ Some change → key_of change ≡ claim_key c.0 i
    unfolding built_claim
    of_template c change is =
        elim (claims (claim_name c.0 set.object.key.name i)) as (λ found. claims (claim_name c.0 set.object.key.name i) ≡ found → create_or_update set i c found ≡ Some change → key_of change ≡ claim_key c.0 i) [
          | None ↦ λ e h. ap key_of (sym (same_Some (new_claim set i c) change h))
          | Some claim ↦ λ e h. in_range_keeps claim change h ∙ keyed (claim_name c.0 set.object.key.name i) claim e
        ] refl is

    abbrev KeysDiffer : ClaimChange → ClaimChange → Type 0
    KeysDiffer c d = key_of c ≢ key_of d

    abbrev AreClaims : List ClaimChange → Type 0
    AreClaims made = ArePaired KeysDiffer made × ((change : ClaimChange) → Among change made → (template : List ℕ) × (key_of change ≡ claim_key template i))

    of_all : (h : Claim → Option ClaimChange) → Keyed h → AreClaims (filter_map h set.claims)
    of_all h keys = (
      pairs_filter_map NamesDiffer KeysDiffer h set.claims (λ c d other x y at_c at_d same.
          other (claim_names-differ set.object.key.name c.0 d.0 i i (omega arith) (omega arith) (ap (λ (q : Key). q.name) (sym (keys c x at_c) ∙ (same ∙ keys d y at_d)))).0)
          (templates_differ set.claims distinct),
      λ change at. let m = in_filter_map h set.claims change at in (m.0.0, keys m.0 change m.2),
    )

    kept_ones : AreClaims (keep_claims set claims i)
    kept_ones =
        of_all (λ c. option_and_then (update_claim set (name_at set i) (owner_in_range set)) (claims (claim_name c.0 set.object.key.name i)))
        (λ c. of_found (update_claim set (name_at set i) (owner_in_range set)) in_range_keeps (claim_name c.0 set.object.key.name i))

    released_ones : (uid : ℕ) → AreClaims (release_claims set claims i uid)
    released_ones uid =
        of_all (λ c. option_and_then (update_claim set (name_at set i) (owner_of_condemned set uid)) (claims (claim_name c.0 set.object.key.name i)))
        (λ c. of_found (update_claim set (name_at set i) (owner_of_condemned set uid)) (condemned_keeps uid) (claim_name c.0 set.object.key.name i))

    made_ones : AreClaims (all_creates_and_updates set claims i set.claims)
    made_ones = of_all (λ c. create_or_update set i c (claims (claim_name c.0 set.object.key.name i))) of_template

    of_guarded : (b : Bool) → AreClaims (changes_in (guarded NameTooLong b (all_creates_and_updates set claims i set.claims)))
    of_guarded true = made_ones
    of_guarded false = (tt, λ change at. absurd at)

    -- ---- the actions of a step
    abbrev AreActions : Bool → List Action → Type 0
    AreActions of_pod actions = ArePaired (HaveOthers set) actions × ((a : Action) → Among a actions → IsPlaceBy of_pod i (target set a))

    of_changes : (made : List ClaimChange) → AreClaims made → AreActions false (claim_actions made)
    of_changes made are = (
      pairs_mapped (HaveOthers set) claim_action made
          (pairs_by KeysDiffer (λ c d. HaveOthers set (claim_action c) (claim_action d)) made (λ c d other same. other (sym (target_is set c) ∙ (same ∙ target_is set d))) are.0),
      λ a at.
          let m = in_map claim_action made a at in
          let place = are.1 m.0 m.1 in
          (place.0, ap (target set) m.2 ∙ (target_is set m.0 ∙ place.1)),
    )

    alone : (of_pod : Bool) (a : Action) → IsPlaceBy of_pod i (target set a) → AreActions of_pod (a ∷ [])
    alone of_pod a place = (
      (tt, tt),
      λ b at. elim at [
        | inl is ↦ subst (IsPlaceBy of_pod i) (ap (target set) (sym is)) place
        | inr none ↦ absurd none
      ],
    )

  module _ (claims : Claims) (keyed : (name : List ℕ) (o : Object) → claims name ≡ Some o → o.key ≡ key_parts kinds.PersistentVolumeClaim space name) (distinct : are_distinct (names_of set.claims) ≡ true) (current update : Object) where
    pub of_step : (s : Step) → ordinal_of s ≤ most_ordinal → ArePaired (HaveOthers set) (actions_of set claims current update s) × ((a : Action) → Among a (actions_of set claims current update s) → IsPlace s (target set a))
    unfolding actions_of
    of_step (steps.MakeClaims i) low = of_changes claims keyed distinct i low (changes_in (make_claims set claims i)) (of_guarded claims keyed distinct i low (nat_le (length (name_at set i)) most_label))
    of_step (steps.KeepClaims i) low = of_changes claims keyed distinct i low (keep_claims set claims i) (kept_ones claims keyed distinct i low)
    of_step (steps.ReleaseClaims i uid) low = of_changes claims keyed distinct i low (release_claims set claims i uid) (released_ones claims keyed distinct i low uid)
    of_step (steps.CreatePod i revision) low = alone claims keyed distinct i low true (CreatePod (new_pod set (revision_of current update revision) i)) refl
    of_step (steps.DeletePod i uid) low = alone claims keyed distinct i low true (DeletePod (name_at set i) uid) refl
    of_step (steps.Wait i cause) low = alone claims keyed distinct i low true (Wait cause (name_at set i)) refl

  -- ---- the history of revisions
  abbrev pub NameOthers : Object → Object → Type 0
  NameOthers o p = o.key.name ≢ p.key.name

  first_named : (os : List Object) → ArePaired NameOthers (first_of_each os)
  first_named [] = tt
  first_named (o ∷ os) =
      let test : Object → Bool = λ p. not (bytes_eq p.key.name o.key.name) in (
        all_among (NameOthers o) (filter test (first_of_each os)) (λ p at same.
            true≢false (sym ((bytes_eq-Decides p.key.name o.key.name).1 (sym same)) ∙ not_true (bytes_eq p.key.name o.key.name) (filtered test p (first_of_each os) at).1)),
        pairs_filtered NameOthers test (first_of_each os) (first_named os),
      )

  pub owned_named : (revisions : List Object) → ArePaired NameOthers (owned_of set revisions)
  unfolding owned_of
  owned_named revisions =
      pairs_in_order NameOthers (λ o p other same. other (sym same)) revision_cmp (owned_among set revisions)
      (pairs_filtered NameOthers (owns_revision set) (first_of_each (listed set revisions)) (first_named (listed set revisions)))

  of_gone : (os : List Object) → ArePaired NameOthers os → ArePaired (HaveOthers set) (map deletion os)
  of_gone os named =
      pairs_mapped (HaveOthers set) deletion os
      (pairs_by NameOthers (λ o p. HaveOthers set (deletion o) (deletion p)) os (λ o p other same. other (ap (λ (k : Key). k.name) same)) named)

  of_deletions : (b : Bool) (views : List PodParts) (owned : List Object) (current update : List ℕ) → ArePaired NameOthers owned
      → ArePaired (HaveOthers set) (if b then [] else map deletion (expired_revisions set views current update owned))
  of_deletions true views owned current update named = tt
  of_deletions false views owned current update named =
      of_gone (expired_revisions set views current update owned)
      (pairs_taken NameOthers (length (history set views current update owned) - set.history_limit) (history set views current update owned)
      (pairs_filtered NameOthers (λ o. not (is_live set views current update o.key.name)) owned named))

  pub in_gone : (b : Bool) (os : List Object) (a : Action) → Among a (if b then [] else map deletion os) → (target set a).kind ≡ kinds.ControllerRevision
  in_gone true os a at = absurd at
  in_gone false os a at = let m = in_map deletion os a at in ap (λ (x : Action). (target set x).kind) m.2

  -- ---- the status
  pub of_status : (parts : StatusParts) → ArePaired (HaveOthers set) (status_write set parts) × ((a : Action) → Among a (status_write set parts) → target set a ≡ set.object.key)
  unfolding built_status
  of_status parts =
      let status = object (new_status set parts (old_status set)) in
      elim (differs set status) as (λ b. ArePaired (HaveOthers set) (option_map_or (λ o. WriteStatus o ∷ []) (if b then Some (set_with set status) else None) [])
      × ((a : Action) → Among a (option_map_or (λ o. WriteStatus o ∷ []) (if b then Some (set_with set status) else None) []) → target set a ≡ set.object.key)) [
        | true ↦ ((tt, tt), λ a at. elim at [ inl is ↦ ap (target set) is | inr none ↦ absurd none ])
        | false ↦ (tt, λ a at. absurd at)
      ]

  -- ---- the whole
  place_kind : (p : Bool) (i : ℕ) (k l : Key) → IsPlaceBy p i k → (l.kind ≡ kinds.Pod → ⊥) → (l.kind ≡ kinds.PersistentVolumeClaim → ⊥) → k ≢ l
  place_kind true i k l at no_pod no_claim same = no_pod (ap (λ (q : Key). q.kind) (sym same ∙ at))
  place_kind false i k l at no_pod no_claim same = no_claim (ap (λ (q : Key). q.kind) (sym same ∙ at.1))

  kind_is_not : (k : Key) (kind other : Kind) → k.kind ≡ kind → (kind ≡ other → ⊥) → k.kind ≡ other → ⊥
  kind_is_not k kind other is differs_from same = differs_from (sym is ∙ same)

  pub plan_paired : (claims : Claims) (views : List PodParts) (owned : List Object) (current update : Object) (pods : Pods)
      → ((name : List ℕ) (o : Object) → claims name ≡ Some o → o.key ≡ key_parts kinds.PersistentVolumeClaim space name) → are_distinct (names_of set.claims) ≡ true
      → AreInOrder pods → ((i : ℕ) → IsKnown set pods i → i ≤ most_ordinal) → set.object.key.kind ≡ kinds.StatefulSet → ArePaired NameOthers owned
      → ArePaired (HaveOthers set) (full_plan set claims views owned current update pods)
  unfolding full_plan
  plan_paired claims views owned current update pods keyed distinct sorted low kind named =
      let all = full_steps set pods in
      let name = current_name set pods current update in
      let done = flat_map (actions_of set claims current update) all in
      let gone = deletions set views owned name update.key.name all in
      let status = status_write set (status_of set pods name update.key.name) in
      let lows : (s : Step) → Among s all → ordinal_of s ≤ most_ordinal = λ s at. low (ordinal_of s) (among_all (λ x. IsKnown set pods (ordinal_of x)) all s (steps_known set pods sorted) at) in
      let one : (s : Step) → Among s all → ArePaired (HaveOthers set) (actions_of set claims current update s) × ((a : Action) → Among a (actions_of set claims current update s) → IsPlace s (target set a)) =
      λ s at. of_step claims keyed distinct current update s (lows s at) in
      let done_paired : ArePaired (HaveOthers set) done =
      pairs_flat AreApart (HaveOthers set) (actions_of set claims current update) all (λ s at. (one s at).0)
      (λ s t at_s at_t other a b at_a at_b.
      places_differ (is_of_pod s) (is_of_pod t) (ordinal_of s) (ordinal_of t) (target set a) (target set b) (lows s at_s) (lows t at_t) other ((one s at_s).1 a at_a) ((one t at_t).1 b at_b))
      (steps_apart set pods sorted) in
      let done_apart : (a : Action) (l : Key) → Among a done → (l.kind ≡ kinds.Pod → ⊥) → (l.kind ≡ kinds.PersistentVolumeClaim → ⊥) → target set a ≢ l = λ a l at.
      let m = in_flat (actions_of set claims current update) all a at in
      place_kind (is_of_pod m.0) (ordinal_of m.0) (target set a) l ((one m.0 m.1).1 a m.2) in
      let gone_kind : (a : Action) → Among a gone → (target set a).kind ≡ kinds.ControllerRevision = in_gone (list_any is_of_pod all) (expired_revisions set views name update.key.name owned) in
      let last = of_status (status_of set pods name update.key.name) in
      let before : ArePaired (HaveOthers set) (done ++ gone) =
      pairs_append (HaveOthers set) done gone done_paired (of_deletions (list_any is_of_pod all) views owned name update.key.name named)
      (λ a b at_a at_b.
      done_apart a (target set b) at_a (kind_is_not (target set b) kinds.ControllerRevision kinds.Pod (gone_kind b at_b) (λ same. cc))
      (kind_is_not (target set b) kinds.ControllerRevision kinds.PersistentVolumeClaim (gone_kind b at_b) (λ same. cc))) in
      pairs_append (HaveOthers set) (done ++ gone) status before last.0
      (λ a b at_a at_b.
      let set_kind : (target set b).kind ≡ kinds.StatefulSet = ap (λ (k : Key). k.kind) (last.1 b at_b) ∙ kind in
      elim (among_either a done gone at_a) [
        | inl here ↦ done_apart a (target set b) here (kind_is_not (target set b) kinds.StatefulSet kinds.Pod set_kind (λ same. cc)) (kind_is_not (target set b) kinds.StatefulSet kinds.PersistentVolumeClaim set_kind (λ same. cc))
        | inr there ↦ λ same. kind_is_not (target set a) kinds.ControllerRevision kinds.StatefulSet (gone_kind a there) (λ clash. cc) (ap (λ (k : Key). k.kind) same ∙ set_kind)
      ])

  -- ---- requests
  abbrev KeysApart : Request → Request → Type 0
  KeysApart r x = key_named x ≢ key_named r

  abbrev pub AreOf : Key → List Request → Type 0
  AreOf k rs = ((r : Request) → Among r rs → key_named r ≡ Some k) × ArePaired KeysApart rs

  one_request : (k : Key) (r : Request) → key_named r ≡ Some k → AreOf k (r ∷ [])
  one_request k r is = (λ x at. elim at [ inl same ↦ ap key_named same ∙ is | inr none ↦ absurd none ], (tt, tt))

  no_request : (k : Key) → AreOf k []
  no_request k = (λ x at. absurd at, tt)

  of_delete : (k : Key) (uid : ℕ) (version at : Option (List ℕ)) (b : Bool) → AreOf k (delete_requests (if b then Some k else None) uid version at)
  of_delete k uid version at false = no_request k
  of_delete k uid version at true =
      elim (nat_lt uid (2 ^ 48)) as (λ c. AreOf k (if c then Delete k (Some (uid_text uid)) version at ∷ [] else [])) [
        | true ↦ one_request k (Delete k (Some (uid_text uid)) version at) refl
        | false ↦ no_request k
      ]

  pub of_action : (moment : List ℕ) (a : Action) → AreOf (target set a) (request_of space moment a)
  of_action moment (CreateClaim o) = one_request o.key (Create (draft o)) refl
  of_action moment (CreatePod o) = one_request o.key (Create (draft o)) refl
  of_action moment (DeletePod name uid) = let k : Key = key_parts kinds.Pod space name in of_delete k uid None (Some moment) (is_key k)
  of_action moment (UpdateClaim o) = one_request o.key (Update (as_read o)) refl
  of_action moment (WriteRevision o) =
      elim (o.meta.uid == 0) as (λ b. AreOf o.key ((if b then Create (draft o) else Update (as_read o)) ∷ [])) [
        | true ↦ one_request o.key (Create (draft o)) refl
        | false ↦ one_request o.key (Update (as_read o)) refl
      ]
  of_action moment (DeleteRevision name uid version) = let k : Key = key_parts kinds.ControllerRevision space name in of_delete k uid (Some (version_or_empty version)) None (is_key k)
  of_action moment (WriteStatus o) = one_request o.key (UpdateStatus (as_read o)) refl
  of_action moment (Wait cause name) = no_request (key_parts kinds.Pod space name)

  name_apart : (rs : List Request) → ArePaired KeysApart rs → NameApart rs
  name_apart [] pairs = tt
  name_apart (r ∷ rs) pairs = (pairs.0, name_apart rs pairs.1)

  pub requests_apart : (moment : List ℕ) (actions : List Action) → ArePaired (HaveOthers set) actions → NameApart (requests_of space moment actions)
  requests_apart moment actions pairs =
      name_apart (requests_of space moment actions)
      (pairs_flat (HaveOthers set) KeysApart (request_of space moment) actions (λ a at. (of_action moment a).1)
      (λ a b at_a at_b other r x at_r at_x same.
      other (same_Some (target set a) (target set b) (sym ((of_action moment a).0 r at_r) ∙ (sym same ∙ (of_action moment b).0 x at_x))))
      pairs)
