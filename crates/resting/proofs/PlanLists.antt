-- What each action of a full plan is, and each of its requests, as far as the pods of the set go.
use Rattle.std.proofs.Common.{◌≡◌, ◌^◌, ◌<◌, inl, inr, ℕ, Bool, true, false, if◌then◌else◌, List, [], ◌∷◌, ◌++◌, map, option_and_then, Option, Some, None, refl, sym, ap, ◌∙◌, subst}
use Rattle.std.specs.Prelude.{⊤, nat_lt, IfSome}
use Rattle.std.specs.List.{AllByRecursion, Contains, cons_option, filter_map, flat_map, list_any}
use Rattle.std.specs.Option.{option_map_or}
use Rattle.std.proofs.lemmas.Bool.{lt-ltb}
use Rattle.std.proofs.lemmas.Option.{same_Some}
use Rattle.serde_json.specs.Data.{Data, object}
use Rattle.objects.specs.declared.key.Key.{Key}
use Rattle.objects.specs.declared.kind.Kind.{Kind}
use Rattle.objects.specs.declared.kind.Kind.TheVariants.{ControllerRevision, PersistentVolumeClaim, Pod, StatefulSet}
use Rattle.objects.specs.declared.object.Object.{Object}
use Rattle.objects.specs.Key.{is_key, key_parts}
use Rattle.objects.specs.PodNames.{claim_name}
use Rattle.objects.specs.Uid.{uid_text}
use Rattle.requests.specs.declared.request.Request.{Request}
use Rattle.requests.specs.declared.request.Request.TheVariants.{Create, Delete}
use Rattle.requests.specs.Keys.{key_named}
use Rattle.requests.specs.Lists.{Has as Among}
use Rattle.set_views.specs.declared.fault.PlanError.TheVariants.{NameTooLong}
use Rattle.set_views.specs.Claims.{Claim}
use Rattle.set_views.specs.Pod.{PodParts}
use Rattle.set_views.specs.Set.{SetParts}
use Rattle.set_views.specs.Steps.{guarded}
use Rattle.manifests.specs.BuiltClaim.{built_claim}
use Rattle.manifests.specs.BuiltStatus.{StatusParts, built_status, differs, new_status, old_status, set_with}
use Rattle.claims.specs.declared.change.ClaimChange.{ClaimChange}
use Rattle.claims.specs.declared.change.ClaimChange.TheVariants as changes
use Rattle.claims.specs.Changes.{all_creates_and_updates, create_or_update, entries_of, keep_claims, make_claims, release_claims, update as update_claim, with_owner_entries}
use Rattle.claims.specs.Owners.{are_wanted, owner_in_range, owner_of_condemned, wanted_entries}
use Rattle.pod_steps.specs.declared.step.Revision.{Revision}
use Rattle.pod_steps.specs.declared.step.Step.{Step}
use Rattle.pod_steps.specs.declared.step.Step.TheVariants as steps
use Rattle.pod_steps.specs.FullSteps.{full_steps}
use Rattle.pod_steps.specs.Replicas.{Pods}
use Rattle.pod_steps.specs.Step.{is_of_pod}
use Rattle.rounds.specs.Drafts.{draft}
use Rattle.rounds.proofs.Lists.{among_contained, among_left, among_right, contains_among}
use Rattle.revisions.specs.History.{expired_revisions}
use Rattle.sets.specs.declared.action.Action.{Action}
use Rattle.sets.specs.declared.action.Action.TheVariants.{CreateClaim, CreatePod, DeletePod, UpdateClaim, WriteRevision, DeleteRevision, WriteStatus, Wait}
use Rattle.sets.specs.Actions.{Claims, actions_of, changes_in, claim_actions, name_at, new_pod, revision_of}
use Rattle.sets.specs.FullPlan.{current_name, deletion, deletions, full_plan, status_of, status_write}
use Rattle.sets.proofs.Ordered.{all_among}
use Rattle.controllers.specs.Planned.{deletion_of, deletions as delete_requests, request_of, requests_of}

-- ---- lists
pub all_append : {X : Type 0} (P : X → Type 0) (xs ys : List X) → AllByRecursion P xs → AllByRecursion P ys → AllByRecursion P (xs ++ ys)
all_append P [] ys at_xs at_ys = at_ys
all_append P (x ∷ xs) ys at_xs at_ys = (at_xs.0, all_append P xs ys at_xs.1 at_ys)

pub all_flat : {X Y : Type 0} (P : Y → Type 0) (f : X → List Y) (xs : List X) → AllByRecursion (λ x. AllByRecursion P (f x)) xs → AllByRecursion P (flat_map f xs)
all_flat P f [] all = tt
all_flat P f (x ∷ xs) all = all_append P (f x) (flat_map f xs) all.0 (all_flat P f xs all.1)

pub all_by : {X : Type 0} (P Q : X → Type 0) (xs : List X) → ((x : X) → P x → Q x) → AllByRecursion P xs → AllByRecursion Q xs
all_by P Q [] each all = tt
all_by P Q (x ∷ xs) each all = (each x all.0, all_by P Q xs each all.1)

pub among_flat : {X Y : Type 0} (f : X → List Y) (xs : List X) (x : X) (y : Y) → Among x xs → Among y (f x) → Among y (flat_map f xs)
among_flat f [] x y at here = absurd at
among_flat f (z ∷ xs) x y (inl is) here = among_left y (f z) (flat_map f xs) (subst (λ w. Among y (f w)) is here)
among_flat f (z ∷ xs) x y (inr at) here = among_right y (f z) (flat_map f xs) (among_flat f xs x y at here)

-- ---- the claims of a step
abbrev IsOfClaim : ClaimChange → Type 0
IsOfClaim (changes.Create o) = o.key.kind ≡ PersistentVolumeClaim
IsOfClaim (changes.Update o) = o.key.kind ≡ PersistentVolumeClaim

pub all_filter_map : {X Y : Type 0} (P : Y → Type 0) (h : X → Option Y) (xs : List X) → ((x : X) → IfSome (h x) P) → AllByRecursion P (filter_map h xs)
all_filter_map P h [] each = tt
all_filter_map P h (x ∷ xs) each =
    elim (h x) as (λ found. IfSome found P → AllByRecursion P (cons_option found (filter_map h xs))) [
      | None ↦ λ is. all_filter_map P h xs each
      | Some y ↦ λ is. (is, all_filter_map P h xs each)
    ] (each x)

of_update : (kept : Bool) (claim : Object) (entries : List Data) → claim.key.kind ≡ PersistentVolumeClaim → IfSome (if kept then None else Some (changes.Update (with_owner_entries claim entries))) IsOfClaim
of_update true claim entries is = tt
of_update false claim entries is = is

of_found : (f : Object → Option ClaimChange) (found : Option Object) → ((o : Object) → o.key.kind ≡ PersistentVolumeClaim → IfSome (f o) IsOfClaim) → ((o : Object) → found ≡ Some o → o.key.kind ≡ PersistentVolumeClaim)
    → IfSome (option_and_then f found) IsOfClaim
of_found f None each is = tt
of_found f (Some claim) each is = each claim (is claim refl)

module _ (set : SetParts) (claims : Claims) (are : (name : List ℕ) (o : Object) → claims name ≡ Some o → o.key.kind ≡ PersistentVolumeClaim) where
  of_updates : (i : ℕ) (f : Object → Option ClaimChange) → ((o : Object) → o.key.kind ≡ PersistentVolumeClaim → IfSome (f o) IsOfClaim)
      → AllByRecursion IsOfClaim (filter_map (λ (c : Claim). option_and_then f (claims (claim_name c.0 set.object.key.name i))) set.claims)
  of_updates i f each =
      all_filter_map IsOfClaim (λ c. option_and_then f (claims (claim_name c.0 set.object.key.name i))) set.claims
      (λ c. of_found f (claims (claim_name c.0 set.object.key.name i)) each (λ o. are (claim_name c.0 set.object.key.name i) o))

  kept_ones : (i : ℕ) → AllByRecursion IsOfClaim (keep_claims set claims i)
  kept_ones i = of_updates i (update_claim set (name_at set i) (owner_in_range set)) (λ claim is. of_update (are_wanted set (name_at set i) (owner_in_range set) (entries_of claim)) claim (wanted_entries set (name_at set i) (owner_in_range set) (entries_of claim)) is)

  released_ones : (i uid : ℕ) → AllByRecursion IsOfClaim (release_claims set claims i uid)
  released_ones i uid = of_updates i (update_claim set (name_at set i) (owner_of_condemned set uid)) (λ claim is. of_update (are_wanted set (name_at set i) (owner_of_condemned set uid) (entries_of claim)) claim (wanted_entries set (name_at set i) (owner_of_condemned set uid) (entries_of claim)) is)

  of_template : (i : ℕ) (c : Claim) (found : Option Object) → ((o : Object) → found ≡ Some o → o.key.kind ≡ PersistentVolumeClaim) → IfSome (create_or_update set i c found) IsOfClaim
  unfolding built_claim
  of_template i c None is = refl
  of_template i c (Some claim) is = of_update (are_wanted set (name_at set i) (owner_in_range set) (entries_of claim)) claim (wanted_entries set (name_at set i) (owner_in_range set) (entries_of claim)) (is claim refl)

  of_templates : (i : ℕ) → AllByRecursion IsOfClaim (all_creates_and_updates set claims i set.claims)
  of_templates i =
      all_filter_map IsOfClaim (λ c. create_or_update set i c (claims (claim_name c.0 set.object.key.name i))) set.claims
      (λ c. of_template i c (claims (claim_name c.0 set.object.key.name i)) (λ o. are (claim_name c.0 set.object.key.name i) o))

of_guarded : (b : Bool) (changes : List ClaimChange) → AllByRecursion IsOfClaim changes → AllByRecursion IsOfClaim (changes_in (guarded NameTooLong b changes))
of_guarded true changes all = all
of_guarded false changes all = tt

-- ---- actions
-- the action is of a step on pods among these, or is about an object of another kind
abbrev pub IsPlanned : SetParts → Object → Object → List Step → Action → Type 0
IsPlanned set current update all (CreateClaim o) = o.key.kind ≡ PersistentVolumeClaim
IsPlanned set current update all (UpdateClaim o) = o.key.kind ≡ PersistentVolumeClaim
IsPlanned set current update all (CreatePod o) = (i : ℕ) × (revision : Revision) × Contains all (steps.CreatePod i revision) × (o ≡ new_pod set (revision_of current update revision) i)
IsPlanned set current update all (DeletePod name uid) = (i : ℕ) × (name ≡ name_at set i) × Contains all (steps.DeletePod i uid)
IsPlanned set current update all (WriteRevision o) = ⊥
IsPlanned set current update all (DeleteRevision name uid version) = ⊤
IsPlanned set current update all (WriteStatus o) = o.key ≡ set.object.key
IsPlanned set current update all (Wait cause name) = ⊤

module _ (set : SetParts) (claims : Claims) (current update : Object) (all : List Step) (are : (name : List ℕ) (o : Object) → claims name ≡ Some o → o.key.kind ≡ PersistentVolumeClaim) where
  of_changes : (changes : List ClaimChange) → AllByRecursion IsOfClaim changes → AllByRecursion (IsPlanned set current update all) (claim_actions changes)
  of_changes [] are_of = tt
  of_changes (changes.Create o ∷ rest) are_of = (are_of.0, of_changes rest are_of.1)
  of_changes (changes.Update o ∷ rest) are_of = (are_of.0, of_changes rest are_of.1)

  of_step : (s : Step) → Contains all s → AllByRecursion (IsPlanned set current update all) (actions_of set claims current update s)
  unfolding actions_of
  of_step (steps.MakeClaims i) at = of_changes (changes_in (make_claims set claims i)) (of_guarded _ (all_creates_and_updates set claims i set.claims) (of_templates set claims are i))
  of_step (steps.KeepClaims i) at = of_changes (keep_claims set claims i) (kept_ones set claims are i)
  of_step (steps.ReleaseClaims i uid) at = of_changes (release_claims set claims i uid) (released_ones set claims are i uid)
  of_step (steps.CreatePod i revision) at = ((i, revision, at, refl), tt)
  of_step (steps.DeletePod i uid) at = ((i, refl, at), tt)
  of_step (steps.Wait i cause) at = (tt, tt)

  of_gone : (os : List Object) → AllByRecursion (IsPlanned set current update all) (map deletion os)
  of_gone [] = tt
  of_gone (o ∷ os) = (tt, of_gone os)

  of_deletions : (b : Bool) (os : List Object) → AllByRecursion (IsPlanned set current update all) (if b then [] else map deletion os)
  of_deletions true os = tt
  of_deletions false os = of_gone os

  of_status : (s : StatusParts) → AllByRecursion (IsPlanned set current update all) (status_write set s)
  unfolding built_status
  of_status s =
      let status = object (new_status set s (old_status set)) in
      elim (differs set status) as (λ b. AllByRecursion (IsPlanned set current update all) (option_map_or (λ o. WriteStatus o ∷ []) (if b then Some (set_with set status) else None) [])) [
        | true ↦ (refl, tt)
        | false ↦ tt
      ]

pub plan_is : (set : SetParts) (claims : Claims) (views : List PodParts) (owned : List Object) (current update : Object) (pods : Pods) → ((name : List ℕ) (o : Object) → claims name ≡ Some o → o.key.kind ≡ PersistentVolumeClaim)
    → AllByRecursion (IsPlanned set current update (full_steps set pods)) (full_plan set claims views owned current update pods)
unfolding full_plan
plan_is set claims views owned current update pods are =
    let all = full_steps set pods in
    let name = current_name set pods current update in
    let P = IsPlanned set current update all in
    let done = flat_map (actions_of set claims current update) all in
    let gone = deletions set views owned name update.key.name all in
    let each = all_among (λ s. AllByRecursion P (actions_of set claims current update s)) all (λ s at. of_step set claims current update all are s (contains_among s all at)) in
    all_append P (done ++ gone) (status_write set (status_of set pods name update.key.name))
    (all_append P done gone (all_flat P (actions_of set claims current update) all each) (of_deletions set claims current update all are (list_any is_of_pod all) (expired_revisions set views name update.key.name owned)))
    (of_status set claims current update all are (status_of set pods name update.key.name))

-- ---- requests
abbrev pub pod_key : SetParts → ℕ → Key
pod_key set i = key_parts Pod set.object.key.namespace (name_at set i)

-- a request about another kind than pods, or that of a step on a pod
pub data PodWrite (set : SetParts) (current update : Object) (moment : List ℕ) (all : List Step) (r : Request) : Type 0 where
  of_other : ((k : Key) → key_named r ≡ Some k → k.kind ≡ Pod → ⊥) → PodWrite set current update moment all r
  of_create : (i : ℕ) (revision : Revision) → Contains all (steps.CreatePod i revision) → r ≡ Create (draft (new_pod set (revision_of current update revision) i)) → PodWrite set current update moment all r
  of_delete : (i uid : ℕ) → Contains all (steps.DeletePod i uid) → r ≡ Delete (pod_key set i) (Some (uid_text uid)) None (Some moment) → PodWrite set current update moment all r

not_pod : (kind : Kind) (k q : Key) → k.kind ≡ kind → (kind ≡ Pod → ⊥) → Some k ≡ Some q → q.kind ≡ Pod → ⊥
not_pod kind k q is other same pod = other (sym is ∙ (ap (λ (x : Key). x.kind) (same_Some k q same) ∙ pod))

module _ (set : SetParts) (current update : Object) (moment : List ℕ) (all : List Step) (kind : set.object.key.kind ≡ StatefulSet) where
  abbrev Fits : Request → Type 0
  Fits = PodWrite set current update moment all

  of_pod_delete : (i uid : ℕ) (name : List ℕ) → name ≡ name_at set i → Contains all (steps.DeletePod i uid) → AllByRecursion Fits (deletion_of Pod set.object.key.namespace name uid None (Some moment))
  of_pod_delete i uid name is at =
      let key : Key = key_parts Pod set.object.key.namespace name in
      elim (is_key key) as (λ b. AllByRecursion Fits (delete_requests (if b then Some key else None) uid None (Some moment))) [
        | false ↦ tt
        | true ↦ elim (nat_lt uid (2 ^ 48)) as (λ b. AllByRecursion Fits (if b then Delete key (Some (uid_text uid)) None (Some moment) ∷ [] else [])) [
          | false ↦ tt
          | true ↦ (of_delete i uid at (ap (λ n. Delete (key_parts Pod set.object.key.namespace n) (Some (uid_text uid)) None (Some moment)) is), tt)
        ]
      ]

  of_revision_delete : (name : List ℕ) (uid : ℕ) (version at : Option (List ℕ)) → AllByRecursion Fits (deletion_of ControllerRevision set.object.key.namespace name uid version at)
  of_revision_delete name uid version at =
      let key : Key = key_parts ControllerRevision set.object.key.namespace name in
      elim (is_key key) as (λ b. AllByRecursion Fits (delete_requests (if b then Some key else None) uid version at)) [
        | false ↦ tt
        | true ↦ elim (nat_lt uid (2 ^ 48)) as (λ b. AllByRecursion Fits (if b then Delete key (Some (uid_text uid)) version at ∷ [] else [])) [
          | false ↦ tt
          | true ↦ (of_other (λ q. not_pod ControllerRevision key q refl (λ same. cc)), tt)
        ]
      ]

  of_action : (a : Action) → IsPlanned set current update all a → AllByRecursion Fits (request_of set.object.key.namespace moment a)
  of_action (CreateClaim o) is = (of_other (λ q. not_pod PersistentVolumeClaim o.key q is (λ same. cc)), tt)
  of_action (UpdateClaim o) is = (of_other (λ q. not_pod PersistentVolumeClaim o.key q is (λ same. cc)), tt)
  of_action (CreatePod o) is = (of_create is.0 is.1 is.2 (ap (λ x. Create (draft x)) is.3), tt)
  of_action (DeletePod name uid) is = of_pod_delete is.0 uid name is.1 is.2
  of_action (WriteRevision o) is = absurd is
  of_action (DeleteRevision name uid version) is = of_revision_delete name uid _ _
  of_action (WriteStatus o) is = (of_other (λ q. not_pod StatefulSet o.key q (ap (λ (x : Key). x.kind) is ∙ kind) (λ same. cc)), tt)
  of_action (Wait cause name) is = tt

  pub requests_are : (actions : List Action) → AllByRecursion (IsPlanned set current update all) actions → AllByRecursion (PodWrite set current update moment all) (requests_of set.object.key.namespace moment actions)
  requests_are actions are = all_flat Fits (request_of set.object.key.namespace moment) actions (all_by (IsPlanned set current update all) (λ a. AllByRecursion Fits (request_of set.object.key.namespace moment a)) actions of_action are)

-- ---- and each step on a pod has its request
module _ (set : SetParts) (claims : Claims) (views : List PodParts) (owned : List Object) (current update : Object) (pods : Pods) (moment : List ℕ) where
  abbrev pub plan_requests : List Request
  plan_requests = requests_of set.object.key.namespace moment (full_plan set claims views owned current update pods)

  in_plan : (s : Step) (a : Action) → Contains (full_steps set pods) s → Among a (actions_of set claims current update s) → Among a (full_plan set claims views owned current update pods)
  unfolding full_plan
  in_plan s a at here =
      let all = full_steps set pods in
      let name = current_name set pods current update in
      let done = flat_map (actions_of set claims current update) all in
      let gone = deletions set views owned name update.key.name all in
      among_left a (done ++ gone) (status_write set (status_of set pods name update.key.name))
      (among_left a done gone (among_flat (actions_of set claims current update) all s a (among_contained all s at) here))

  pub create_sent : (i : ℕ) (revision : Revision) → Contains (full_steps set pods) (steps.CreatePod i revision) → Among (Create (draft (new_pod set (revision_of current update revision) i))) plan_requests
  unfolding actions_of
  create_sent i revision at =
      let o = new_pod set (revision_of current update revision) i in
      among_flat (request_of set.object.key.namespace moment) (full_plan set claims views owned current update pods) (CreatePod o) (Create (draft o))
      (in_plan (steps.CreatePod i revision) (CreatePod o) at (inl refl)) (inl refl)

  pub delete_sent : (i uid : ℕ) → Contains (full_steps set pods) (steps.DeletePod i uid) → is_key (pod_key set i) ≡ true → uid < 2 ^ 48 → Among (Delete (pod_key set i) (Some (uid_text uid)) None (Some moment)) plan_requests
  unfolding actions_of
  delete_sent i uid at named low =
      let r = Delete (pod_key set i) (Some (uid_text uid)) None (Some moment) in
      let P : Bool → Type 0 = λ b. Among r (delete_requests (if b then Some (pod_key set i) else None) uid None (Some moment)) in
      let Q : Bool → Type 0 = λ b. Among r (if b then r ∷ [] else []) in
      among_flat (request_of set.object.key.namespace moment) (full_plan set claims views owned current update pods) (DeletePod (name_at set i) uid) r
      (in_plan (steps.DeletePod i uid) (DeletePod (name_at set i) uid) at (inl refl))
      (subst P (sym named) (subst Q (sym (lt-ltb uid (2 ^ 48) low)) (inl refl)))
