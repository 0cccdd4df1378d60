-- A plan deletes only what was listed for it, and a collection only what is collectable.
use Rattle.std.proofs.Common.{◌≡◌, inl, inr, ℕ, ◌^◌, Bool, true, false, cond, ◌+◌, List, [], ◌∷◌, ◌++◌, Option, Some, None, Result, Ok, Err, filter, find, refl, sym, ap, ◌∙◌, subst, true≢false}
use Rattle.std.specs.Prelude.{◌==◌, nat_lt}
use Rattle.std.specs.List.{Contains}
use Rattle.std.specs.Option.{is_some, option_map_or}
use Rattle.std.proofs.lemmas.Bool.{and_parts}
use Rattle.std.proofs.lemmas.Slice.Eq.{bytes_eq-Decides}
use Rattle.objects.specs.declared.key.Key.{Key}
use Rattle.objects.specs.declared.kind.Kind.{Kind}
use Rattle.objects.specs.declared.kind.Kind.TheVariants as kinds
use Rattle.objects.specs.declared.object.Object.{Object}
use Rattle.objects.specs.Key.{is_key, key_parts}
use Rattle.objects.specs.Uid.{uid_text}
use Rattle.requests.specs.declared.request.Request.{Request}
use Rattle.requests.specs.declared.request.Request.TheVariants.{Create, Update, Delete}
use Rattle.set_views.specs.declared.fault.PlanError.{PlanError}
use Rattle.set_views.specs.declared.fault.PlanError.TheVariants as errors
use Rattle.set_views.specs.Firsts.{is_held}
use Rattle.set_views.specs.Pod.{PodParts}
use Rattle.set_views.specs.Set.{SetParts}
use Rattle.set_views.specs.SetReading.{set_of}
use Rattle.set_views.specs.Steps.{◌>>=◌}
use Rattle.set_views.specs.Predicates.{in_namespace, is_kind}
use Rattle.revisions.specs.Choice as choice
use Rattle.revisions.specs.Plan as revision_plans
use Rattle.revisions.specs.Plan.{created, renumbered, settled, plan_of}
use Rattle.revisions.specs.Revision.{listed}
use Rattle.pod_steps.specs.Listed.{is_named}
use Rattle.pod_steps.specs.Views.{listed_pods}
use Rattle.claims.specs.Listed.{listed_claim}
use Rattle.requests.specs.Lists.{Has}
use Rattle.collector.proofs.Collected.{claim_of}
use Rattle.sets.specs.declared.action.Action.{Action}
use Rattle.sets.specs.declared.action.Action.TheVariants.{CreateClaim, CreatePod, DeletePod, UpdateClaim, WriteRevision, DeleteRevision, WriteStatus, Wait}
use Rattle.sets.specs.Actions.{Claims, name_at}
use Rattle.sets.specs.Plan.{plan_by}
use Rattle.sets.proofs.Origins.{created_alone, deletes_owned, renumbered_alone}
use Rattle.rounds.specs.Sound.{IsAction, IsSound}
use Rattle.rounds.proofs.Lists.{among_contained, among_left, among_right, contains_among}
use Rattle.sets.specs.PlanOfLists.{owned_of, plan_of_lists, views_of}
use Rattle.rounds.specs.Drafts.{draft}
use Rattle.controllers.specs.Planned.{deletions, deletion_of, key_of, or_none, as_read, request_of, requested, requested_for, requests_of}
use Rattle.controllers.specs.Reconciler.{reconciler_with}
use Rattle.controllers.proofs.Deletions.{deletes_controlled}
use Rattle.controllers.proofs.OwnedRevisions.{of_owned}
use Rattle.controllers.proofs.PlannedActions.{among_all, in_requests, refused, writes_alone}
use Rattle.sets.proofs.FirstPods.{found_in_map, named_is}
use Rattle.sets.proofs.Owned.{filtered, first_among}

-- ---- requests

in_deletions : (key : Option Key) (uid : ℕ) (version at : Option (List ℕ)) (r : Request) → Has r (deletions key uid version at)
    → (k : Key) × (key ≡ Some k) × (r ≡ Delete k (Some (uid_text uid)) version at)
in_deletions None uid version at r h = absurd h
in_deletions (Some k) uid version at r h =
    elim (nat_lt uid (2 ^ 48)) as (λ b. Has r (cond b (Delete k (Some (uid_text uid)) version at ∷ []) []) → (q : Key) × (Some k ≡ Some q) × (r ≡ Delete q (Some (uid_text uid)) version at)) [
      | true ↦ λ there. elim there [ inl is ↦ (k, refl, is) | inr none ↦ absurd none ]
      | false ↦ λ there. absurd there
    ] h

key_is : (kind : Kind) (namespace name : List ℕ) (k : Key) → key_of kind namespace name ≡ Some k → k ≡ key_parts kind namespace name
key_is kind namespace name k is =
    elim (is_key (key_parts kind namespace name)) as (λ b. cond b (Some (key_parts kind namespace name)) None ≡ Some k → k ≡ key_parts kind namespace name) [
      | true ↦ λ e. sym (ap (λ o. option_map_or (λ (q : Key). q) o k) e)
      | false ↦ λ e. let clash : false ≡ true = ap is_some e in absurd (true≢false (sym clash))
    ] is

-- the delete of a listed object
named : (os : List Object) (kind : Kind) (namespace name : List ℕ) (uid : ℕ) (version at : Option (List ℕ)) (r : Request) (o : Object) → Has r (deletion_of kind namespace name uid version at)
    → Has o os → o.key ≡ key_parts kind namespace name → o.meta.uid ≡ uid → IsAction os r
named os kind namespace name uid version at r o h among key uid_is =
    let d = in_deletions (key_of kind namespace name) uid version at r h in
    subst (IsAction os) (sym d.2)
    (record { object = o; among = among; key_is = key_is kind namespace name d.0 d.1 ∙ sym key; uid_is = ap (λ (n : ℕ). Some (uid_text n)) (sym uid_is) })

-- ---- listed pods

pod_kind : (kind : Kind) → is_kind kinds.Pod kind ≡ true → kind ≡ kinds.Pod
pod_kind kinds.StatefulSet h = absurd (true≢false (sym h))
pod_kind kinds.Pod h = refl
pod_kind kinds.PersistentVolumeClaim h = absurd (true≢false (sym h))
pod_kind kinds.ControllerRevision h = absurd (true≢false (sym h))

-- the listed object of that name and UID
abbrev IsListed : List Object → Kind → List ℕ → List ℕ → ℕ → Type 0
IsListed os kind namespace name uid = (o : Object) × Has o os × (o.key ≡ key_parts kind namespace name) × (o.meta.uid ≡ uid)

pod_listed : (set : SetParts) (pods : List Object) (i : ℕ) (name : List ℕ) (uid : ℕ) (pod : PodParts) → name ≡ name_at set i → find (is_named set i) (views_of set pods) ≡ Some pod → pod.uid ≡ uid
    → IsListed pods kinds.Pod set.object.key.namespace name uid
unfolding views_of
pod_listed set pods i name uid pod name_is found uid_is =
    let f = found_in_map (is_named set i) (listed_pods set pods) pod found in
    let o : Object = f.0 in
    let near = filtered (in_namespace set kinds.Pod) o pods (first_among (filter (in_namespace set kinds.Pod) pods) o f.1) in
    let parts = and_parts (is_kind kinds.Pod o.key.kind) _ near.1 in
    let space : o.key.namespace ≡ set.object.key.namespace = (bytes_eq-Decides o.key.namespace set.object.key.namespace).0 parts.1 in
    let same : o.key.name ≡ name = named_is set i o f.3 ∙ sym name_is in
    (o, near.0, (λ j. key_parts (pod_kind o.key.kind parts.0 j) (space j) (same j)), ap (λ (v : PodParts). v.uid) f.2 ∙ uid_is)

-- ---- plans

pod_planned : (set : SetParts) (claims : Claims) (pods : List Object) (p : Result revision_plans.PlanParts PlanError) (actions : List Action) (name : List ℕ) (uid : ℕ) → plan_by set claims (views_of set pods) p ≡ Ok actions
    → Contains actions (DeletePod name uid) → IsListed pods kinds.Pod set.object.key.namespace name uid
unfolding plan_by
pod_planned set claims pods (Ok (created x)) actions name uid e at =
    let clash : WriteRevision x ≡ DeletePod name uid = writes_alone actions x (DeletePod name uid) (created_alone set claims (views_of set pods) actions x e) at in absurd (cc)
pod_planned set claims pods (Ok (renumbered x)) actions name uid e at =
    let clash : WriteRevision x ≡ DeletePod name uid = writes_alone actions x (DeletePod name uid) (renumbered_alone set claims (views_of set pods) actions x e) at in absurd (cc)
pod_planned set claims pods (Ok (settled owned current update)) actions name uid e at =
    let d = deletes_owned set claims (views_of set pods) owned current update actions name uid e at in
    pod_listed set pods d.0 name uid d.2.0 d.1 d.2.1 d.2.3
pod_planned set claims pods (Err x) actions name uid e at = absurd (refused set (views_of set pods) x actions e)

-- ---- listed revisions

owned_listed : (set : SetParts) (revisions : List Object) (o : Object) → Contains (owned_of set revisions) o → Has o revisions × (in_namespace set kinds.ControllerRevision o ≡ true)
owned_listed set revisions o at =
    let IsListedHere : Object → Type 0 = λ x. Has x revisions × (in_namespace set kinds.ControllerRevision x ≡ true) in
    among_all IsListedHere (owned_of set revisions) o (of_owned IsListedHere set revisions (λ x there near. (there, near))) (among_contained (owned_of set revisions) o at)

owned_in : List Object → Result revision_plans.PlanParts PlanError → List Object
owned_in d (Ok (created o)) = d
owned_in d (Ok (renumbered o)) = d
owned_in d (Ok (settled owned current update)) = owned
owned_in d (Err e) = d

created_only : (d : List Object) (r : Result Object PlanError) → owned_in d (r >>= λ o. Ok (created o)) ≡ d
unfolding owned_in
created_only d (Ok o) = refl
created_only d (Err e) = refl

chosen : (set : SetParts) (held : List ℕ → Bool) (digits : ℕ) (owned : List Object) (x : choice.Choice) → owned_in owned (revision_plans.plan_by set held digits owned x) ≡ owned
unfolding owned_in
chosen set held digits owned (choice.in_place o) = refl
chosen set held digits owned (choice.to_renumber o) = refl
chosen set held digits owned choice.to_create = created_only owned (revision_plans.creation set held digits (choice.greatest owned + 1))

planned_owned : (set : SetParts) (held : List ℕ → Bool) (digits : ℕ) (owned : List Object) → owned_in owned (plan_of set held digits owned) ≡ owned
unfolding plan_of owned_in
planned_owned set held digits owned =
    let x = choice.choice_of (choice.data_with set.template) owned in
    elim (revision_plans.is_sound set owned x) as (λ b. owned_in owned (cond b (Ok x) (Err errors.BadSpec) >>= λ y. revision_plans.plan_by set held digits owned y) ≡ owned) [
      | true ↦ chosen set held digits owned x
      | false ↦ refl
    ]

revision_kind : (kind : Kind) → is_kind kinds.ControllerRevision kind ≡ true → kind ≡ kinds.ControllerRevision
revision_kind kinds.StatefulSet h = absurd (true≢false (sym h))
revision_kind kinds.Pod h = absurd (true≢false (sym h))
revision_kind kinds.PersistentVolumeClaim h = absurd (true≢false (sym h))
revision_kind kinds.ControllerRevision h = refl

revision_planned : (set : SetParts) (claims : Claims) (views : List PodParts) (revisions : List Object) (p : Result revision_plans.PlanParts PlanError) (actions : List Action) (name : List ℕ) (uid version : ℕ)
    → owned_in (owned_of set revisions) p ≡ owned_of set revisions → plan_by set claims views p ≡ Ok actions → Contains actions (DeleteRevision name uid version)
    → IsListed revisions kinds.ControllerRevision set.object.key.namespace name uid
unfolding plan_by owned_in
revision_planned set claims views revisions (Ok (created x)) actions name uid version own e at =
    let clash : WriteRevision x ≡ DeleteRevision name uid version = writes_alone actions x (DeleteRevision name uid version) (created_alone set claims views actions x e) at in absurd (cc)
revision_planned set claims views revisions (Ok (renumbered x)) actions name uid version own e at =
    let clash : WriteRevision x ≡ DeleteRevision name uid version = writes_alone actions x (DeleteRevision name uid version) (renumbered_alone set claims views actions x e) at in absurd (cc)
revision_planned set claims views revisions (Ok (settled owned current update)) actions name uid version own e at =
    let d = deletes_controlled set claims views owned current update actions name uid version e at in
    let o : Object = d.0 in
    let there = owned_listed set revisions o (subst (λ (l : List Object). Contains l o) own d.1) in
    let parts = and_parts (is_kind kinds.ControllerRevision o.key.kind) _ there.1 in
    let space : o.key.namespace ≡ set.object.key.namespace = (bytes_eq-Decides o.key.namespace set.object.key.namespace).0 parts.1 in
    (o, there.0, (λ j. key_parts (revision_kind o.key.kind parts.0 j) (space j) (d.2 j)), d.3)
revision_planned set claims views revisions (Err x) actions name uid version own e at = absurd (refused set views x actions e)

-- ---- soundness

one_write : (os : List Object) (b : Bool) (x y : Request) (r : Request) → IsAction os x → IsAction os y → r ≡ cond b x y → IsAction os r
one_write os true x y r at_x at_y is = subst (IsAction os) (sym is) at_x
one_write os false x y r at_x at_y is = subst (IsAction os) (sym is) at_y

only : (os : List Object) (x r : Request) → IsAction os x → Has r (x ∷ []) → IsAction os r
only os x r at (inl is) = subst (IsAction os) (sym is) at
only os x r at (inr none) = absurd none

action_is : (set : SetParts) (digits : ℕ) (moment : List ℕ) (revisions pods claims : List Object) (actions : List Action) (a : Action) (r : Request) → plan_of_lists set digits revisions pods claims ≡ Ok actions
    → Contains actions a → Has r (request_of set.object.key.namespace moment a) → IsAction (revisions ++ pods) r
unfolding plan_of_lists
action_is set digits moment revisions pods claims actions (CreateClaim o) r e at h = only (revisions ++ pods) _ r tt h
action_is set digits moment revisions pods claims actions (CreatePod o) r e at h = only (revisions ++ pods) _ r tt h
action_is set digits moment revisions pods claims actions (DeletePod name uid) r e at h =
    let p = pod_planned set (listed_claim set claims) pods (plan_of set (is_held (listed set revisions)) digits (owned_of set revisions)) actions name uid e at in
    named (revisions ++ pods) kinds.Pod set.object.key.namespace name uid None (Some moment) r p.0 h (among_right p.0 revisions pods p.1) p.2 p.3
action_is set digits moment revisions pods claims actions (UpdateClaim o) r e at h = only (revisions ++ pods) _ r tt h
action_is set digits moment revisions pods claims actions (WriteRevision o) r e at h =
    elim h [ inl is ↦ one_write (revisions ++ pods) (o.meta.uid == 0) (Create (draft o)) (Update (as_read o)) r tt tt is | inr none ↦ absurd none ]
action_is set digits moment revisions pods claims actions (DeleteRevision name uid version) r e at h =
    let p = revision_planned set (listed_claim set claims) (views_of set pods) revisions (plan_of set (is_held (listed set revisions)) digits (owned_of set revisions)) actions name uid version
    (planned_owned set (is_held (listed set revisions)) digits (owned_of set revisions)) e at in
    named (revisions ++ pods) kinds.ControllerRevision set.object.key.namespace name uid _ None r p.0 h (among_left p.0 revisions pods p.1) p.2 p.3
action_is set digits moment revisions pods claims actions (WriteStatus o) r e at h = only (revisions ++ pods) _ r tt h
action_is set digits moment revisions pods claims actions (Wait cause name) r e at h = absurd h

plan_is_sound : (set : Object) (digits : ℕ) (moment : List ℕ) (revisions pods claims : List Object) (r : Request) → Has r (or_none (requested set digits moment revisions pods claims)) → IsAction (revisions ++ pods) r
unfolding requested requested_for
plan_is_sound o digits moment revisions pods claims r at = read (set_of o) at
  where
    made : (set : SetParts) (p : Result (List Action) PlanError) → plan_of_lists set digits revisions pods claims ≡ p → Has r (or_none (p >>= λ actions. Ok (requests_of set.object.key.namespace moment actions))) → IsAction (revisions ++ pods) r
    made set (Err e) is h = absurd h
    made set (Ok actions) is h =
        let x = in_requests set.object.key.namespace moment actions r h in
        action_is set digits moment revisions pods claims actions x.0 r is (contains_among x.0 actions x.1) x.2

    read : (s : Result SetParts PlanError) → Has r (or_none (s >>= λ set. requested_for set digits moment revisions pods claims)) → IsAction (revisions ++ pods) r
    read (Err e) h = absurd h
    read (Ok set) h = made set (plan_of_lists set digits revisions pods claims) refl h

pub is_sound : (set : Key) (digits : ℕ) (moment : List ℕ) → IsSound (reconciler_with set digits moment)
is_sound set digits moment = record {
  plans = λ o revisions pods claims r at. plan_is_sound o digits moment revisions pods claims r at;
  collects = λ claims owners at r there.
      let c = claim_of claims owners at r there in
      record { claim = c.0; among = c.1.0; collectable = c.1.1.0; deletes = c.1.1.1 };
}
