-- Which claims a plan creates and updates.
use Rattle.std.proofs.Common.{◌≡◌, ◌⊎◌, inl, inr, ℕ, Bool, true, false, cond, List, [], ◌∷◌, Option, Some, None, Ok, refl, sym, ap, ◌∙◌, subst}
use Rattle.std.proofs.lemmas.List.Elements.{Contains-append_cases, Contains-append_left, Contains-append_right}
use Rattle.std.specs.List.{Contains, cons_option, filter_map}
use Rattle.std.specs.Prelude.{option_and_then}
use Rattle.serde_json.specs.Data.{Data}
use Rattle.serde_json.specs.View.{items_of}
use Rattle.objects.specs.declared.object.Object.{Object}
use Rattle.objects.specs.PodNames.{claim_name}
use Rattle.set_views.specs.declared.fault.PlanError.TheVariants.{NameTooLong}
use Rattle.set_views.specs.declared.policies.Retention.TheVariants.{Retain}
use Rattle.set_views.specs.Claims.{Claim}
use Rattle.set_views.specs.Pod.{PodParts}
use Rattle.set_views.specs.Set.{SetParts}
use Rattle.set_views.specs.Steps.{guarded}
use Rattle.pod_steps.specs.declared.step.Step.{Step}
use Rattle.pod_steps.specs.declared.step.Step.TheVariants as steps
use Rattle.pod_steps.proofs.ParallelPlans.{alone, nowhere, single}
use Rattle.manifests.specs.BuiltClaim.{built_claim}
use Rattle.claims.specs.declared.change.ClaimChange.{ClaimChange}
use Rattle.claims.specs.declared.change.ClaimChange.TheVariants.{Create, Update as Change}
use Rattle.claims.specs.Changes.{all_creates_and_updates, entries_of, keep_claims, create_or_update, make_claims, release_claims, update, with_owner_entries}
use Rattle.claims.specs.Owners.{owner_in_range, owner_of_condemned, wanted_entries}
use Rattle.claims.proofs.OwnerLaws.{retained_condemned, retained_in_range, strangers_stay, update_is}
use Rattle.sets.specs.declared.action.Action.{Action}
use Rattle.sets.specs.declared.action.Action.TheVariants.{CreateClaim, CreatePod, DeletePod, UpdateClaim, WriteRevision, DeleteRevision, WriteStatus, Wait}
use Rattle.sets.specs.Actions.{Claims, actions_of, changes_in, claim_action, claim_actions, name_at, new_pod, revision_of}
use Rattle.sets.specs.Laws.{IsUpdatedClaim, name_set_or_pod}
use Rattle.sets.specs.Plan.{plan_of_pods}
use Rattle.sets.proofs.Origins.{is_from_step, origin, planned_over}

-- ---- the change that an action comes from
change_in : Action → Option ClaimChange
change_in (CreateClaim o) = Some (Create o)
change_in (CreatePod o) = None
change_in (DeletePod name uid) = None
change_in (UpdateClaim o) = Some (Change o)
change_in (WriteRevision o) = None
change_in (DeleteRevision name uid version) = None
change_in (WriteStatus o) = None
change_in (Wait cause name) = None

own_change : (change : ClaimChange) → change_in (claim_action change) ≡ Some change
unfolding change_in
own_change (Create o) = refl
own_change (Change o) = refl

same_change : (a b : ClaimChange) → Some a ≡ Some b → a ≡ b
same_change a b e = cc

in_changes : (changes : List ClaimChange) (change : ClaimChange) → Contains (claim_actions changes) (claim_action change) → Contains changes change
in_changes [] change h = absurd (nowhere (claim_action change) h)
in_changes (first ∷ changes) change h =
    elim (Contains-append_cases (claim_action first ∷ []) (claim_actions changes) (claim_action change) h) [
      | inl k ↦
          let is : first ≡ change = same_change first change (sym (own_change first) ∙ (ap change_in (alone (claim_action first) (claim_action change) k) ∙ own_change change)) in
          Contains-append_left (first ∷ []) changes change (single first change is)
      | inr k ↦ Contains-append_right (first ∷ []) changes change (in_changes changes change k)
    ]

-- the change comes from a template
in_templates : (h : Claim → Option ClaimChange) (cs : List Claim) (change : ClaimChange) → Contains (filter_map h cs) change → (c : Claim) × Contains cs c × (h c ≡ Some change)
in_templates h [] change there = absurd (nowhere change there)
in_templates h (c ∷ cs) change there =
    elim (h c) as (λ o. h c ≡ o → Contains (cons_option o (filter_map h cs)) change → (x : Claim) × Contains (c ∷ cs) x × (h x ≡ Some change)) [
      | None ↦ λ e k. let r = in_templates h cs change k in (r.0, Contains-append_right (c ∷ []) cs r.0 r.1, r.2)
      | Some y ↦ λ e k. elim (Contains-append_cases (y ∷ []) (filter_map h cs) change k) [
        | inl m ↦ (c, Contains-append_left (c ∷ []) cs c (single c c refl), e ∙ ap Some (alone y change m))
        | inr m ↦ let r = in_templates h cs change m in (r.0, Contains-append_right (c ∷ []) cs r.0 r.1, r.2)
      ]
    ] refl there

-- and a change of a template is among all
pub from_template : (h : Claim → Option ClaimChange) (cs : List Claim) (c : Claim) (change : ClaimChange) → Contains cs c → h c ≡ Some change → Contains (filter_map h cs) change
from_template h [] c change there is = absurd (nowhere c there)
from_template h (x ∷ cs) c change there is =
    elim (Contains-append_cases (x ∷ []) cs c there) [
      | inl k ↦
          let here : h x ≡ Some change = ap h (alone x c k) ∙ is in
          let P : Option ClaimChange → Type 0 = λ o. Contains (cons_option o (filter_map h cs)) change in
          subst P (sym here) (Contains-append_left (change ∷ []) (filter_map h cs) change (single change change refl))
      | inr k ↦ elim (h x) as (λ o. Contains (cons_option o (filter_map h cs)) change) [
        | None ↦ from_template h cs c change k is
        | Some y ↦ Contains-append_right (y ∷ []) (filter_map h cs) change (from_template h cs c change k is)
      ]
    ]

in_guarded : (b : Bool) (changes : List ClaimChange) (change : ClaimChange) → Contains (changes_in (guarded NameTooLong b changes)) change → Contains changes change
in_guarded true changes change h = h
in_guarded false changes change h = absurd (nowhere change h)

-- ---- an update is of a listed claim, in range or condemned
abbrev IsInRange : SetParts → ℕ → Object → Object → Type 0
IsInRange set i claim changed = update set (name_at set i) (owner_in_range set) claim ≡ Some (Change changed)

abbrev IsOfCondemned : SetParts → ℕ → Object → Object → Type 0
IsOfCondemned set i claim changed = (uid : ℕ) × (update set (name_at set i) (owner_of_condemned set uid) claim ≡ Some (Change changed))

record IsFound (set : SetParts) (claims : Claims) (changed : Object) : Type 0 where
  i : ℕ
  c : Claim
  among : Contains set.claims c
  claim : Object
  listed : claims (claim_name c.0 set.object.key.name i) ≡ Some claim
  is : IsInRange set i claim changed ⊎ IsOfCondemned set i claim changed

is_change : Option ClaimChange → Bool
is_change None = false
is_change (Some (Create o)) = false
is_change (Some (Change o)) = true

module _ (set : SetParts) (claims : Claims) (changed : Object) where
  found_made : (i : ℕ) (c : Claim) (here : Option Object) → Contains set.claims c → claims (claim_name c.0 set.object.key.name i) ≡ here → create_or_update set i c here ≡ Some (Change changed) → IsFound set claims changed
  unfolding is_change
  found_made i c None among there is = let clash : false ≡ true = ap is_change is in absurd (cc)
  found_made i c (Some claim) among there is = record { i = i; c = c; among = among; claim = claim; listed = there; is = inl is }

  found_kept : (i : ℕ) (c : Claim) (here : Option Object) → Contains set.claims c → claims (claim_name c.0 set.object.key.name i) ≡ here → option_and_then (update set (name_at set i) (owner_in_range set)) here ≡ Some (Change changed) → IsFound set claims changed
  unfolding is_change
  found_kept i c None among there is = let clash : false ≡ true = ap is_change is in absurd (cc)
  found_kept i c (Some claim) among there is = record { i = i; c = c; among = among; claim = claim; listed = there; is = inl is }

  found_released : (i uid : ℕ) (c : Claim) (here : Option Object) → Contains set.claims c → claims (claim_name c.0 set.object.key.name i) ≡ here → option_and_then (update set (name_at set i) (owner_of_condemned set uid)) here ≡ Some (Change changed) → IsFound set claims changed
  unfolding is_change
  found_released i uid c None among there is = let clash : false ≡ true = ap is_change is in absurd (cc)
  found_released i uid c (Some claim) among there is = record { i = i; c = c; among = among; claim = claim; listed = there; is = inr (uid, is) }

  found_in_step : (current update : Object) (s : Step) → Contains (actions_of set claims current update s) (UpdateClaim changed) → IsFound set claims changed
  unfolding actions_of
  found_in_step current update (steps.MakeClaims i) h =
      let all = in_guarded _ (all_creates_and_updates set claims i set.claims) (Change changed) (in_changes (changes_in (make_claims set claims i)) (Change changed) h) in
      let r = in_templates (λ c. create_or_update set i c (claims (claim_name c.0 set.object.key.name i))) set.claims (Change changed) all in
      found_made i r.0 (claims (claim_name r.0.0 set.object.key.name i)) r.1 refl r.2
  found_in_step current update (steps.KeepClaims i) h =
      let r = in_templates _ set.claims (Change changed) (in_changes (keep_claims set claims i) (Change changed) h) in
      found_kept i r.0 (claims (claim_name r.0.0 set.object.key.name i)) r.1 refl r.2
  found_in_step current update (steps.ReleaseClaims i uid) h =
      let r = in_templates _ set.claims (Change changed) (in_changes (release_claims set claims i uid) (Change changed) h) in
      found_released i uid r.0 (claims (claim_name r.0.0 set.object.key.name i)) r.1 refl r.2
  found_in_step current update (steps.CreatePod i revision) h = let clash : CreatePod (new_pod set (revision_of current update revision) i) ≡ UpdateClaim changed = alone (CreatePod (new_pod set (revision_of current update revision) i)) (UpdateClaim changed) h in absurd (cc)
  found_in_step current update (steps.DeletePod i uid) h = let clash : DeletePod (name_at set i) uid ≡ UpdateClaim changed = alone (DeletePod (name_at set i) uid) (UpdateClaim changed) h in absurd (cc)
  found_in_step current update (steps.Wait i cause) h = let clash : Wait cause (name_at set i) ≡ UpdateClaim changed = alone (Wait cause (name_at set i)) (UpdateClaim changed) h in absurd (cc)

module _ (set : SetParts) (claims : Claims) (listed : List PodParts) (owned : List Object) (current update : Object) (actions : List Action) (changed : Object) (e : plan_of_pods set claims listed owned current update ≡ Ok actions) (h : Contains actions (UpdateClaim changed)) where
  found : IsFound set claims changed
  unfolding is_from_step
  found =
      let p = planned_over set claims listed owned current update actions e in
      let s = origin set claims listed owned current update actions p.0 (UpdateClaim changed) refl p.1 h in
      found_in_step set claims changed current update s.0 s.2

pub owners_alone : (set : SetParts) (claims : Claims) (listed : List PodParts) (owned : List Object) (current update : Object) (actions : List Action) (changed : Object) → plan_of_pods set claims listed owned current update ≡ Ok actions → Contains actions (UpdateClaim changed) → (i : ℕ) × (claim : Object) × (entries : List Data) × IsUpdatedClaim set claims i claim entries changed
owners_alone set claims listed owned current update actions changed e h =
    let f = found set claims listed owned current update actions changed e h in
    elim (f.is) [
      | inl is ↦ (
        f.i,
        f.claim,
        wanted_entries set (name_at set f.i) (owner_in_range set) (entries_of f.claim),
        record {
          listed = (f.c, f.among, f.listed);
          owners = sym (update_is set (name_at set f.i) (owner_in_range set) f.claim changed is);
          others = inl (strangers_stay set (name_at set f.i) (owner_in_range set) (entries_of f.claim));
        },
      )
      | inr is ↦ (
        f.i,
        f.claim,
        wanted_entries set (name_at set f.i) (owner_of_condemned set is.0) (entries_of f.claim),
        record {
          listed = (f.c, f.among, f.listed);
          owners = sym (update_is set (name_at set f.i) (owner_of_condemned set is.0) f.claim changed is.1);
          others = inr (is.0, strangers_stay set (name_at set f.i) (owner_of_condemned set is.0) (entries_of f.claim));
        },
      )
    ]

pub updated_retained : (set : SetParts) (claims : Claims) (listed : List PodParts) (owned : List Object) (current update : Object) (actions : List Action) (changed : Object) → set.when_deleted ≡ Retain → set.when_scaled ≡ Retain → plan_of_pods set claims listed owned current update ≡ Ok actions → Contains actions (UpdateClaim changed) → (i : ℕ) × (claim : Object) × (entries : List Data) × (changed ≡ with_owner_entries claim entries) × (name_set_or_pod set i entries ≡ false)
updated_retained set claims listed owned current update actions changed deleted scaled e h =
    let f = found set claims listed owned current update actions changed e h in
    elim (f.is) [
      | inl is ↦ (
        f.i,
        f.claim,
        wanted_entries set (name_at set f.i) (owner_in_range set) (entries_of f.claim),
        sym (update_is set (name_at set f.i) (owner_in_range set) f.claim changed is),
        retained_in_range set (name_at set f.i) (entries_of f.claim) deleted,
      )
      | inr is ↦ (
        f.i,
        f.claim,
        wanted_entries set (name_at set f.i) (owner_of_condemned set is.0) (entries_of f.claim),
        sym (update_is set (name_at set f.i) (owner_of_condemned set is.0) f.claim changed is.1),
        retained_condemned set (name_at set f.i) is.0 (entries_of f.claim) deleted scaled,
      )
    ]

-- ---- new claims
is_create : Option ClaimChange → Bool
is_create None = false
is_create (Some (Create o)) = true
is_create (Some (Change o)) = false

object_of : Object → Option ClaimChange → Object
object_of d None = d
object_of d (Some (Create o)) = o
object_of d (Some (Change o)) = d

-- a claim of a new pod, for which the set may be an owner
record IsBuilt (set : SetParts) (claim : Object) : Type 0 where
  i : ℕ
  c : Claim
  is : claim ≡ built_claim set i (items_of (wanted_entries set (name_at set i) (owner_in_range set) [])) c

no_create_at : (b : Bool) (u claim : Object) → cond b None (Some (Change u)) ≡ Some (Create claim) → ⊥
unfolding is_create
no_create_at true u claim e = let clash : false ≡ true = ap is_create e in cc
no_create_at false u claim e = let clash : false ≡ true = ap is_create e in cc

none_created : (h : Object → Option ClaimChange) (claim : Object) → ((o : Object) → h o ≡ Some (Create claim) → ⊥) → (here : Option Object) → option_and_then h here ≡ Some (Create claim) → ⊥
unfolding is_create
none_created h claim none None e = let clash : false ≡ true = ap is_create e in cc
none_created h claim none (Some o) e = none o e

module _ (set : SetParts) (claims : Claims) (claim : Object) where
  built_made : (i : ℕ) (c : Claim) (here : Option Object) → create_or_update set i c here ≡ Some (Create claim) → IsBuilt set claim
  unfolding object_of
  built_made i c None is = record { i = i; c = c; is = sym (ap (object_of claim) is) }
  built_made i c (Some o) is = absurd (no_create_at _ (with_owner_entries o (wanted_entries set (name_at set i) (owner_in_range set) (entries_of o))) claim is)

  built_in_step : (current newest : Object) (s : Step) → Contains (actions_of set claims current newest s) (CreateClaim claim) → IsBuilt set claim
  unfolding actions_of
  built_in_step current newest (steps.MakeClaims i) h =
      let all = in_guarded _ (all_creates_and_updates set claims i set.claims) (Create claim) (in_changes (changes_in (make_claims set claims i)) (Create claim) h) in
      let r = in_templates (λ c. create_or_update set i c (claims (claim_name c.0 set.object.key.name i))) set.claims (Create claim) all in
      built_made i r.0 (claims (claim_name r.0.0 set.object.key.name i)) r.2
  built_in_step current newest (steps.KeepClaims i) h =
      let r = in_templates _ set.claims (Create claim) (in_changes (keep_claims set claims i) (Create claim) h) in
      absurd (none_created (update set (name_at set i) (owner_in_range set)) claim (λ o e. no_create_at _ (with_owner_entries o (wanted_entries set (name_at set i) (owner_in_range set) (entries_of o))) claim e) (claims (claim_name r.0.0 set.object.key.name i)) r.2)
  built_in_step current newest (steps.ReleaseClaims i uid) h =
      let r = in_templates _ set.claims (Create claim) (in_changes (release_claims set claims i uid) (Create claim) h) in
      absurd (none_created (update set (name_at set i) (owner_of_condemned set uid)) claim (λ o e. no_create_at _ (with_owner_entries o (wanted_entries set (name_at set i) (owner_of_condemned set uid) (entries_of o))) claim e) (claims (claim_name r.0.0 set.object.key.name i)) r.2)
  built_in_step current newest (steps.CreatePod i revision) h = let clash : CreatePod (new_pod set (revision_of current newest revision) i) ≡ CreateClaim claim = alone (CreatePod (new_pod set (revision_of current newest revision) i)) (CreateClaim claim) h in absurd (cc)
  built_in_step current newest (steps.DeletePod i uid) h = let clash : DeletePod (name_at set i) uid ≡ CreateClaim claim = alone (DeletePod (name_at set i) uid) (CreateClaim claim) h in absurd (cc)
  built_in_step current newest (steps.Wait i cause) h = let clash : Wait cause (name_at set i) ≡ CreateClaim claim = alone (Wait cause (name_at set i)) (CreateClaim claim) h in absurd (cc)

pub created_retained : (set : SetParts) (claims : Claims) (listed : List PodParts) (owned : List Object) (current update : Object) (actions : List Action) (claim : Object) → set.when_deleted ≡ Retain → set.when_scaled ≡ Retain → plan_of_pods set claims listed owned current update ≡ Ok actions → Contains actions (CreateClaim claim) → (i : ℕ) × (c : Claim) × (entries : List Data) × (claim ≡ built_claim set i (items_of entries) c) × (name_set_or_pod set i entries ≡ false)
unfolding is_from_step
created_retained set claims listed owned current update actions claim deleted scaled e h =
    let p = planned_over set claims listed owned current update actions e in
    let s = origin set claims listed owned current update actions p.0 (CreateClaim claim) refl p.1 h in
    let b = built_in_step set claims claim current update s.0 s.2 in
    (b.i, b.c, wanted_entries set (name_at set b.i) (owner_in_range set) [], b.is, retained_in_range set (name_at set b.i) [] deleted)
