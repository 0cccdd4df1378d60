-- Each action of a plan is about an object as the store has it, or makes one where there is none.
use Rattle.std.proofs.Common.{◌≡◌, ◌≢◌, ◌-◌, inl, inr, ℕ, Bool, true, false, cond, not, if◌then◌else◌, List, [], ◌∷◌, ◌++◌, map, length, find, bytes_eq, option_and_then, Option, Some, None, Result, Ok, Err, refl, sym, ap, ◌∙◌, subst, true≢false}
use Rattle.std.specs.Prelude.{◌&&◌, ◌+◌, IfSome}
use Rattle.std.specs.FinMap as finite
use Rattle.std.specs.List.{AllByRecursion, Contains, flat_map, list_any}
use Rattle.std.specs.Option.{option_map_or}
use Rattle.std.proofs.lemmas.Bool.{and_parts}
use Rattle.std.proofs.lemmas.Option.{same_Some}
use Rattle.std.proofs.lemmas.Slice.Eq.{bytes_eq-Decides}
use Rattle.serde_json.specs.Data.{Data, object}
use Rattle.objects.specs.declared.key.Key.{Key}
use Rattle.objects.specs.declared.kind.Kind.{Kind}
use Rattle.objects.specs.declared.kind.Kind.TheVariants as kinds
use Rattle.objects.specs.declared.object.Object.{Object}
use Rattle.objects.specs.Key.{key_parts}
use Rattle.objects.specs.PodNames.{claim_name}
use Rattle.requests.specs.Lists.{Has as Among}
use Rattle.set_views.specs.declared.fault.PlanError.{PlanError}
use Rattle.set_views.specs.declared.fault.PlanError.TheVariants.{BadSpec, NameTooLong}
use Rattle.set_views.specs.Claims.{Claim}
use Rattle.set_views.specs.Firsts.{is_held}
use Rattle.set_views.specs.Predicates.{in_namespace, is_kind}
use Rattle.set_views.specs.Set.{SetParts}
use Rattle.set_views.specs.Steps.{◌>>=◌, guarded}
use Rattle.revisions.specs.Choice as choice
use Rattle.revisions.specs.History.{expired_revisions, history, is_live}
use Rattle.revisions.specs.Plan as revision_plans
use Rattle.revisions.specs.Plan.{created, plan_of, renumbered, settled}
use Rattle.revisions.specs.Revision.{listed as listed_revisions}
use Rattle.manifests.specs.BuiltClaim.{built_claim}
use Rattle.manifests.specs.BuiltStatus.{StatusParts, built_status, differs, new_status, old_status, set_with}
use Rattle.claims.specs.declared.change.ClaimChange.{ClaimChange}
use Rattle.claims.specs.declared.change.ClaimChange.TheVariants as changes
use Rattle.claims.specs.Changes.{all_creates_and_updates, create_or_update, entries_of, keep_claims, make_claims, release_claims, update as update_claim, with_owner_entries}
use Rattle.claims.specs.Owners.{are_wanted, owner_in_range, owner_of_condemned, wanted_entries}
use Rattle.pod_steps.specs.declared.replica.Replica.{Replica}
use Rattle.pod_steps.specs.declared.step.Step.{Step}
use Rattle.pod_steps.specs.declared.step.Step.TheVariants as steps
use Rattle.pod_steps.specs.FullSteps.{full_steps}
use Rattle.pod_steps.specs.Step.{is_of_pod}
use Rattle.plain_store.specs.AtKey.{Has}
use Rattle.plain_store.specs.Store.{Store, collection}
use Rattle.plain_store.proofs.CompleteLists.{listed, listed_there}
use Rattle.rounds.proofs.Lists.{among_contained, contains_among}
use Rattle.sets.specs.declared.action.Action.{Action}
use Rattle.sets.specs.declared.action.Action.TheVariants.{WriteStatus}
use Rattle.sets.specs.Actions.{actions_of, changes_in, claim_actions, name_at}
use Rattle.sets.specs.FullPlan.{current_name, deletion, deletions, full_plan, status_of, status_write}
use Rattle.sets.specs.Plan.{most_actions}
use Rattle.sets.specs.PlanOfLists.{owned_of}
use Rattle.sets.proofs.Ordered.{all_among}
use Rattle.controllers.specs.Planned.{request_of}
use Rattle.controllers.proofs.OwnedRevisions.{of_owned}
use Rattle.resting.specs.Accepting.{IsAcceptable}
use Rattle.resting.specs.Acting.{IsPlannedOver, MayAct, planned_requests, views_in}
use Rattle.resting.specs.Still.{listed_in}
use Rattle.resting.proofs.AcceptablePlans.{IsUpToDate, acceptable}
use Rattle.resting.proofs.Pairs.{all_filtered, all_taken}
use Rattle.resting.proofs.PlanLists.{all_append, all_by, all_filter_map, all_flat, pod_key}
use Rattle.resting.proofs.PlansOnPods.{deleted_pod, key_at, nothing_there, there_by}
use Rattle.resting.proofs.RoundsOnPods.{are_claims, claims_there, may_send, replicas_are, sent_is}

-- ---- lists
pub found_there : (p : Object → Bool) (xs : List Object) (x : Object) → find p xs ≡ Some x → Among x xs
found_there p [] x is = absurd (cc)
found_there p (y ∷ ys) x is =
    elim (p y) as (λ b. cond b (Some y) (find p ys) ≡ Some x → Among x (y ∷ ys)) [
      | true ↦ λ e. inl (sym (same_Some y x e))
      | false ↦ λ e. inr (found_there p ys x e)
    ] is

pub none_found : (p : Object → Bool) (xs : List Object) (x : Object) → find p xs ≡ None → Among x xs → p x ≡ false
none_found p [] x none at = absurd at
none_found p (y ∷ ys) x none at =
    elim (p y) as (λ b. p y ≡ b → cond b (Some y) (find p ys) ≡ None → p x ≡ false) [
      | true ↦ λ t e. absurd (cc)
      | false ↦ λ t e. elim at [
        | inl is ↦ ap p is ∙ t
        | inr later ↦ none_found p ys x e later
      ]
    ] refl none

-- ---- revisions that are owned
owned_in : List Object → Result revision_plans.PlanParts PlanError → List Object
owned_in d (Ok (created o)) = d
owned_in d (Ok (renumbered o)) = d
owned_in d (Ok (settled owned current update)) = owned
owned_in d (Err e) = d

created_only : (d : List Object) (r : Result Object PlanError) → owned_in d (r >>= λ o. Ok (created o)) ≡ d
unfolding owned_in
created_only d (Ok o) = refl
created_only d (Err e) = refl

chosen : (set : SetParts) (held : List ℕ → Bool) (digits : ℕ) (owned : List Object) (x : choice.Choice) → owned_in owned (revision_plans.plan_by set held digits owned x) ≡ owned
unfolding owned_in
chosen set held digits owned (choice.in_place o) = refl
chosen set held digits owned (choice.to_renumber o) = refl
chosen set held digits owned choice.to_create = created_only owned (revision_plans.creation set held digits (choice.greatest owned + 1))

planned_owned : (set : SetParts) (held : List ℕ → Bool) (digits : ℕ) (owned : List Object) → owned_in owned (plan_of set held digits owned) ≡ owned
unfolding plan_of owned_in
planned_owned set held digits owned =
    let x = choice.choice_of (choice.data_with set.template) owned in
    elim (revision_plans.is_sound set owned x) as (λ b. owned_in owned (cond b (Ok x) (Err BadSpec) >>= λ y. revision_plans.plan_by set held digits owned y) ≡ owned) [
      | true ↦ chosen set held digits owned x
      | false ↦ refl
    ]

pub settled_owned : (set : SetParts) (held : List ℕ → Bool) (digits : ℕ) (all owned : List Object) (current update : Object) → plan_of set held digits all ≡ Ok (settled owned current update) → owned ≡ all
unfolding owned_in
settled_owned set held digits all owned current update is = ap (owned_in all) (sym is) ∙ planned_owned set held digits all

is_revision : (kind : Kind) → is_kind kinds.ControllerRevision kind ≡ true → kind ≡ kinds.ControllerRevision
is_revision kinds.StatefulSet h = absurd (cc)
is_revision kinds.Pod h = absurd (cc)
is_revision kinds.PersistentVolumeClaim h = absurd (cc)
is_revision kinds.ControllerRevision h = refl

-- ---- the plan
module _ (set : SetParts) (digits : ℕ) (moment : List ℕ) (s : Store) (plan : IsPlannedOver set digits s) (some : moment ≢ []) (may : MayAct set most_actions s) (is_there : Has s set.object.key set.object) where
  abbrev space : List ℕ
  space = set.object.key.namespace

  abbrev Fine : Action → Type 0
  Fine = IsUpToDate s set

  abbrev IsOfClaim : ClaimChange → Type 0
  IsOfClaim (changes.Create o) = finite.get s.objects o.key ≡ None
  IsOfClaim (changes.Update o) = (there : Object) × Has s o.key there × (o.meta ≡ there.meta) × (there.key.kind ≡ kinds.PersistentVolumeClaim)

  abbrev claims : List ℕ → Option Object
  claims = claims_there set digits moment s plan

  pub claim_there : (name : List ℕ) (o : Object) → claims name ≡ Some o → Has s o.key o
  claim_there name o is =
      let os = collection s.objects kinds.PersistentVolumeClaim space in
      let test : Object → Bool = λ x. in_namespace set kinds.PersistentVolumeClaim x && bytes_eq x.key.name name in
      (listed_there s.objects kinds.PersistentVolumeClaim space o may.filed (contains_among o os (found_there test os o is))).0

  pub claim_free : (name : List ℕ) → claims name ≡ None → finite.get s.objects (key_parts kinds.PersistentVolumeClaim space name) ≡ None
  claim_free name none =
      let os = collection s.objects kinds.PersistentVolumeClaim space in
      let k = key_parts kinds.PersistentVolumeClaim space name in
      let test : Object → Bool = λ x. in_namespace set kinds.PersistentVolumeClaim x && bytes_eq x.key.name name in
      elim (finite.get s.objects k) as (λ x. finite.get s.objects k ≡ x → x ≡ None) [
        | None ↦ λ h. refl
        | Some o ↦ λ h.
            let key : o.key ≡ k = may.filed k o h in
            let same_space : bytes_eq space space ≡ true = (bytes_eq-Decides space space).1 refl in
            let at = among_contained os o (listed s.objects kinds.PersistentVolumeClaim space k o h same_space) in
            let passes : test o ≡ true =
            ap (λ (q : Key). (is_kind kinds.PersistentVolumeClaim q.kind && bytes_eq q.namespace space) && bytes_eq q.name name) key
            ∙ λ j. same_space j && (bytes_eq-Decides name name).1 refl j in
            absurd (true≢false (sym passes ∙ none_found test os o none at))
      ] refl

  of_update : (kept : Bool) (claim : Object) (entries : List Data) → Has s claim.key claim → claim.key.kind ≡ kinds.PersistentVolumeClaim → IfSome (if kept then None else Some (changes.Update (with_owner_entries claim entries))) IsOfClaim
  of_update true claim entries at kind = tt
  of_update false claim entries at kind = (claim, at, refl, kind)

  of_found : (f : Object → Option ClaimChange) (found : Option Object) → ((o : Object) → found ≡ Some o → IfSome (f o) IsOfClaim) → IfSome (option_and_then f found) IsOfClaim
  of_found f None each = tt
  of_found f (Some claim) each = each claim refl

  claim_kind : (name : List ℕ) (o : Object) → claims name ≡ Some o → o.key.kind ≡ kinds.PersistentVolumeClaim
  claim_kind name o is = are_claims set (listed_in s set.object.key kinds.PersistentVolumeClaim) name o is

  kept_ones : (i : ℕ) → AllByRecursion IsOfClaim (keep_claims set claims i)
  kept_ones i =
      all_filter_map IsOfClaim (λ (c : Claim). option_and_then (update_claim set (name_at set i) (owner_in_range set)) (claims (claim_name c.0 set.object.key.name i))) set.claims
      (λ c. of_found (update_claim set (name_at set i) (owner_in_range set)) (claims (claim_name c.0 set.object.key.name i))
      (λ o is. of_update (are_wanted set (name_at set i) (owner_in_range set) (entries_of o)) o (wanted_entries set (name_at set i) (owner_in_range set) (entries_of o)) (claim_there (claim_name c.0 set.object.key.name i) o is) (claim_kind (claim_name c.0 set.object.key.name i) o is)))

  released_ones : (i uid : ℕ) → AllByRecursion IsOfClaim (release_claims set claims i uid)
  released_ones i uid =
      all_filter_map IsOfClaim (λ (c : Claim). option_and_then (update_claim set (name_at set i) (owner_of_condemned set uid)) (claims (claim_name c.0 set.object.key.name i))) set.claims
      (λ c. of_found (update_claim set (name_at set i) (owner_of_condemned set uid)) (claims (claim_name c.0 set.object.key.name i))
      (λ o is. of_update (are_wanted set (name_at set i) (owner_of_condemned set uid) (entries_of o)) o (wanted_entries set (name_at set i) (owner_of_condemned set uid) (entries_of o)) (claim_there (claim_name c.0 set.object.key.name i) o is) (claim_kind (claim_name c.0 set.object.key.name i) o is)))

  of_template : (i : ℕ) (c : Claim) (found : Option Object) → claims (claim_name c.0 set.object.key.name i) ≡ found → IfSome (create_or_update set i c found) IsOfClaim
  unfolding built_claim
  of_template i c None is = claim_free (claim_name c.0 set.object.key.name i) is
  of_template i c (Some o) is =
      of_update (are_wanted set (name_at set i) (owner_in_range set) (entries_of o)) o (wanted_entries set (name_at set i) (owner_in_range set) (entries_of o)) (claim_there (claim_name c.0 set.object.key.name i) o is) (claim_kind (claim_name c.0 set.object.key.name i) o is)

  of_templates : (i : ℕ) → AllByRecursion IsOfClaim (all_creates_and_updates set claims i set.claims)
  of_templates i =
      all_filter_map IsOfClaim (λ (c : Claim). create_or_update set i c (claims (claim_name c.0 set.object.key.name i))) set.claims (λ c. of_template i c (claims (claim_name c.0 set.object.key.name i)) refl)

  of_guarded : (b : Bool) (made : List ClaimChange) → AllByRecursion IsOfClaim made → AllByRecursion IsOfClaim (changes_in (guarded NameTooLong b made))
  of_guarded true made all = all
  of_guarded false made all = tt

  of_changes : (made : List ClaimChange) → AllByRecursion IsOfClaim made → AllByRecursion Fine (claim_actions made)
  of_changes [] all = tt
  of_changes (changes.Create o ∷ rest) all = (all.0, of_changes rest all.1)
  of_changes (changes.Update o ∷ rest) all = (all.0, of_changes rest all.1)

  of_deleted : (i uid : ℕ) → Contains (full_steps set plan.pods) (steps.DeletePod i uid) → (there : Object) × Has s (pod_key set i) there × (there.meta.uid ≡ uid)
  of_deleted i uid at =
      let d = deleted_pod set claims plan.owned plan.current plan.update plan.pods moment s (claim_kind) (replicas_are set digits moment s plan) some (may_send set digits moment s plan some may) i uid at in
      let t = there_by set claims plan.owned plan.current plan.update plan.pods moment s (claim_kind) (replicas_are set digits moment s plan) some (may_send set digits moment s plan some may) i d.0 d.1 in
      let o : Object = t.0 in
      let P : Key → Type 0 = λ k. Has s k o in
      (o, subst P (key_at set s i o t.1) t.1.0.0, ap (λ (z : Replica). z.uid) t.2 ∙ d.2)

  of_step : (x : Step) → Contains (full_steps set plan.pods) x → AllByRecursion Fine (actions_of set claims plan.current plan.update x)
  unfolding actions_of
  of_step (steps.MakeClaims i) at = of_changes (changes_in (make_claims set claims i)) (of_guarded _ (all_creates_and_updates set claims i set.claims) (of_templates i))
  of_step (steps.KeepClaims i) at = of_changes (keep_claims set claims i) (kept_ones i)
  of_step (steps.ReleaseClaims i uid) at = of_changes (release_claims set claims i uid) (released_ones i uid)
  of_step (steps.CreatePod i revision) at =
      (nothing_there set claims plan.owned plan.current plan.update plan.pods moment s (claim_kind) (replicas_are set digits moment s plan) some (may_send set digits moment s plan some may) i revision at, tt)
  of_step (steps.DeletePod i uid) at = (of_deleted i uid at, tt)
  of_step (steps.Wait i cause) at = (tt, tt)

  -- ---- the history and the status
  abbrev IsListed : Object → Type 0
  IsListed o = Has s (key_parts kinds.ControllerRevision space o.key.name) o

  owned_listed : AllByRecursion IsListed plan.owned
  owned_listed =
      let os = listed_in s set.object.key kinds.ControllerRevision in
      let each : (o : Object) → Among o os → in_namespace set kinds.ControllerRevision o ≡ true → IsListed o = λ o at near.
      let parts = and_parts (is_kind kinds.ControllerRevision o.key.kind) (bytes_eq o.key.namespace space) near in
      let key : o.key ≡ key_parts kinds.ControllerRevision space o.key.name = λ j. key_parts (is_revision o.key.kind parts.0 j) ((bytes_eq-Decides o.key.namespace space).0 parts.1 j) o.key.name in
      let P : Key → Type 0 = λ k. Has s k o in
      subst P key (listed_there s.objects kinds.ControllerRevision space o may.filed (contains_among o os at)).0 in
      subst (AllByRecursion IsListed) (sym (settled_owned set (is_held (listed_revisions set os)) digits (owned_of set os) plan.owned plan.current plan.update plan.in_place)) (of_owned IsListed set os each)

  of_gone : (os : List Object) → AllByRecursion IsListed os → AllByRecursion Fine (map deletion os)
  of_gone [] all = tt
  of_gone (o ∷ os) all = ((o, all.0, refl, refl), of_gone os all.1)

  of_deletions : (b : Bool) (current update : List ℕ) → AllByRecursion Fine (if b then [] else map deletion (expired_revisions set (views_in set s) current update plan.owned))
  of_deletions true current update = tt
  of_deletions false current update =
      of_gone (expired_revisions set (views_in set s) current update plan.owned)
      (all_taken IsListed (length (history set (views_in set s) current update plan.owned) - set.history_limit) (history set (views_in set s) current update plan.owned)
      (all_filtered IsListed (λ o. not (is_live set (views_in set s) current update o.key.name)) plan.owned owned_listed))

  of_status : (parts : StatusParts) → AllByRecursion Fine (status_write set parts)
  unfolding built_status
  of_status parts =
      let status = object (new_status set parts (old_status set)) in
      elim (differs set status) as (λ b. AllByRecursion Fine (option_map_or (λ o. WriteStatus o ∷ []) (if b then Some (set_with set status) else None) [])) [
        | true ↦ ((set.object, is_there, refl, may.kind), tt)
        | false ↦ tt
      ]

  pub all_up_to_date : AllByRecursion Fine (full_plan set claims (views_in set s) plan.owned plan.current plan.update plan.pods)
  unfolding full_plan
  all_up_to_date =
      let all = full_steps set plan.pods in
      let name = current_name set plan.pods plan.current plan.update in
      let done = flat_map (actions_of set claims plan.current plan.update) all in
      let gone = deletions set (views_in set s) plan.owned name plan.update.key.name all in
      let each = all_among (λ x. AllByRecursion Fine (actions_of set claims plan.current plan.update x)) all (λ x at. of_step x (contains_among x all at)) in
      all_append Fine (done ++ gone) (status_write set (status_of set plan.pods name plan.update.key.name))
      (all_append Fine done gone (all_flat Fine (actions_of set claims plan.current plan.update) all each) (of_deletions (list_any is_of_pod all) name plan.update.key.name))
      (of_status (status_of set plan.pods name plan.update.key.name))

  pub all_acceptable : AllByRecursion (IsAcceptable s) (planned_requests set digits moment s)
  all_acceptable =
      let full = full_plan set claims (views_in set s) plan.owned plan.current plan.update plan.pods in
      subst (AllByRecursion (IsAcceptable s)) (sym (sent_is set digits moment s plan))
      (all_flat (IsAcceptable s) (request_of space moment) full (all_by Fine (λ a. AllByRecursion (IsAcceptable s) (request_of space moment a)) full (acceptable s set moment) all_up_to_date))
