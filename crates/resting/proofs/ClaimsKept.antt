-- After a plan that keeps the claims of the ordinals in range these have the owners that they are to have.
use Rattle.std.proofs.Common.{◌≡◌, ◌≢◌, inl, inr, ◌+◌, ◌<◌, ◌^◌, ◌≤◌, ℕ, zero, suc, Bool, true, false, not, if◌then◌else◌, List, [], ◌∷◌, ◌++◌, codes, map, bytes_eq, option_and_then, unwrap_or, Option, Some, None, Ok, arith, refl, sym, ap, ◌∙◌, subst, true≢false}
use Rattle.std.specs.Prelude.{◌&&◌}
use Rattle.std.specs.FinMap as finite
use Rattle.std.specs.List.{AllByRecursion, filter_map, flat_map, list_any, range_with_len, cons_option}
use Rattle.std.proofs.lemmas.Option.{same_Some}
use Rattle.serde_json.specs.Data.{Data, Items, array, boolean, no_items, null, number, object, string}
use Rattle.serde_json.specs.Find.{as_object}
use Rattle.serde_json.specs.View.{items_of}
use Rattle.objects.specs.declared.key.Key.{Key}
use Rattle.objects.specs.declared.kind.Kind.{Kind}
use Rattle.objects.specs.declared.kind.Kind.TheVariants as kinds
use Rattle.objects.specs.declared.object.Draft.{Draft}
use Rattle.objects.specs.declared.object.Object.{Object}
use Rattle.objects.specs.Key.{key_parts}
use Rattle.objects.specs.Metadata.{items_at, metadata_of, owners_of, with_owners}
use Rattle.objects.specs.PodNames.{claim_name}
use Rattle.objects.specs.Same.{same_data}
use Rattle.objects.specs.Status.{member_of, with_member}
use Rattle.objects.proofs.BodyMembers.{member_of-with_other}
use Rattle.objects.proofs.OwnerMembers.{owners_of-with_owners}
use Rattle.objects.proofs.PodNamesDiffer.{claim_names-differ}
use Rattle.objects.proofs.Sameness.{same-equal}
use Rattle.requests.specs.declared.request.Request.{Request}
use Rattle.requests.specs.declared.request.Request.TheVariants.{Update}
use Rattle.requests.specs.declared.reply.Reason.TheVariants.{Conflict, Invalid}
use Rattle.requests.specs.declared.verdict.Verdict.{Verdict}
use Rattle.requests.specs.declared.verdict.Verdict.TheVariants.{Refuse, Same, Write}
use Rattle.requests.specs.Change.{at_version, updates}
use Rattle.requests.specs.Keys.{key_named}
use Rattle.requests.specs.Lists.{Has as Among}
use Rattle.requests.specs.Verdict.{body_with_status, changes_data, has_status, on_update, same_member, unless_same, updated}
use Rattle.set_views.specs.Claims.{Claim}
use Rattle.set_views.specs.Predicates.{in_range}
use Rattle.set_views.specs.Set.{SetParts}
use Rattle.set_views.specs.SetReading.{set_of}
use Rattle.manifests.specs.Arrays.{list_of}
use Rattle.claims.specs.declared.change.ClaimChange.{ClaimChange}
use Rattle.claims.specs.declared.change.ClaimChange.TheVariants as changes
use Rattle.claims.specs.Changes.{entries_of, items_if_any, keep_claims, update as update_claim, with_owner_entries}
use Rattle.claims.specs.Owners.{are_wanted, owner_in_range, wanted_entries}
use Rattle.claims.proofs.OwnerLaws.{wanted_again}
use Rattle.pod_steps.specs.declared.step.Step.{Step}
use Rattle.pod_steps.specs.declared.step.Step.TheVariants.{KeepClaims}
use Rattle.pod_steps.specs.FullSteps.{full_steps, keep_steps}
use Rattle.pod_steps.specs.Replicas.{ordinals}
use Rattle.pod_steps.specs.Step.{is_of_pod}
use Rattle.pod_steps.proofs.Found.{cases_eq}
use Rattle.pod_steps.proofs.OrderedReadyPlans.{bounds}
use Rattle.pod_steps.proofs.Firsts.{replicas_in_order}
use Rattle.convergence.specs.Standing.{Stands}
use Rattle.convergence.proofs.Standing.{standing}
use Rattle.plain_store.specs.AtKey.{Has}
use Rattle.plain_store.specs.StatusWrites.{HasMembers}
use Rattle.plain_store.specs.Store.{Store}
use Rattle.rounds.proofs.Lists.{among_either}
use Rattle.sets.specs.declared.action.Action.{Action}
use Rattle.sets.specs.declared.action.Action.TheVariants.{UpdateClaim}
use Rattle.sets.specs.Actions.{Claims, actions_of, claim_action, name_at}
use Rattle.sets.specs.FullPlan.{current_name, deletions, full_plan, status_of, status_write}
use Rattle.sets.specs.Plan.{most_actions}
use Rattle.sets.proofs.Ordered.{all_among}
use Rattle.revisions.specs.History.{expired_revisions}
use Rattle.controllers.specs.Planned.{as_read, request_of}
use Rattle.controllers.proofs.PlannedActions.{among_all, in_requests}
use Rattle.resting.specs.Accepting.{DoesAsAlone, IsLeftBy}
use Rattle.resting.specs.Acting.{IsPlannedOver, MayAct, after_plan, planned_requests, views_in}
use Rattle.resting.specs.Still.{listed_in}
use Rattle.resting.proofs.AcceptedPlans.{claim_key_is}
use Rattle.resting.proofs.Acts.{IsElsewhere, untouched}
use Rattle.resting.proofs.Alone.{plan_alone}
use Rattle.resting.proofs.Pairs.{among_flat, among_left, among_map, in_filter_map, in_flat, in_map, in_range_list}
use Rattle.resting.proofs.PlanApart.{claim_key, in_gone, of_action, of_status, target}
use Rattle.resting.proofs.RoundsOnPods.{claims_there, replicas_are, sent_is}
use Rattle.resting.proofs.Turns.{meets_its_own}
use Rattle.resting.proofs.TurnsOnPods.{metadata_is}
use Rattle.resting.proofs.UpToDate.{claim_free, claim_there}

-- ---- lists
range_among : (a n i : ℕ) → a ≤ i → i < a + n → Among i (range_with_len a n)
range_among a zero i from to = absurd (omega arith)
range_among a (suc n) i from to =
    elim (cases_eq a i from) [
      | inl same ↦ inl (sym same)
      | inr up ↦ inr (range_among (a + 1) n i (omega arith) (omega arith))
    ]

among_filter_map : {X Y : Type 0} (h : X → Option Y) (xs : List X) (x : X) (y : Y) → Among x xs → h x ≡ Some y → Among y (filter_map h xs)
among_filter_map h [] x y at is = absurd at
among_filter_map h (z ∷ xs) x y (inl same) is = subst (λ found. Among y (cons_option found (filter_map h xs))) (sym (ap h (sym same) ∙ is)) (inl refl)
among_filter_map h (z ∷ xs) x y (inr more) is =
    elim (h z) as (λ found. Among y (cons_option found (filter_map h xs))) [
      | None ↦ among_filter_map h xs x y more is
      | Some w ↦ inr (among_filter_map h xs x y more is)
    ]

-- ---- the entries of a claim that was updated
as_items : (ds : List Data) → list_of (items_of ds) ≡ ds
as_items [] = refl
as_items (d ∷ ds) = ap (λ rest. d ∷ rest) (as_items ds)

as_entries : (ds : List Data) → list_of (unwrap_or (items_if_any ds) no_items) ≡ ds
as_entries [] = refl
as_entries (d ∷ ds) = as_items (d ∷ ds)

not_metadata : codes "metadata" ≢ codes "status"
not_metadata same = true≢false (ap (λ (l : List ℕ). bytes_eq l (codes "metadata")) same)

-- a body whose status is replaced, and its owners before
abbrev renewed : Option Items → Option Data → Data → Data
renewed owners status body = with_member (codes "status") status (with_owners owners body)

its_members : (owners : Option Items) (status : Option Data) (body : Data) → HasMembers (renewed owners status body) → HasMembers body
its_members owners status null has = has
its_members owners status (boolean b) has = has
its_members owners status (number n) has = has
its_members owners status (string s) has = has
its_members owners status (array ds) has = has
its_members owners status (object ms) has = refl

owners_then : (owners : Option Items) (status : Option Data) (body : Data) → HasMembers body → owners_of (renewed owners status body) ≡ unwrap_or owners no_items
owners_then owners status null has = absurd (cc)
owners_then owners status (boolean b) has = absurd (cc)
owners_then owners status (number n) has = absurd (cc)
owners_then owners status (string s) has = absurd (cc)
owners_then owners status (array ds) has = absurd (cc)
owners_then owners status (object ms) has =
    let before = with_owners owners (object ms) in
    let same : metadata_of (renewed owners status (object ms)) ≡ metadata_of before =
    metadata_is (renewed owners status (object ms)) ∙ (ap (option_and_then as_object) (member_of-with_other (codes "metadata") (codes "status") status before not_metadata) ∙ sym (metadata_is before)) in
    ap (λ m. unwrap_or (option_and_then (items_at (codes "ownerReferences")) m) no_items) same ∙ owners_of-with_owners owners ms

-- ---- a plan that keeps claims, and does no more about them
module _ (set : SetParts) (digits : ℕ) (moment : List ℕ) (s : Store) (plan : IsPlannedOver set digits s) (some : moment ≢ []) (may : MayAct set most_actions s) (is_there : Has s set.object.key set.object) (is_read : set_of set.object ≡ Ok set)
    (kept : full_steps set plan.pods ≡ flat_map keep_steps (ordinals set) ++ []) where
  abbrev space : List ℕ
  space = set.object.key.namespace

  abbrev claims : Claims
  claims = claims_there set digits moment s plan

  abbrev full : List Action
  full = full_plan set claims (views_in set s) plan.owned plan.current plan.update plan.pods

  abbrev sent : List Request
  sent = planned_requests set digits moment s

  abbrev left : Store
  left = after_plan set digits moment s

  abbrev named : List ℕ → ℕ → List ℕ
  named template i = claim_name template set.object.key.name i

  abbrev wanted : ℕ → List Data → List Data
  wanted i entries = wanted_entries set (name_at set i) (owner_in_range set) entries

  abbrev pub is_wanted : ℕ → Object → Bool
  is_wanted i o = are_wanted set (name_at set i) (owner_in_range set) (entries_of o)

  abbrev renewal : ℕ → Object → Object
  renewal i o = with_owner_entries o (wanted i (entries_of o))

  -- the update of a claim that is there
  abbrev IsRenewal : List ℕ → ℕ → Request → Type 0
  IsRenewal template i r = (o : Object) × (claims (named template i) ≡ Some o) × (is_wanted i o ≡ false) × (r ≡ Update (as_read (renewal i o)))

  keyed : (name : List ℕ) (o : Object) → claims name ≡ Some o → o.key ≡ key_parts kinds.PersistentVolumeClaim space name
  keyed = claim_key_is set (listed_in s set.object.key kinds.PersistentVolumeClaim)

  by_update : (template : List ℕ) (i : ℕ) (change : ClaimChange) (r : Request) → option_and_then (update_claim set (name_at set i) (owner_in_range set)) (claims (named template i)) ≡ Some change
      → Among r (request_of space moment (claim_action change)) → IsRenewal template i r × (target set (claim_action change) ≡ claim_key set template i)
  by_update template i change r is at =
      elim (claims (named template i)) as (λ found. claims (named template i) ≡ found → option_and_then (update_claim set (name_at set i) (owner_in_range set)) found ≡ Some change
      → IsRenewal template i r × (target set (claim_action change) ≡ claim_key set template i)) [
        | None ↦ λ e h. absurd (cc)
        | Some o ↦ λ e h. elim (is_wanted i o) as (λ b. is_wanted i o ≡ b → (if b then None else Some (changes.Update (renewal i o))) ≡ Some change
            → IsRenewal template i r × (target set (claim_action change) ≡ claim_key set template i)) [
              | true ↦ λ f k. absurd (cc)
              | false ↦ λ f k.
                  let same : changes.Update (renewal i o) ≡ change = same_Some (changes.Update (renewal i o)) change k in
                  let P : ClaimChange → Type 0 = λ x. Among r (request_of space moment (claim_action x)) in
                  let sends : r ≡ Update (as_read (renewal i o)) = elim (subst P (sym same) at) [ inl is ↦ is | inr none ↦ absurd none ] in
                  ((o, e, f, sends), ap (λ (x : ClaimChange). target set (claim_action x)) (sym same) ∙ keyed (named template i) o e)
            ] refl h
      ] refl is

  in_steps : (a : Action) → Among a (flat_map (actions_of set claims plan.current plan.update) (full_steps set plan.pods)) → (i : ℕ) × (change : ClaimChange) × (c : Claim) × (i < set.start + set.replicas) × (a ≡ claim_action change)
      × (option_and_then (update_claim set (name_at set i) (owner_in_range set)) (claims (named c.0 i)) ≡ Some change)
  unfolding actions_of
  in_steps a at =
      let m = in_flat (actions_of set claims plan.current plan.update) (full_steps set plan.pods) a at in
      let step : Among m.0 (flat_map keep_steps (ordinals set)) = elim (among_either m.0 (flat_map keep_steps (ordinals set)) [] (subst (Among m.0) kept m.1)) [ inl here ↦ here | inr none ↦ absurd none ] in
      let k = in_flat keep_steps (ordinals set) m.0 step in
      let is : m.0 ≡ KeepClaims k.0 = elim (k.2) [ inl same ↦ same | inr none ↦ absurd none ] in
      let here : Among a (map claim_action (keep_claims set claims k.0)) = subst (λ (x : Step). Among a (actions_of set claims plan.current plan.update x)) is m.2 in
      let n = in_map claim_action (keep_claims set claims k.0) a here in
      let f = in_filter_map (λ (c : Claim). option_and_then (update_claim set (name_at set k.0) (owner_in_range set)) (claims (named c.0 k.0))) set.claims n.0 n.1 in
      (k.0, n.0, f.0, (in_range_list set.start set.replicas k.0 k.1).1, n.2, f.2)

  low : (i : ℕ) → i < set.start + set.replicas → i < 2 ^ 32
  low i within = let o = may.ordinals in omega (arith, within, o)

  -- what is asked about the claim of a template and an ordinal
  on_claim : (template : List ℕ) (i : ℕ) (r : Request) → i < 2 ^ 32 → Among r sent → key_named r ≡ Some (claim_key set template i) → IsRenewal template i r
  unfolding full_plan
  on_claim template i r within at names =
      let all = full_steps set plan.pods in
      let name = current_name set plan.pods plan.current plan.update in
      let done = flat_map (actions_of set claims plan.current plan.update) all in
      let gone = deletions set (views_in set s) plan.owned name plan.update.key.name all in
      let status = status_write set (status_of set plan.pods name plan.update.key.name) in
      let m = in_requests space moment full r (subst (Among r) (sent_is set digits moment s plan) at) in
      let a : Action = m.0 in
      let about : target set a ≡ claim_key set template i = same_Some (target set a) (claim_key set template i) (sym ((of_action set moment a).0 r m.2) ∙ names) in
      elim (among_either a (done ++ gone) status m.1) [
        | inr last ↦
            let clash : kinds.StatefulSet ≡ kinds.PersistentVolumeClaim = sym may.kind ∙ ap (λ (q : Key). q.kind) (sym ((of_status set (status_of set plan.pods name plan.update.key.name)).1 a last) ∙ about) in
            absurd (cc)
        | inl before ↦ elim (among_either a done gone before) [
          | inr there ↦
              let kind = in_gone set (list_any is_of_pod all) (expired_revisions set (views_in set s) name plan.update.key.name plan.owned) a there in
              let clash : kinds.ControllerRevision ≡ kinds.PersistentVolumeClaim = sym kind ∙ ap (λ (q : Key). q.kind) about in
              absurd (cc)
          | inl here ↦
              let f = in_steps a here in
              let P : Action → Type 0 = λ x. Among r (request_of space moment x) in
              let u = by_update f.2.0 f.0 f.1 r f.5 (subst P f.4 m.2) in
              let same_key : claim_key set f.2.0 f.0 ≡ claim_key set template i = sym u.1 ∙ (ap (target set) (sym f.4) ∙ about) in
              let same = claim_names-differ set.object.key.name f.2.0 template f.0 i (low f.0 f.3) within (ap (λ (q : Key). q.name) same_key) in
              subst (λ (j : ℕ). IsRenewal template j r) same.1 (subst (λ (x : List ℕ). IsRenewal x f.0 r) same.0 u.0)
        ]
      ]

  off_claim : (template : List ℕ) (i : ℕ) → i < 2 ^ 32 → ((r : Request) → IsRenewal template i r → ⊥) → AllByRecursion (IsElsewhere (claim_key set template i)) sent
  off_claim template i within none = all_among (IsElsewhere (claim_key set template i)) sent (λ r at same. none r (on_claim template i r within at (sym same)))

  -- the update of a claim with other owners is sent
  sends : (i : ℕ) → in_range set i ≡ true → (c : Claim) → Among c set.claims → (o : Object) → claims (named c.0 i) ≡ Some o → is_wanted i o ≡ false → Among (Update (as_read (renewal i o))) sent
  unfolding full_plan actions_of
  sends i within c at o there other =
      let all = full_steps set plan.pods in
      let name = current_name set plan.pods plan.current plan.update in
      let done = flat_map (actions_of set claims plan.current plan.update) all in
      let gone = deletions set (views_in set s) plan.owned name plan.update.key.name all in
      let status = status_write set (status_of set plan.pods name plan.update.key.name) in
      let h : Claim → Option ClaimChange = λ x. option_and_then (update_claim set (name_at set i) (owner_in_range set)) (claims (named x.0 i)) in
      let b = bounds set i within in
      let step : Among (KeepClaims i) all =
      subst (Among (KeepClaims i)) (sym kept) (among_left (flat_map keep_steps (ordinals set)) [] (KeepClaims i) (among_flat keep_steps (ordinals set) i (KeepClaims i) (range_among set.start set.replicas i b.0 b.1) (inl refl))) in
      let is : h c ≡ Some (changes.Update (renewal i o)) =
      ap (option_and_then (update_claim set (name_at set i) (owner_in_range set))) there ∙ ap (λ x. if x then None else Some (changes.Update (renewal i o))) other in
      let action : Among (UpdateClaim (renewal i o)) (actions_of set claims plan.current plan.update (KeepClaims i)) =
      among_map claim_action (keep_claims set claims i) (changes.Update (renewal i o)) (among_filter_map h set.claims c (changes.Update (renewal i o)) at is) in
      let planned : Among (UpdateClaim (renewal i o)) full =
      among_left (done ++ gone) status (UpdateClaim (renewal i o)) (among_left done gone (UpdateClaim (renewal i o)) (among_flat (actions_of set claims plan.current plan.update) all (KeepClaims i) (UpdateClaim (renewal i o)) step action)) in
      subst (Among (Update (as_read (renewal i o)))) (sym (sent_is set digits moment s plan))
      (among_flat (request_of space moment) full (UpdateClaim (renewal i o)) (Update (as_read (renewal i o))) planned (inl refl))

  -- ---- what the update leaves
  abbrev draft_of : ℕ → Object → Draft
  draft_of i o = as_read (renewal i o)

  body_is : (i : ℕ) (o : Object) → o.key.kind ≡ kinds.PersistentVolumeClaim → (updated o (draft_of i o)).body ≡ renewed (items_if_any (wanted i (entries_of o))) (member_of (codes "status") o.body) o.body
  body_is i o kind = ap (λ (k : Kind). body_with_status k (member_of (codes "status") o.body) (renewal i o).body) kind

  fine : (i : ℕ) (o there : Object) → o.key.kind ≡ kinds.PersistentVolumeClaim → there.body ≡ (updated o (draft_of i o)).body → HasMembers there.body → is_wanted i there ≡ true
  fine i o there kind same has =
      let items = items_if_any (wanted i (entries_of o)) in
      let status = member_of (codes "status") o.body in
      let body : there.body ≡ renewed items status o.body = same ∙ body_is i o kind in
      let owners : owners_of there.body ≡ unwrap_or items no_items = ap owners_of body ∙ owners_then items status o.body (its_members items status o.body (subst HasMembers body has)) in
      ap (λ entries. are_wanted set (name_at set i) (owner_in_range set) (list_of entries)) owners
      ∙ (ap (are_wanted set (name_at set i) (owner_in_range set)) (as_entries (wanted i (entries_of o)))
      ∙ wanted_again set (name_at set i) (owner_in_range set) (entries_of o))

  verdict_is : (i : ℕ) (o : Object) → o.key.kind ≡ kinds.PersistentVolumeClaim → on_update (draft_of i o) (Some o) ≡ unless_same o (updated o (draft_of i o))
  verdict_is i o kind =
      let d = draft_of i o in
      ap (λ b. if b then Refuse Conflict else if changes_data d o then Refuse Invalid else unless_same o (updated o d)) (meets_its_own o)
      ∙ ap (λ (k : Kind). if not (has_status k) && not (same_member (codes "data") o.body d.object.body) then Refuse Invalid else unless_same o (updated o d)) kind

  after_update : (i : ℕ) (o there : Object) → o.key.kind ≡ kinds.PersistentVolumeClaim → IsLeftBy (unless_same o (updated o (draft_of i o))) (Some o) (Some there) → HasMembers there.body → is_wanted i there ≡ true
  after_update i o there kind leaves has =
      let new = updated o (draft_of i o) in
      elim (same_data o.body new.body) as (λ b. same_data o.body new.body ≡ b → IsLeftBy (if b then Same o else Write (updates new)) (Some o) (Some there) → is_wanted i there ≡ true) [
        | true ↦ λ e l. fine i o there kind (ap (λ (x : Object). x.body) (same_Some there o l) ∙ same-equal o.body new.body e) has
        | false ↦ λ e l. fine i o there kind (ap (λ (x : Object). x.body) (same_Some there (at_version new l.0) l.1)) has
      ] refl leaves

  -- ---- a claim of an ordinal in range, as the plan leaves it
  pub wanted_then : (i : ℕ) → in_range set i ≡ true → (c : Claim) → Among c set.claims → (there : Object) → Has left (claim_key set c.0 i) there → HasMembers there.body → is_wanted i there ≡ true
  wanted_then i within c at there here has =
      let k : Key = claim_key set c.0 i in
      let small : i < 2 ^ 32 = low i (bounds set i within).1 in
      elim (claims (named c.0 i)) as (λ found. claims (named c.0 i) ≡ found → is_wanted i there ≡ true) [
        | None ↦ λ e.
            let free : finite.get left.objects k ≡ None = untouched s k sent (off_claim c.0 i small (λ r is. (let clash : None ≡ Some is.0 = sym e ∙ is.1 in absurd (cc)))) ∙ claim_free set digits moment s plan some may is_there (named c.0 i) e in
            let clash : None ≡ Some there = sym free ∙ here in
            absurd (cc)
        | Some o ↦ λ e.
            let key : o.key ≡ k = keyed (named c.0 i) o e in
            let before : Has s k o = subst (λ (q : Key). Has s q o) key (claim_there set digits moment s plan some may is_there (named c.0 i) o e) in
            elim (is_wanted i o) as (λ b. is_wanted i o ≡ b → is_wanted i there ≡ true) [
              | true ↦ λ f.
                  let stays : finite.get left.objects k ≡ Some o = untouched s k sent (off_claim c.0 i small (λ r is.
                  let same : is.0 ≡ o = same_Some is.0 o (sym is.1 ∙ e) in
                  true≢false (sym f ∙ (ap (is_wanted i) (sym same) ∙ is.2)))) ∙ before in
                  let same : there ≡ o = same_Some there o (sym here ∙ stays) in
                  ap (is_wanted i) same ∙ f
              | false ↦ λ f.
                  let kind : o.key.kind ≡ kinds.PersistentVolumeClaim = ap (λ (q : Key). q.kind) key in
                  let alone = among_all (DoesAsAlone s left) sent (Update (draft_of i o)) (plan_alone set digits moment s plan some may is_there is_read) (sends i within c at o e f) o.key refl in
                  let P : Key → Type 0 = λ q. IsLeftBy (on_update (draft_of i o) (finite.get s.objects q)) (finite.get s.objects q) (finite.get left.objects q) in
                  let Q : Option Object → Type 0 = λ x. IsLeftBy (on_update (draft_of i o) x) x (finite.get left.objects k) in
                  let R : Option Object → Type 0 = λ x. IsLeftBy (on_update (draft_of i o) (Some o)) (Some o) x in
                  let V : Verdict → Type 0 = λ v. IsLeftBy v (Some o) (Some there) in
                  after_update i o there kind (subst V (verdict_is i o kind) (subst R here (subst Q before (subst P key alone)))) has
            ] refl
      ] refl

-- so do the claims of a set whose pods stand
pub wanted_where_pods_stand : (set : SetParts) (digits : ℕ) (moment : List ℕ) (s : Store) (plan : IsPlannedOver set digits s) (some : moment ≢ []) (may : MayAct set most_actions s) (is_there : Has s set.object.key set.object) (is_read : set_of set.object ≡ Ok set)
    → Stands set plan.pods → (i : ℕ) → in_range set i ≡ true → (c : Claim) → Among c set.claims → (there : Object) → Has (after_plan set digits moment s) (claim_key set c.0 i) there → HasMembers there.body
    → are_wanted set (name_at set i) (owner_in_range set) (entries_of there) ≡ true
wanted_where_pods_stand set digits moment s plan some may is_there is_read stands i within c at there here has =
    let sorted = replicas_in_order set plan.update.key.name plan.current.key.name (views_in set s) plan.pods (replicas_are set digits moment s plan) in
    wanted_then set digits moment s plan some may is_there is_read (standing set plan.pods sorted stands) i within c at there here has
