-- The revision that a plan writes, as the store then has it: the set's own, of its template, and the newest one.
use Rattle.std.proofs.Common.{◌≡◌, ◌≢◌, inl, inr, ◌==◌, ◌+◌, ◌<◌, ◌||◌, ℕ, true, false, not, if◌then◌else◌, List, [], ◌∷◌, codes, bytes_eq, option_and_then, unwrap_or, Option, Some, None, Result, Ok, arith, refl, sym, ap, ◌∙◌, subst, true≢false}
use Rattle.std.specs.Prelude.{◌&&◌}
use Rattle.std.specs.FinMap as finite
use Rattle.std.specs.List.{list_any}
use Rattle.std.specs.Option.{option_map_or}
use Rattle.std.proofs.lemmas.Slice.Eq.{bytes_eq-Decides}
use Rattle.serde_json.specs.Data.{Data, Members, array, boolean, member, no_items, no_members, null, number, object, put, string, unsigned}
use Rattle.serde_json.specs.Find.{as_number, as_object, as_u64, get_member}
use Rattle.serde_json.specs.Written.{has_float, members_have_float}
use Rattle.serde_json.proofs.Views.{get_member-put, get_member-put_other}
use Rattle.objects.specs.declared.key.Key.{Key}
use Rattle.objects.specs.declared.kind.Kind.{Kind}
use Rattle.objects.specs.declared.kind.Kind.TheVariants.{ControllerRevision, PersistentVolumeClaim}
use Rattle.objects.specs.declared.object.Object.{Object}
use Rattle.objects.specs.Kind.{api_version, kind_name}
use Rattle.objects.specs.Metadata.{items_at, metadata_of, owners_of}
use Rattle.objects.specs.Same.{same_data}
use Rattle.objects.specs.Status.{member_of, same_found, with_member}
use Rattle.objects.specs.Uid.{uid_text}
use Rattle.objects.proofs.BodyMembers.{member_of-with_member, member_of-with_other}
use Rattle.objects.proofs.Sameness.{same-equal, same-itself}
use Rattle.requests.specs.declared.request.Request.{Request}
use Rattle.requests.specs.declared.request.Request.TheVariants.{Create, Update}
use Rattle.requests.specs.declared.reply.Reply.{Reply}
use Rattle.requests.specs.declared.reply.Reason.TheVariants.{Conflict, Invalid}
use Rattle.requests.specs.declared.verdict.Verdict.TheVariants.{Refuse, Same, Write}
use Rattle.requests.specs.Change.{accepted, creates, stamp, updates}
use Rattle.requests.specs.Lists.{Has as Among}
use Rattle.requests.specs.Verdict.{body_with_status, born, changes_data, has_status, on_update, same_member, unless_same, updated}
use Rattle.set_views.specs.declared.fault.PlanError.{PlanError}
use Rattle.set_views.specs.Firsts.{is_held}
use Rattle.set_views.specs.Owners.{is_controlled}
use Rattle.set_views.specs.Predicates.{in_namespace}
use Rattle.set_views.specs.Set.{SetParts}
use Rattle.set_views.specs.Steps.{◌>>=◌}
use Rattle.revisions.specs.Built.{new_revision, owned_metadata, with_number}
use Rattle.revisions.specs.Choice.{data_with, greatest, has_data}
use Rattle.revisions.specs.Plan.{PlanParts, created, plan_of, renumbered}
use Rattle.revisions.specs.Revision.{data_in, listed, number_of, owned_among, owns_revision}
use Rattle.pod_steps.specs.Replicas.{Pods}
use Rattle.claims.specs.Listed.{listed_claim}
use Rattle.plain_store.specs.AtKey.{Has}
use Rattle.plain_store.specs.Route.{route}
use Rattle.plain_store.specs.Store.{Store, carried_out, is_of, step, with_change}
use Rattle.plain_store.proofs.CompleteLists.{listed as in_list}
use Rattle.rounds.specs.Accepted.{succeeded}
use Rattle.rounds.specs.Drafts.{draft}
use Rattle.rounds.proofs.Lists.{among_contained}
use Rattle.sets.specs.declared.action.Action.{Action}
use Rattle.sets.specs.declared.action.Action.TheVariants.{WriteRevision}
use Rattle.sets.specs.Plan.{fitting_pods, most_actions, plan_by}
use Rattle.sets.specs.PlanOfLists.{owned_of, plan_of_lists}
use Rattle.sets.proofs.FirstPods.{kept_among}
use Rattle.controllers.specs.Planned.{as_read, or_none, requested_for, requests_of}
use Rattle.resting.specs.Acting.{MayAct, planned_requests, views_in}
use Rattle.resting.specs.Still.{listed_in}
use Rattle.resting.proofs.AcceptablePlans.{create_is, meets}
use Rattle.resting.proofs.Accepting.{is_accepted}
use Rattle.resting.proofs.Acts.{create_free}
use Rattle.resting.proofs.OwnedAgain.{IsOwnedIn, kind_of, owned_there, revisions_in}
use Rattle.resting.proofs.RevisionPlans.{no_greater}
use Rattle.resting.proofs.Turns.{carried, written}
use Rattle.resting.proofs.TurnsOnPods.{metadata_is}
use Rattle.resting.proofs.WrittenRounds.{Writes}

-- ---- the one request
abbrev pub writing : Object → Request
writing o = if o.meta.uid == 0 then Create (draft o) else Update (as_read o)

module _ (set : SetParts) (digits : ℕ) (moment : List ℕ) (s : Store) where
  abbrev revisions : Result PlanParts PlanError
  revisions = plan_of set (is_held (listed set (revisions_in s set))) digits (owned_of set (revisions_in s set))

  abbrev then_sent : Result (List Action) PlanError → List Request
  then_sent planned = or_none (planned >>= λ actions. Ok (requests_of set.object.key.namespace moment actions))

  pub writes_created : (o : Object) (pods : Pods) → revisions ≡ Ok (created o) → fitting_pods set [] [] (views_in set s) ≡ Ok pods → planned_requests set digits moment s ≡ writing o ∷ []
  unfolding requested_for plan_of_lists plan_by
  writes_created o pods is fit =
      let claims = listed_claim set (listed_in s set.object.key PersistentVolumeClaim) in
      ap (λ r. then_sent (plan_by set claims (views_in set s) r)) is ∙ ap (λ r. then_sent (r >>= λ _. Ok (WriteRevision o ∷ []))) fit

  pub writes_renumbered : (o : Object) (pods : Pods) → revisions ≡ Ok (renumbered o) → fitting_pods set [] [] (views_in set s) ≡ Ok pods → planned_requests set digits moment s ≡ writing o ∷ []
  unfolding requested_for plan_of_lists plan_by
  writes_renumbered o pods is fit =
      let claims = listed_claim set (listed_in s set.object.key PersistentVolumeClaim) in
      ap (λ r. then_sent (plan_by set claims (views_in set s) r)) is ∙ ap (λ r. then_sent (r >>= λ _. Ok (WriteRevision o ∷ []))) fit

-- ---- members
differ : (k l : List ℕ) → bytes_eq k l ≡ false → k ≢ l
differ k l other same = true≢false (sym ((bytes_eq-Decides k l).1 same) ∙ other)

among_held : (os : List Object) (o : Object) (name : List ℕ) → Among o os → name ≡ o.key.name → is_held os name ≡ true
among_held [] o name at same = absurd at
among_held (p ∷ os) o name at same =
    elim (bytes_eq name p.key.name) as (λ b. bytes_eq name p.key.name ≡ b → (b || list_any (λ (x : Object). bytes_eq name x.key.name) os) ≡ true) [
      | true ↦ λ e. refl
      | false ↦ λ e. elim at [
        | inl is ↦ absurd (true≢false (sym ((bytes_eq-Decides name p.key.name).1 (same ∙ ap (λ (x : Object). x.key.name) is)) ∙ e))
        | inr more ↦ among_held os o name more same
      ]
    ] refl

set_then : (q k : List ℕ) (b d : Data) (v : Option Data) → member_of q b ≡ Some d → member_of k (with_member k v b) ≡ v
set_then q k null d v is = absurd (cc)
set_then q k (boolean b) d v is = absurd (cc)
set_then q k (number n) d v is = absurd (cc)
set_then q k (string t) d v is = absurd (cc)
set_then q k (array ds) d v is = absurd (cc)
set_then q k (object ms) d v is = member_of-with_member k v ms

whole_data : (t : Members) → members_have_float t ≡ false → has_float (data_with t) ≡ false
whole_data t whole = ap (λ b. (b || false) || false) whole

data_there : (d : Data) (o : Object) → has_data d o ≡ true → (x : Data) × (data_in o ≡ Some x) × (d ≡ x)
data_there d o is =
    elim (data_in o) as (λ found. option_map_or (same_data d) found false ≡ true → (x : Data) × (found ≡ Some x) × (d ≡ x)) [
      | None ↦ λ h. absurd (true≢false (sym h))
      | Some x ↦ λ h. (x, refl, same-equal d x h)
    ] is

module _ (set : SetParts) (s : Store) (may : MayAct set most_actions s) (whole : members_have_float set.template ≡ false) where
  abbrev space : List ℕ
  space = set.object.key.namespace

  abbrev owned : List Object
  owned = owned_of set (revisions_in s set)

  abbrev n : ℕ
  n = greatest owned + 1

  room : s.counter < s.capacity
  room = let r = may.room in omega (arith, r)

  below : (x : Object) → Among x owned → number_of x < n
  unfolding owned_of
  below x at = let less = no_greater (owned_among set (revisions_in s set)) x at in omega (arith, less)

  -- ---- a new one
  module _ (name : List ℕ) (free : is_held (listed set (revisions_in s set)) name ≡ false) where
    abbrev made : Object
    made = new_revision set name n

    abbrev pub stored : Object
    stored = stamp (creates (born made)) (s.counter + 1)

    abbrev inner : Members
    inner = member (codes "data") (data_with set.template) (member (codes "revision") (number (unsigned n)) no_members)

    abbrev versioned : Members
    versioned = put (codes "apiVersion") (string (api_version ControllerRevision)) inner

    abbrev kinded : Members
    kinded = put (codes "kind") (string (kind_name ControllerRevision)) versioned

    is_free : finite.get s.objects made.key ≡ None
    is_free =
        elim (finite.get s.objects made.key) as (λ x. finite.get s.objects made.key ≡ x → x ≡ None) [
          | None ↦ λ h. refl
          | Some o ↦ λ h.
              let own : o.key ≡ made.key = may.filed made.key o h in
              let P : Key → Type 0 = λ k. Has s k o in
              let near : is_of ControllerRevision space o.key ≡ true = ap (is_of ControllerRevision space) own ∙ (bytes_eq-Decides space space).1 refl in
              let at = among_contained (revisions_in s set) o (in_list s.objects ControllerRevision space o.key o (subst P (sym own) h) near) in
              let held : is_held (listed set (revisions_in s set)) name ≡ true =
              among_held (listed set (revisions_in s set)) o name (kept_among (in_namespace set ControllerRevision) o (revisions_in s set) near at) (sym (ap (λ (k : Key). k.name) own)) in
              absurd (true≢false (sym held ∙ free))
        ] refl

    -- past the members that say what it is
    inside_it : (k : List ℕ) → k ≢ codes "metadata" → k ≢ codes "kind" → k ≢ codes "apiVersion" → member_of k made.body ≡ get_member k inner
    inside_it k not_metadata not_kind not_version =
        get_member-put_other k (codes "metadata") (object (owned_metadata set)) kinded not_metadata
        ∙ (get_member-put_other k (codes "kind") (string (kind_name ControllerRevision)) versioned not_kind
        ∙ get_member-put_other k (codes "apiVersion") (string (api_version ControllerRevision)) inner not_version)

    its_data : data_in stored ≡ Some (data_with set.template)
    its_data = inside_it (codes "data") (differ (codes "data") (codes "metadata") refl) (differ (codes "data") (codes "kind") refl) (differ (codes "data") (codes "apiVersion") refl)

    its_number : number_of stored ≡ n
    its_number =
        ap (λ found. unwrap_or (option_and_then as_u64 (option_and_then as_number found)) 0)
        (inside_it (codes "revision") (differ (codes "revision") (codes "metadata") refl) (differ (codes "revision") (codes "kind") refl) (differ (codes "revision") (codes "apiVersion") refl))

    has_metadata : metadata_of stored.body ≡ Some (owned_metadata set)
    has_metadata = metadata_is stored.body ∙ ap (option_and_then as_object) (get_member-put (codes "metadata") (object (owned_metadata set)) kinded)

    is_owned : owns_revision set stored ≡ true
    is_owned =
        ap (λ m. is_controlled set.object.meta.uid (unwrap_or (option_and_then (items_at (codes "ownerReferences")) m) no_items)) has_metadata
        ∙ ap (λ b. b || false) ((bytes_eq-Decides (uid_text set.object.meta.uid) (uid_text set.object.meta.uid)).1 refl)

    pub new_is_written : Writes s set (Create (draft made)) stored
    new_is_written = record {
      names = refl;
      accept = is_accepted s (Create (draft made)) (create_is s made is_free) room;
      made = ap (λ (x : Store × Reply). finite.get x.0.objects made.key) (create_free s made is_free room) ∙ written s made.key stored;
      near = (bytes_eq-Decides space space).1 refl;
      controlled = is_owned;
      data_is = ap (λ found. option_map_or (same_data (data_with set.template)) found false) its_data ∙ same-itself (data_with set.template) (whole_data set.template whole);
      above = λ x at. subst (λ (m : ℕ). number_of x < m) (sym its_number) (below x at);
    }

  -- ---- an owned one with a new number
  module _ (old : Object) (at_old : Among old owned) (has : has_data (data_with set.template) old ≡ true) (given : (old.meta.uid == 0) ≡ false) where
    abbrev renewed : Object
    renewed = with_number old n

    abbrev d : Data
    d = data_with set.template

    is_old : IsOwnedIn s set old
    is_old = owned_there s set may.filed old at_old

    kind : old.key.kind ≡ ControllerRevision
    kind = kind_of space old.key is_old.1

    old_data : (x : Data) × (data_in old ≡ Some x) × (d ≡ x)
    old_data = data_there d old has

    same_there : data_in renewed ≡ data_in old
    same_there = member_of-with_other (codes "data") (codes "revision") (Some (number (unsigned n))) old.body (differ (codes "data") (codes "revision") refl)

    keeps_data : same_member (codes "data") old.body renewed.body ≡ true
    keeps_data =
        (λ j. same_found (old_data.1 j) ((same_there ∙ old_data.1) j))
        ∙ subst (λ (x : Data). same_data x x ≡ true) old_data.2 (same-itself d (whole_data set.template whole))

    new_number : number_of renewed ≡ n
    new_number = ap (λ found. unwrap_or (option_and_then as_u64 (option_and_then as_number found)) 0) (set_then (codes "data") (codes "revision") old.body old_data.0 (Some (number (unsigned n))) old_data.1)

    abbrev changed : Object
    changed = updated old (as_read renewed)

    body_is : changed.body ≡ renewed.body
    body_is = ap (λ (k : Kind). body_with_status k (member_of (codes "status") old.body) renewed.body) kind

    number_of_body : Data → ℕ
    number_of_body body = unwrap_or (option_and_then as_u64 (option_and_then as_number (member_of (codes "revision") body))) 0

    is_other : same_data old.body changed.body ≡ false
    unfolding number_of_body
    is_other =
        elim (same_data old.body changed.body) as (λ b. same_data old.body changed.body ≡ b → b ≡ false) [
          | true ↦ λ h.
              let same : number_of old ≡ n = ap number_of_body (same-equal old.body changed.body h ∙ body_is) ∙ new_number in
              let less : number_of old < n = below old at_old in
              absurd (omega (arith, same, less))
          | false ↦ λ h. refl
        ] refl

    abbrev pub stored_again : Object
    stored_again = stamp (updates changed) (s.counter + 1)

    does : step s (Update (as_read renewed)) ≡ (with_change s old.key (updates changed), accepted (updates changed) stored_again)
    unfolding step route
    does =
        let r = as_read renewed in
        ap (λ x. carried_out s old.key (on_update r x)) is_old.0
        ∙ (ap (λ b. carried_out s old.key (if b then Refuse Conflict else if changes_data r old then Refuse Invalid else unless_same old changed)) (meets renewed old refl)
        ∙ (ap (λ b. carried_out s old.key (if not (has_status old.key.kind) && not b then Refuse Invalid else unless_same old changed)) keeps_data
        ∙ (ap (λ (k : Kind). carried_out s old.key (if not (has_status k) && false then Refuse Invalid else unless_same old changed)) kind
        ∙ (ap (λ b. carried_out s old.key (if b then Same old else Write (updates changed))) is_other ∙ carried s old.key (updates changed) room))))

    owners_are : owners_of stored_again.body ≡ owners_of old.body
    owners_are =
        let metadata : metadata_of changed.body ≡ metadata_of old.body =
        ap metadata_of body_is
        ∙ (metadata_is renewed.body
        ∙ (ap (option_and_then as_object) (member_of-with_other (codes "metadata") (codes "revision") (Some (number (unsigned n))) old.body (differ (codes "metadata") (codes "revision") refl)) ∙ sym (metadata_is old.body))) in
        ap (λ m. unwrap_or (option_and_then (items_at (codes "ownerReferences")) m) no_items) metadata

    pub renewed_is_written : Writes s set (Update (as_read renewed)) stored_again
    unfolding number_of_body
    renewed_is_written = record {
      names = refl;
      accept = ap (λ (x : Store × Reply). succeeded (Update (as_read renewed)) x.1) does;
      made = ap (λ (x : Store × Reply). finite.get x.0.objects old.key) does ∙ written s old.key stored_again;
      near = is_old.1;
      controlled = ap (is_controlled set.object.meta.uid) owners_are ∙ is_old.2;
      data_is = ap (λ body. option_map_or (same_data d) (member_of (codes "data") body) false) body_is ∙ (ap (λ found. option_map_or (same_data d) found false) same_there ∙ has);
      above = λ x at. subst (λ (m : ℕ). number_of x < m) (sym (ap number_of_body body_is ∙ new_number)) (below x at);
    }
