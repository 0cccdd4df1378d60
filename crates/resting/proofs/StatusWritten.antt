-- After a plan the set has the status that was built, and the same counts build no other.
use Rattle.std.proofs.Common.{◌≡◌, ◌≢◌, inl, ℕ, true, false, not, if◌then◌else◌, List, [], ◌∷◌, ◌++◌, codes, option_and_then, unwrap_or, Option, Some, None, Ok, refl, sym, ap, ◌∙◌, subst, true≢false}
use Rattle.std.specs.FinMap as finite
use Rattle.std.specs.List.{flat_map}
use Rattle.std.specs.Option.{option_map_or}
use Rattle.std.proofs.lemmas.Option.{same_Some}
use Rattle.serde_json.specs.Data.{Data, Members, no_members, object}
use Rattle.serde_json.specs.Find.{as_object}
use Rattle.serde_json.specs.Written.{has_float, members_have_float}
use Rattle.objects.specs.declared.object.Draft.{Draft}
use Rattle.objects.specs.declared.object.Object.{Object}
use Rattle.objects.specs.Same.{same_data}
use Rattle.objects.specs.Status.{member_of, same_found}
use Rattle.objects.proofs.Sameness.{same-equal, same-itself}
use Rattle.requests.specs.declared.request.Request.{Request}
use Rattle.requests.specs.declared.request.Request.TheVariants.{UpdateStatus}
use Rattle.requests.specs.declared.reply.Reason.TheVariants.{Conflict, Invalid}
use Rattle.requests.specs.declared.verdict.Verdict.{Verdict}
use Rattle.requests.specs.declared.verdict.Verdict.TheVariants.{Refuse, Same, Write}
use Rattle.requests.specs.Change.{at_version, updates}
use Rattle.requests.specs.Lists.{Has as Among}
use Rattle.requests.specs.Verdict.{has_status, on_status, on_status_of, same_member, status_unless_same, with_status_of}
use Rattle.set_views.specs.Set.{SetParts}
use Rattle.set_views.specs.SetReading.{set_of}
use Rattle.manifests.specs.BuiltStatus.{StatusParts, built_status, differs, new_status, old_status, set_with, status_in}
use Rattle.pod_steps.specs.FullSteps.{full_steps}
use Rattle.plain_store.specs.AtKey.{Has}
use Rattle.plain_store.specs.Store.{Store}
use Rattle.sets.specs.declared.action.Action.{Action}
use Rattle.sets.specs.declared.action.Action.TheVariants.{WriteStatus}
use Rattle.sets.specs.Actions.{actions_of}
use Rattle.sets.specs.FullPlan.{current_name, deletions, full_plan, status_write}
use Rattle.sets.specs.Plan.{most_actions}
use Rattle.controllers.specs.Planned.{as_read, request_of, requests_of}
use Rattle.controllers.proofs.PlannedActions.{among_all}
use Rattle.resting.specs.Accepting.{DoesAsAlone, IsLeftBy}
use Rattle.resting.specs.Acting.{IsPlannedOver, IsReadIn, MayAct, after_plan, planned_requests, views_in}
use Rattle.resting.proofs.AcceptedPlans.{IsReadAs, read_as}
use Rattle.resting.proofs.Acts.{untouched}
use Rattle.resting.proofs.Alone.{plan_alone}
use Rattle.resting.proofs.Pairs.{among_right}
use Rattle.resting.proofs.PlanOnSet.{counted, off_the_set, on_status_alone}
use Rattle.resting.proofs.ReadAgain.{IsLike, like_itself, read_again, replaced, stays_like}
use Rattle.resting.proofs.ReadParts.{is_from}
use Rattle.resting.proofs.RoundsOnPods.{claims_there, sent_is}
use Rattle.resting.proofs.RoundsOver.{same_parts}
use Rattle.resting.proofs.StatusAgain.{status_again, status_whole}
use Rattle.resting.proofs.Turns.{meets_its_own}

-- ---- lists
requests_right : (space moment : List ℕ) (xs : List Action) (o : Object) → Among (UpdateStatus (as_read o)) (requests_of space moment (xs ++ WriteStatus o ∷ []))
requests_right space moment [] o = inl refl
requests_right space moment (x ∷ xs) o = among_right (request_of space moment x) (requests_of space moment (xs ++ WriteStatus o ∷ [])) (UpdateStatus (as_read o)) (requests_right space moment xs o)

-- ---- a status that is there
as_there : (status : Data) (here : Option Data) → has_float status ≡ false → same_found here (Some status) ≡ true → option_map_or (λ old. not (same_data status old)) here true ≡ false
as_there status None whole same = absurd (cc)
as_there status (Some old) whole same = ap (λ (d : Data). not (same_data status d)) (same-equal old status same) ∙ ap not (same-itself status whole)

written_once : (set : SetParts) (parts : StatusParts) → differs set (object (new_status set parts (old_status set))) ≡ true → status_write set parts ≡ WriteStatus (set_with set (object (new_status set parts (old_status set)))) ∷ []
unfolding built_status
written_once set parts other = ap (λ b. option_map_or (λ (o : Object). WriteStatus o ∷ []) (if b then Some (set_with set (object (new_status set parts (old_status set)))) else None) []) other

none_written : (set : SetParts) (parts : StatusParts) → built_status set parts ≡ None → status_write set parts ≡ []
none_written set parts none = ap (λ o. option_map_or (λ (x : Object). WriteStatus x ∷ []) o []) none

none_by : (set : SetParts) (parts : StatusParts) → differs set (object (new_status set parts (old_status set))) ≡ false → built_status set parts ≡ None
unfolding built_status
none_by set parts same = ap (λ b. if b then Some (set_with set (object (new_status set parts (old_status set)))) else None) same

-- ---- after a plan
module _ (set : SetParts) (digits : ℕ) (moment : List ℕ) (s : Store) (plan : IsPlannedOver set digits s) (some : moment ≢ []) (may : MayAct set most_actions s) (is_there : Has s set.object.key set.object) (is_read : set_of set.object ≡ Ok set) (whole : members_have_float (old_status set) ≡ false) where
  abbrev parts : StatusParts
  parts = counted set digits moment s plan some may is_there is_read

  abbrev members : Members
  members = new_status set parts (old_status set)

  abbrev d : Draft
  d = as_read (set_with set (object members))

  abbrev t : Store
  t = after_plan set digits moment s

  abbrev now : Option Object
  now = finite.get t.objects set.object.key

  members_whole : members_have_float members ≡ false
  members_whole = status_whole set parts (old_status set) whole

  sends : differs set (object members) ≡ true → Among (UpdateStatus d) (planned_requests set digits moment s)
  unfolding full_plan
  sends other =
      let claims = claims_there set digits moment s plan in
      let name = current_name set plan.pods plan.current plan.update in
      let before : List Action = flat_map (actions_of set claims plan.current plan.update) (full_steps set plan.pods) ++ deletions set (views_in set s) plan.owned name plan.update.key.name (full_steps set plan.pods) in
      let P : List Request → Type 0 = λ rs. Among (UpdateStatus d) rs in
      let Q : List Action → Type 0 = λ last. Among (UpdateStatus d) (requests_of set.object.key.namespace moment (before ++ last)) in
      subst P (sym (sent_is set digits moment s plan)) (subst Q (sym (written_once set parts other)) (requests_right set.object.key.namespace moment before (set_with set (object members))))

  -- what the request leaves
  verdict_is : on_status d (Some set.object) ≡ status_unless_same set.object d
  verdict_is =
      ap (λ b. if b then on_status_of d (Some set.object) else Refuse Invalid) (ap has_status may.kind)
      ∙ ap (λ b. if b then Refuse Conflict else status_unless_same set.object d) (meets_its_own set.object)

  left : differs set (object members) ≡ true → IsLeftBy (status_unless_same set.object d) (Some set.object) now
  left other =
      let alone = among_all (DoesAsAlone s t) (planned_requests set digits moment s) (UpdateStatus d) (plan_alone set digits moment s plan some may is_there is_read) (sends other) set.object.key refl in
      let P : Option Object → Type 0 = λ o. IsLeftBy (on_status d o) o now in
      let Q : Verdict → Type 0 = λ v. IsLeftBy v (Some set.object) now in
      subst Q verdict_is (subst P is_there alone)

  its_status : member_of (codes "status") d.object.body ≡ Some (object members)
  its_status =
      let r : IsReadAs set.object set = read_as set.object set is_read in
      replaced set.object.body r.0.spec (Some (object members)) (is_from set.object r.0 r.2).0

  abbrev IsWritten : Type 0
  IsWritten = (n : ℕ) × (now ≡ Some (at_version (with_status_of set.object d) n))

  is_written : differs set (object members) ≡ true → IsWritten
  is_written other =
      elim (same_member (codes "status") set.object.body d.object.body) as (λ b. same_member (codes "status") set.object.body d.object.body ≡ b
      → IsLeftBy (if b then Same set.object else Write (updates (with_status_of set.object d))) (Some set.object) now → IsWritten) [
        | true ↦ λ h l.
            let same : same_found (status_in set) (Some (object members)) ≡ true = ap (same_found (status_in set)) (sym its_status) ∙ h in
            let clash : differs set (object members) ≡ false = as_there (object members) (status_in set) members_whole same in
            absurd (true≢false (sym other ∙ clash))
        | false ↦ λ h l. l
      ] refl (left other)

  module _ (next : SetParts) (shown : IsReadIn t next) (key : next.object.key ≡ set.object.key) where
    now_is : now ≡ Some next.object
    now_is = ap (finite.get t.objects) (sym key) ∙ shown.there

    -- the set as it was
    same_set : now ≡ Some set.object → set ≡ next
    same_set same =
        let object : set.object ≡ next.object = same_Some set.object next.object (sym same ∙ now_is) in
        same_parts set next (sym is_read ∙ (ap set_of object ∙ shown.read))

    unwritten : differs set (object members) ≡ false → built_status next parts ≡ None
    unwritten same =
        let none : built_status set parts ≡ None = none_by set parts same in
        let stays : now ≡ Some set.object = untouched s set.object.key (planned_requests set digits moment s) (off_the_set set digits moment s plan some may is_there is_read (none_written set parts none)) ∙ is_there in
        let P : SetParts → Type 0 = λ x. built_status x parts ≡ None in
        subst P (same_set stays) none

    collisions : next.collisions ≡ set.collisions
    collisions =
        let like : IsLike set is_read t = stays_like set is_read s (planned_requests set digits moment s) (on_status_alone set digits moment s plan some may is_there is_read) (like_itself set is_read s is_there) in
        let again = read_again set.object like.0 set is_read like.2 in
        let object : like.0 ≡ next.object = same_Some like.0 next.object (sym like.1 ∙ now_is) in
        let same : again.0 ≡ next = same_parts again.0 next (sym again.1.read ∙ (ap set_of object ∙ shown.read)) in
        ap (λ (x : SetParts). x.collisions) (sym same) ∙ again.1.collisions

    written_then : IsWritten → built_status next parts ≡ None
    written_then w =
        let changed : Object = at_version (with_status_of set.object d) w.0 in
        let object_is : next.object ≡ changed = same_Some next.object changed (sym now_is ∙ w.1) in
        let generation : next.object.meta.generation ≡ set.object.meta.generation = ap (λ (o : Object). o.meta.generation) object_is in
        let r : IsReadAs set.object set = read_as set.object set is_read in
        let put_there : member_of (codes "status") changed.body ≡ Some (object members) = replaced set.object.body r.0.spec (member_of (codes "status") d.object.body) (is_from set.object r.0 r.2).0 ∙ its_status in
        let here : status_in next ≡ Some (object members) = ap (λ (o : Object). member_of (codes "status") o.body) object_is ∙ put_there in
        let old : old_status next ≡ members = ap (λ x. unwrap_or (option_and_then as_object x) no_members) here in
        let again : new_status next parts (old_status next) ≡ members = ap (new_status next parts) old ∙ status_again set next parts (old_status set) collisions generation in
        let same : differs next (object members) ≡ false = ap (λ x. option_map_or (λ e. not (same_data (object members) e)) x true) here ∙ ap not (same-itself (object members) members_whole) in
        none_by next parts (ap (λ (m : Members). differs next (object m)) again ∙ same)

    pub status_stays : built_status next parts ≡ None
    status_stays =
        elim (differs set (object members)) as (λ b. differs set (object members) ≡ b → built_status next parts ≡ None) [
          | true ↦ λ other. written_then (is_written other)
          | false ↦ λ same. unwritten same
        ] refl
