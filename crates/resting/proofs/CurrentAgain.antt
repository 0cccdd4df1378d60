-- After a round whose plan takes no pod step the set's status names the current revision that the plan took.
use Rattle.std.proofs.Common.{◌≡◌, ◌≢◌, ℕ, Bool, true, false, not, if◌then◌else◌, List, [], codes, find, bytes_eq, option_and_then, unwrap_or, Option, Some, None, Ok, refl, sym, ap, ◌∙◌, subst, true≢false}
use Rattle.std.specs.Prelude.{◌||◌}
use Rattle.std.specs.List.{AllByRecursion}
use Rattle.std.specs.Option.{option_map_or}
use Rattle.std.proofs.lemmas.Slice.Eq.{bytes_eq-Decides}
use Rattle.serde_json.specs.Data.{Data, Members, number, object, put, string, unsigned}
use Rattle.serde_json.specs.Find.{as_str, get_member}
use Rattle.serde_json.specs.Written.{members_have_float}
use Rattle.serde_json.proofs.Views.{get_member-put, get_member-put_other}
use Rattle.objects.specs.declared.key.Key.{Key}
use Rattle.objects.specs.declared.kind.Kind.TheVariants.{Pod, StatefulSet}
use Rattle.objects.specs.declared.object.Object.{Object}
use Rattle.objects.specs.Building.{put_number}
use Rattle.objects.specs.Same.{same_data}
use Rattle.objects.proofs.Sameness.{same-equal}
use Rattle.requests.specs.Lists.{Has as Among}
use Rattle.set_views.specs.Firsts.{is_held}
use Rattle.set_views.specs.Set.{SetParts}
use Rattle.set_views.specs.SetReading.{set_of}
use Rattle.set_views.specs.Values.{inside}
use Rattle.revisions.specs.Choice.{data_with, named_among, named_current}
use Rattle.revisions.specs.History.{has_pod}
use Rattle.revisions.specs.Plan.{settled}
use Rattle.revisions.specs.Revision.{listed}
use Rattle.manifests.specs.BuiltStatus.{StatusParts, built_status, differs, new_status, old_status, set_with, status_in}
use Rattle.pod_steps.specs.FullSteps.{full_steps}
use Rattle.pod_steps.specs.Status.{is_rolled_out}
use Rattle.pod_steps.specs.Step.{pod_steps}
use Rattle.pod_steps.proofs.Searches.{passes_in}
use Rattle.plain_store.specs.Store.{Store}
use Rattle.sets.specs.PlanOfLists.{owned_of}
use Rattle.resting.specs.Acting.{IsPlannedOver, IsReadIn, views_in}
use Rattle.resting.specs.Still.{IsTendedPod, listed_in}
use Rattle.resting.proofs.AcceptedPlans.{IsReadAs, read_as}
use Rattle.resting.proofs.Choices.{IsNewest, in_place_by, newest_of}
use Rattle.resting.proofs.HistoryKept.{expired, name, owned_now, owned_then, stays_owned}
use Rattle.resting.proofs.OwnedAgain.{IsOwnedIn, one_of_name, owned_there, revisions_in}
use Rattle.resting.proofs.PlanOnSet.{counted}
use Rattle.resting.proofs.PodsStay.{by_the_plan, then_planned}
use Rattle.resting.proofs.RevisionRounds.{filed_then}
use Rattle.resting.proofs.RoundsOver.{IsPlacedRound}
use Rattle.resting.proofs.StatusWritten.{status_stays}
use Rattle.resting.proofs.UpToDate.{found_there, none_found}
use Rattle.resting.proofs.UpdateStays.{live_stays, update_owned}

-- ---- a status from which no other is built
same_there : (d : Data) (here : Option Data) → option_map_or (λ old. not (same_data d old)) here true ≡ false → here ≡ Some d
same_there d None h = absurd (true≢false h)
same_there d (Some old) h =
    elim (same_data d old) as (λ b. same_data d old ≡ b → not b ≡ false → Some old ≡ Some d) [
      | true ↦ λ e k. ap Some (sym (same-equal d old e))
      | false ↦ λ e k. absurd (true≢false k)
    ] refl h

status_there : (set : SetParts) (parts : StatusParts) → built_status set parts ≡ None → status_in set ≡ Some (object (new_status set parts (old_status set)))
unfolding built_status
status_there set parts none =
    let d = object (new_status set parts (old_status set)) in
    elim (differs set d) as (λ b. differs set d ≡ b → (if b then Some (set_with set d) else None) ≡ None → status_in set ≡ Some d) [
      | true ↦ λ e h. absurd (cc)
      | false ↦ λ e h. same_there d (status_in set) e
    ] refl none

others_name : (k l : List ℕ) → bytes_eq k l ≡ false → k ≡ l → ⊥
others_name k l other same = true≢false (sym ((bytes_eq-Decides k l).1 same) ∙ other)

-- what is put under the name of the current revision
abbrev behind_current : SetParts → StatusParts → Members → Members
behind_current set parts old =
    put_number (codes "observedGeneration") set.object.meta.generation
    (put_number (codes "readyReplicas") parts.ready_replicas
    (put_number (codes "replicas") parts.replicas
    (put (codes "updateRevision") (string parts.update_revision)
    (put_number (codes "updatedReplicas") parts.updated_replicas old))))

named_in : (set : SetParts) (parts : StatusParts) (old : Members) → get_member (codes "currentRevision") (new_status set parts old) ≡ Some (string parts.current_revision)
named_in set parts old =
    let name = codes "currentRevision" in
    let behind = behind_current set parts old in
    let with_current = put name (string parts.current_revision) behind in
    get_member-put_other name (codes "collisionCount") (number (unsigned set.collisions)) (put_number (codes "currentReplicas") parts.current_replicas with_current) (others_name name (codes "collisionCount") refl)
    ∙ (get_member-put_other name (codes "currentReplicas") (number (unsigned parts.current_replicas)) with_current (others_name name (codes "currentReplicas") refl)
    ∙ get_member-put name (string parts.current_revision) behind)

pub names_current : (set : SetParts) (parts : StatusParts) → set_of set.object ≡ Ok set → built_status set parts ≡ None → set.current ≡ Some parts.current_revision
names_current set parts read none =
    let r : IsReadAs set.object set = read_as set.object set read in
    let current : set.current ≡ option_and_then as_str (inside (codes "currentRevision") (status_in set)) = ap (λ (x : SetParts). x.current) r.5 in
    current
    ∙ (ap (λ x. option_and_then as_str (inside (codes "currentRevision") x)) (status_there set parts none)
    ∙ ap (option_and_then as_str) (named_in set parts (old_status set)))

-- ---- the current revision of a plan
same_current : (a b : List Object) (c d e f : Object) → settled a c e ≡ settled b d f → c ≡ d
same_current a b c d e f same = cc

pub current_is : (set : SetParts) (digits : ℕ) (s : Store) (plan : IsPlannedOver set digits s) → plan.current ≡ unwrap_or (named_current set (owned_of set (revisions_in s set))) plan.update
current_is set digits s plan =
    let owned = owned_of set (revisions_in s set) in
    let held = is_held (listed set (revisions_in s set)) in
    let newest : IsNewest (data_with set.template) owned plan.update = newest_of set held digits owned plan.owned plan.current plan.update plan.in_place in
    let current = unwrap_or (named_current set owned) plan.update in
    same_current plan.owned owned plan.current current plan.update plan.update (in_place_by set held digits owned plan.update (settled plan.owned plan.current plan.update) newest plan.in_place)

named_there : (owned : List Object) (called : Option (List ℕ)) (o : Object) → option_and_then (named_among owned) called ≡ Some o → Among o owned
named_there owned None o is = absurd (cc)
named_there owned (Some called) o is = found_there (λ x. bytes_eq called x.key.name) owned o is

found_named : (owned : List Object) (o : Object) → Among o owned → ((x : Object) → Among x owned → o.key.name ≡ x.key.name → x ≡ o) → named_among owned o.key.name ≡ Some o
found_named owned o at one =
    let test : Object → Bool = λ x. bytes_eq o.key.name x.key.name in
    elim (find test owned) as (λ found. find test owned ≡ found → found ≡ Some o) [
      | None ↦ λ h. absurd (true≢false (sym ((bytes_eq-Decides o.key.name o.key.name).1 refl) ∙ none_found test owned o h at))
      | Some x ↦ λ h. ap Some (one x (found_there test owned x h) ((bytes_eq-Decides o.key.name x.key.name).0 (passes_in test owned x h)))
    ] refl

or_last : (b c : Bool) → (b || (c || true)) ≡ true
or_last true c = refl
or_last false true = refl
or_last false false = refl

-- ---- a round
module _ (set : SetParts) (update : List ℕ) (digits : ℕ) (s t : Store) (round : IsPlacedRound set update digits s t)
    (none : pod_steps (full_steps round.now round.plan.pods) ≡ []) (tended : AllByRecursion IsTendedPod (listed_in s round.now.object.key Pod)) where
  abbrev now : SetParts
  now = round.now

  abbrev called : List ℕ
  called = name set update digits s t round none tended

  abbrev pub parts : StatusParts
  parts = counted now digits round.moment s round.plan round.is_time round.may_act round.is_read.there round.is_read.read

  -- the revision that the plan's status names as the current one
  abbrev pub named : Object
  named = if is_rolled_out now round.plan.pods then round.plan.update else round.plan.current

  named_is : named.key.name ≡ called
  named_is =
      elim (is_rolled_out now round.plan.pods) as (λ b. (if b then round.plan.update else round.plan.current).key.name ≡ (if b then round.plan.update.key.name else round.plan.current.key.name)) [ true ↦ refl | false ↦ refl ]

  current_owned : Among round.plan.current (owned_now set update digits s t round none tended)
  current_owned = subst (λ o. Among o (owned_of now (revisions_in s now))) (sym (current_is now digits s round.plan)) (found (named_current now (owned_of now (revisions_in s now))) refl)
    where
      found : (x : Option Object) → named_current now (owned_of now (revisions_in s now)) ≡ x → Among (unwrap_or x round.plan.update) (owned_of now (revisions_in s now))
      found None is = update_owned now digits round.moment s round.plan round.is_time round.may_act round.is_read.there round.is_read.read
      found (Some o) is = named_there (owned_of now (revisions_in s now)) now.current o is

  named_owned : Among named (owned_now set update digits s t round none tended)
  named_owned =
      elim (is_rolled_out now round.plan.pods) as (λ b. Among (if b then round.plan.update else round.plan.current) (owned_now set update digits s t round none tended)) [
        | true ↦ update_owned now digits round.moment s round.plan round.is_time round.may_act round.is_read.there round.is_read.read
        | false ↦ current_owned
      ]

  not_expired : (o : Object) → Among o (expired set update digits s t round none tended) → o.key.name ≢ named.key.name
  not_expired o at same =
      let upd = round.plan.update.key.name in
      live_stays now digits round.moment s round.plan round.is_time round.may_act round.is_read.there round.is_read.read o at
      (ap (λ b. has_pod now (views_in now s) o.key.name || (bytes_eq o.key.name upd || b)) ((bytes_eq-Decides o.key.name called).1 (same ∙ named_is))
      ∙ or_last (has_pod now (views_in now s) o.key.name) (bytes_eq o.key.name upd))

  module _ (next : SetParts) (is_read : IsReadIn t next) (key : next.object.key ≡ set.object.key) (whole : members_have_float (old_status now) ≡ false) where
    abbrev owned : List Object
    owned = owned_then set update digits s t round none tended next is_read key

    pub status_is : built_status next parts ≡ None
    status_is =
        let keys : next.object.key ≡ now.object.key = key ∙ sym round.key_is in
        let kind : next.object.key.kind ≡ StatefulSet = ap (λ (k : Key). k.kind) keys ∙ round.may_act.kind in
        let shown : IsReadIn (then_planned set update digits s t round none tended) next = record {
          there = sym (by_the_plan set update digits s t round none tended StatefulSet next.object.key refl kind) ∙ is_read.there;
          read = is_read.read;
        } in
        status_stays now digits round.moment s round.plan round.is_time round.may_act round.is_read.there round.is_read.read whole next shown keys

    named_then : Among named owned
    named_then = stays_owned set update digits s t round none tended next is_read key named named_owned not_expired

    named_again : named_current next owned ≡ Some named
    named_again =
        let there : (o : Object) → Among o owned → IsOwnedIn t next o = owned_there t next (filed_then set update digits s t round) in
        ap (option_and_then (named_among owned)) (names_current next parts is_read.read status_is ∙ ap Some (sym named_is))
        ∙ found_named owned named named_then (λ x at same. one_of_name t next x named (there x at) (there named named_then) (sym same))

    pub current_then : (plan : IsPlannedOver next digits t) → plan.current ≡ named
    current_then plan = current_is next digits t plan ∙ ap (λ x. unwrap_or x plan.update) named_again
