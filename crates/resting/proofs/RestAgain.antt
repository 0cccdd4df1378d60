-- A round over a set whose pods stand leaves a set at rest.
use Rattle.std.proofs.Common.{◌≡◌, inl, inr, ℕ, Bool, true, false, if◌then◌else◌, List, [], ◌∷◌, ◌++◌, bytes_eq, option_and_then, Option, Some, None, Ok, refl, sym, ap, ◌∙◌, subst}
use Rattle.std.specs.Prelude.{◌&&◌}
use Rattle.std.specs.FinMap as finite
use Rattle.std.specs.List.{AllByRecursion, cons_option, filter_map, flat_map}
use Rattle.serde_json.specs.Data.{Data}
use Rattle.serde_json.specs.Written.{members_have_float}
use Rattle.objects.specs.declared.key.Key.{Key}
use Rattle.objects.specs.declared.kind.Kind.TheVariants as kinds
use Rattle.objects.specs.declared.object.Object.{Object}
use Rattle.objects.specs.Key.{key_parts}
use Rattle.objects.specs.PodNames.{claim_name, pod_name}
use Rattle.requests.specs.Lists.{Has as Among}
use Rattle.set_views.specs.declared.policies.Retention.{Retention}
use Rattle.set_views.specs.declared.policies.Retention.TheVariants.{Delete, Retain}
use Rattle.set_views.specs.Claims.{Claim}
use Rattle.set_views.specs.Firsts.{is_held}
use Rattle.set_views.specs.Predicates.{in_namespace, in_range}
use Rattle.set_views.specs.Set.{SetParts}
use Rattle.revisions.specs.History.{expired_revisions}
use Rattle.revisions.specs.Plan.{settled}
use Rattle.revisions.specs.Revision.{listed}
use Rattle.pod_steps.specs.FullSteps.{full_steps, keep_steps}
use Rattle.pod_steps.specs.Listed.{replicas_in}
use Rattle.pod_steps.specs.Replicas.{AreInOrder, Pods, ordinals}
use Rattle.pod_steps.specs.Step.{pod_steps}
use Rattle.pod_steps.proofs.Firsts.{replicas_in_order}
use Rattle.pod_steps.proofs.OrderedReadyPlans.{after_keep_steps}
use Rattle.manifests.specs.BuiltStatus.{old_status}
use Rattle.collector.specs.Collectable.{collection as collectable}
use Rattle.claims.specs.declared.change.ClaimChange.TheVariants as changes
use Rattle.claims.specs.Changes.{entries_of, keep_claims, update as update_claim, with_owner_entries}
use Rattle.claims.specs.Listed.{listed_claim}
use Rattle.claims.specs.Owners.{are_wanted, owner_in_range, wanted_entries}
use Rattle.plain_store.specs.AtKey.{Has}
use Rattle.plain_store.specs.Run.{after}
use Rattle.plain_store.specs.Store.{Store, collection}
use Rattle.plain_store.proofs.CompleteLists.{listed_there}
use Rattle.rounds.proofs.Lists.{contains_among}
use Rattle.controllers.specs.Reconciler.{reconciler_with}
use Rattle.rounds.specs.Reconciler.{Reconciler}
use Rattle.sets.specs.Actions.{Claims, name_at}
use Rattle.sets.specs.PlanOfLists.{owned_of}
use Rattle.convergence.specs.Standing.{Stands}
use Rattle.convergence.proofs.Standing.{standing}
use Rattle.resting.specs.Acting.{AreWhole, IsPlannedOver, IsReadIn, IsUnrefusedOver, after_plan, planned_requests, views_in}
use Rattle.resting.specs.Rest.{IsAtRest, RestsOver}
use Rattle.resting.specs.RoundsOver.{IsAlike}
use Rattle.resting.specs.Still.{IsTendedPod, listed_in, owners_in, plan_over}
use Rattle.resting.specs.WholeRounds.{MayCollect, collection_over}
use Rattle.resting.proofs.AcceptedPlans.{claim_key_is}
use Rattle.resting.proofs.ClaimsKept.{wanted_then}
use Rattle.resting.proofs.CollectedOnce.{none_left}
use Rattle.resting.proofs.CountsAgain.{range_alike, same_name, stand_then, stands_by, status_then}
use Rattle.resting.proofs.HistoryKept.{none_expired_then, read_then}
use Rattle.resting.proofs.OwnedAgain.{revisions_in}
use Rattle.resting.proofs.PodsStay.{left_by_plan, left_is}
use Rattle.resting.proofs.PlanApart.{claim_key}
use Rattle.resting.proofs.PlainPods.{all_plain}
use Rattle.resting.proofs.PlansOnPods.{filed_run}
use Rattle.resting.proofs.ReadAgain.{IsReadLike}
use Rattle.resting.proofs.RevisionRounds.{filed_then}
use Rattle.resting.proofs.RoundsOnPods.{replicas_are}
use Rattle.resting.proofs.RoundsOver.{IsPlacedRound, between_is, one_seen, seen_list, seen_plan}
use Rattle.resting.proofs.StandOver.{in_place_then}
use Rattle.resting.proofs.UpToDate.{found_there, settled_owned}
use Rattle.resting.proofs.WholeRounds.{plan_over_is}

-- ---- lists
none_made : {X Y : Type 0} (h : X → Option Y) (xs : List X) → ((x : X) → Among x xs → h x ≡ None) → filter_map h xs ≡ []
none_made h [] each = refl
none_made h (x ∷ xs) each = ap (λ found. cons_option found (filter_map h xs)) (each x (inl refl)) ∙ none_made h xs (λ y at. each y (inr at))

-- ---- the owners of a claim of an ordinal in range
abbrev with_uid : SetParts → ℕ → SetParts
with_uid set uid = record set { object = record set.object { meta = record set.object.meta { uid = uid } } }

abbrev with_retention : SetParts → Retention → SetParts
with_retention set when = record set { when_deleted = when }

same_wanted : (set now : SetParts) (pod : List ℕ) (when : Retention) (entries : List Data)
    → are_wanted (with_uid now set.object.meta.uid) pod (owner_in_range (with_retention set when)) entries ≡ are_wanted set pod (owner_in_range (with_retention set when)) entries
same_wanted set now pod Retain entries = refl
same_wanted set now pod Delete entries = refl

wanted_alike : (set now : SetParts) (pod : List ℕ) (entries : List Data) → now.object.meta.uid ≡ set.object.meta.uid → now.when_deleted ≡ set.when_deleted
    → are_wanted now pod (owner_in_range now) entries ≡ are_wanted set pod (owner_in_range set) entries
wanted_alike set now pod entries uid when =
    (λ j. are_wanted (with_uid now (uid j)) pod (owner_in_range (with_retention set (when j))) entries) ∙ same_wanted set now pod set.when_deleted entries

-- ---- a round over pods that stand
module _ (set : SetParts) (update : List ℕ) (digits : ℕ) (s t : Store) (round : IsPlacedRound set update digits s t)
    (stands : Stands round.now round.plan.pods) (tended : AllByRecursion IsTendedPod (listed_in s round.now.object.key kinds.Pod)) where
  abbrev now : SetParts
  now = round.now

  sorted : AreInOrder round.plan.pods
  sorted = replicas_in_order now round.plan.update.key.name round.plan.current.key.name (views_in now s) round.plan.pods (replicas_are now digits round.moment s round.plan)

  kept : full_steps now round.plan.pods ≡ flat_map keep_steps (ordinals now) ++ []
  kept = standing now round.plan.pods sorted stands

  none : pod_steps (full_steps now round.plan.pods) ≡ []
  none = ap pod_steps kept ∙ after_keep_steps (ordinals now) []

  -- no claim is left to collect
  pub none_to_collect : let key = now.object.key in MayCollect (reconciler_with key digits round.moment) (after_plan now digits round.moment s)
      → collectable (listed_in t key kinds.PersistentVolumeClaim) (owners_in t key) t.counter ≡ []
  none_to_collect may =
      let key = now.object.key in
      let c : Reconciler = reconciler_with key digits round.moment in
      let planned : Store = after_plan now digits round.moment s in
      let planned_is : after s (plan_over c s now.object) ≡ planned = ap (after s) (plan_over_is now digits round.moment s round.is_read.read) in
      let collected : t ≡ after planned (collection_over c planned) =
      left_is set update digits s t round none tended ∙ (between_is set update update digits s t round ∙ ap (λ (x : Store). after x (collection_over c x)) planned_is) in
      let P : Store → Type 0 = λ x. collectable (listed_in x key kinds.PersistentVolumeClaim) (owners_in x key) x.counter ≡ [] in
      subst P (sym collected) (none_left key digits round.moment planned (filed_run s (planned_requests now digits round.moment s) round.may_act.filed) may.0 may.1)

  module _ (next : SetParts) (is_read : IsReadIn t next) (key : next.object.key ≡ set.object.key) where
    abbrev again : IsReadLike now next.object next
    again = read_then set update digits s t round none tended next is_read key

    abbrev shown : Claims
    shown = listed_claim next (listed_in t next.object.key kinds.PersistentVolumeClaim)

    -- a listed claim has the owners that it is to have
    as_wanted : (i : ℕ) → in_range next i ≡ true → (c : Claim) → Among c next.claims → (o : Object) → shown (claim_name c.0 next.object.key.name i) ≡ Some o
        → are_wanted next (name_at next i) (owner_in_range next) (entries_of o) ≡ true
    as_wanted i within c at o found =
        let space = next.object.key.namespace in
        let os = collection t.objects kinds.PersistentVolumeClaim space in
        let test : Object → Bool = λ x. in_namespace next kinds.PersistentVolumeClaim x && bytes_eq x.key.name (claim_name c.0 next.object.key.name i) in
        let there : Has t o.key o = (listed_there t.objects kinds.PersistentVolumeClaim space o (filed_then set update digits s t round) (contains_among o os (found_there test os o found))).0 in
        let own : o.key ≡ claim_key now c.0 i =
        claim_key_is next (listed_in t next.object.key kinds.PersistentVolumeClaim) (claim_name c.0 next.object.key.name i) o found
        ∙ ap (λ (k : Key). key_parts kinds.PersistentVolumeClaim k.namespace (claim_name c.0 k.name i)) again.alike.key in
        let here : Has t (claim_key now c.0 i) o = subst (λ (k : Key). Has t k o) own there in
        let has = round.may_turn.members (claim_key now c.0 i) o (ap (λ (x : Store). finite.get x.objects (claim_key now c.0 i)) (sym (left_is set update digits s t round none tended)) ∙ here) in
        let fine = wanted_then now digits round.moment s round.plan round.is_time round.may_act round.is_read.there round.is_read.read kept i
        (sym (range_alike now next i again.alike) ∙ within) c (subst (Among c) again.claims at) o (left_by_plan set update digits s t round none tended (claim_key now c.0 i) o here) has in
        wanted_alike now next (name_at next i) (entries_of o) again.alike.uid again.when_deleted
        ∙ ((λ j. are_wanted now (pod_name (again.alike.key j).name i) (owner_in_range now) (entries_of o)) ∙ fine)

    claims_kept_then : (i : ℕ) → in_range next i ≡ true → keep_claims next shown i ≡ []
    claims_kept_then i within =
        none_made (λ (c : Claim). option_and_then (update_claim next (name_at next i) (owner_in_range next)) (shown (claim_name c.0 next.object.key.name i))) next.claims (λ c at. of_found c at (shown (claim_name c.0 next.object.key.name i)) refl)
      where
        of_found : (c : Claim) → Among c next.claims → (found : Option Object) → shown (claim_name c.0 next.object.key.name i) ≡ found → option_and_then (update_claim next (name_at next i) (owner_in_range next)) found ≡ None
        of_found c at None is = refl
        of_found c at (Some o) is =
            ap (λ b. if b then None else Some (changes.Update (with_owner_entries o (wanted_entries next (name_at next i) (owner_in_range next) (entries_of o))))) (as_wanted i within c at o is)

    module _ (whole : members_have_float (old_status now) ≡ false) (plan : IsPlannedOver next digits t) (same_update : plan.update ≡ round.plan.update) where
      owned_are : plan.owned ≡ owned_of next (revisions_in t next)
      owned_are = settled_owned next (is_held (listed next (revisions_in t next))) digits (owned_of next (revisions_in t next)) plan.owned plan.current plan.update plan.in_place

      pub rests : IsAtRest next shown (views_in next t) plan.owned plan.current plan.update plan.pods
      rests = record {
        stands = stand_then set update digits s t round none tended next is_read key whole plan same_update stands;
        claims_kept = claims_kept_then;
        none_expired =
            let names = same_name set update digits s t round none tended next is_read key whole plan same_update in
            (λ j. expired_revisions next (views_in next t) (names j) (same_update j).key.name (owned_are j))
            ∙ none_expired_then set update digits s t round none tended next is_read key;
        status_written = status_then set update digits s t round none tended next is_read key whole plan same_update;
      }

-- ---- with that update revision in place
module _ (set : SetParts) (chosen : Object) (digits : ℕ) (s t : Store) (current : List ℕ) (pods : Pods)
    (round : IsPlacedRound set chosen.key.name digits s t) (is_chosen : round.plan.update ≡ chosen) (alike : IsAlike set round.now) (are : replicas_in set chosen.key.name current (views_in set s) ≡ Ok pods)
    (stands : Stands set pods) (tended : AllByRecursion IsTendedPod (listed_in s set.object.key kinds.Pod)) (whole : members_have_float (old_status round.now) ≡ false) where
  abbrev update : List ℕ
  update = chosen.key.name

  stands_now : Stands round.now round.plan.pods
  stands_now =
      let plains : all_plain round.plan.pods ≡ all_plain pods =
      one_seen set update current digits s (all_plain round.plan.pods) (all_plain pods) (seen_plan set update current digits s t round alike) (seen_list set update current digits s pods are) in
      stands_by set round.now alike round.plan.pods pods plains stands

  tended_now : AllByRecursion IsTendedPod (listed_in s round.now.object.key kinds.Pod)
  tended_now = let P : Key → Type 0 = λ k. AllByRecursion IsTendedPod (listed_in s k kinds.Pod) in subst P (sym alike.key) tended

  pub none_over : let key = round.now.object.key in MayCollect (reconciler_with key digits round.moment) (after_plan round.now digits round.moment s)
      → collectable (listed_in t key kinds.PersistentVolumeClaim) (owners_in t key) t.counter ≡ []
  none_over = none_to_collect set update digits s t round stands_now tended_now

  -- the set at rest, if its plan is not refused
  pub rests_over : (next : SetParts) → IsReadIn t next → next.object.key ≡ set.object.key → IsUnrefusedOver next digits t
      → RestsOver next digits (listed_in t next.object.key kinds.ControllerRevision) (listed_in t next.object.key kinds.Pod) (listed_in t next.object.key kinds.PersistentVolumeClaim)
  rests_over next is_read key unrefused =
      let stays = in_place_then set current digits chosen s t round is_chosen in
      let settles = stays next unrefused.revisions is_read key unrefused.are in
      let fits : AreWhole next t (settled settles.0 settles.1 chosen) = subst (AreWhole next t) settles.2 unrefused.whole in
      let plan : IsPlannedOver next digits t = record {
        owned = settles.0;
        current = settles.1;
        update = chosen;
        pods = fits.0;
        in_place = unrefused.are ∙ ap Ok settles.2;
        fit = fits.1;
        whole = fits.2;
      } in
      record {
        owned = plan.owned;
        current = plan.current;
        update = chosen;
        replicas = plan.pods;
        in_place = plan.in_place;
        fit = plan.fit;
        at_rest = rests set update digits s t round stands_now tended_now next is_read key whole plan (sym is_chosen);
      }
