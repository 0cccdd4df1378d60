-- Rounds over a store bring a set to rest.
use Rattle.std.proofs.Common.{◌≡◌, ◌⊎◌, inl, inr, ◌≤◌, ℕ, zero, suc, false, List, [], filter, Ok, arith, sym, ap, ◌∙◌, subst}
use Rattle.std.specs.FinMap as finite
use Rattle.std.specs.List.{AllByRecursion}
use Rattle.std.specs.Option.{is_some}
use Rattle.serde_json.specs.Written.{members_have_float}
use Rattle.objects.specs.declared.key.Key.{Key}
use Rattle.objects.specs.declared.kind.Kind.TheVariants.{ControllerRevision, PersistentVolumeClaim, Pod}
use Rattle.objects.specs.declared.object.Object.{Object}
use Rattle.requests.specs.Lists.{Has as Among}
use Rattle.set_views.specs.declared.policies.Policy.TheVariants.{OrderedReady}
use Rattle.set_views.specs.declared.readiness.Readiness.{Readiness}
use Rattle.set_views.specs.declared.readiness.Readiness.TheVariants.{Failed, NotReady, Ready}
use Rattle.set_views.specs.Readiness.{readiness_of}
use Rattle.set_views.specs.Firsts.{first_of_each}
use Rattle.set_views.specs.Predicates.{in_namespace}
use Rattle.set_views.specs.Set.{SetParts}
use Rattle.collector.specs.Collectable.{collection as collectable}
use Rattle.pod_steps.specs.Listed.{replicas_in}
use Rattle.pod_steps.specs.Replicas.{Pods}
use Rattle.manifests.specs.BuiltStatus.{old_status}
use Rattle.plain_store.specs.Filed.{AreFiled}
use Rattle.plain_store.specs.Store.{Store}
use Rattle.plain_store.proofs.CompleteLists.{listed_there}
use Rattle.rounds.proofs.Lists.{contains_among}
use Rattle.sets.proofs.Ordered.{all_among}
use Rattle.sets.proofs.Owned.{first_among}
use Rattle.controllers.specs.Reconciler.{reconciler_with}
use Rattle.controllers.proofs.PlannedActions.{among_all}
use Rattle.convergence.specs.Standing.{AreTended, Stands}
use Rattle.convergence.specs.Stopped.{IsStopped}
use Rattle.resting.specs.Acting.{IsReadIn, IsUnrefusedOver, after_plan, after_turn, views_in}
use Rattle.resting.specs.Rest.{RestsOver}
use Rattle.resting.specs.RoundsOver.{AreRoundsOver, IsAlike, IsInPlace, IsRoundOver}
use Rattle.resting.specs.Still.{IsTendedPod, ShowsRest, listed_in, owners_in}
use Rattle.resting.specs.Turns.{IsTurnOver, ready_or_ended}
use Rattle.resting.specs.WholeRounds.{MayCollect}
use Rattle.resting.proofs.Lists.{tended_over}
use Rattle.resting.proofs.Pairs.{all_filtered}
use Rattle.resting.proofs.RestAgain.{none_over, rests_over}
use Rattle.resting.proofs.RoundsOver.{IsEnough, IsHere, alike_as_is, alike_now, here_then, same_read}
use Rattle.resting.proofs.StandOver.{in_place_then, placed, stand_over}
use Rattle.resting.proofs.Turns.{turn_is_over}
use Rattle.resting.proofs.TurnsOnPods.{still_filed, was_there}

-- ---- a kubelet's turn tends the pods
not_unready : (r : Readiness) → ready_or_ended r ≡ NotReady → ⊥
not_unready Ready is = absurd (cc)
not_unready NotReady is = absurd (cc)
not_unready Failed is = absurd (cc)

module _ (set : SetParts) (s t : Store) (filed : AreFiled s.objects) (turn : IsTurnOver set.object.key.namespace s t) where
  one_tended : (p : Object) → Among p (listed_in t set.object.key Pod) → IsTendedPod p
  one_tended p at =
      let l = listed_there t.objects Pod set.object.key.namespace p (still_filed set s t filed turn) (contains_among p (listed_in t set.object.key Pod) at) in
      let w = was_there set s t filed turn p.key p l.1 l.0 in
      (ap is_some w.3.deletion ∙ w.2, λ unready. not_unready (readiness_of w.0.body) (sym w.3.readiness ∙ unready))

  all_tended : AllByRecursion IsTendedPod (listed_in t set.object.key Pod)
  all_tended = all_among IsTendedPod (listed_in t set.object.key Pod) one_tended

-- ---- so a plan sees them
pub seen_tended : (set : SetParts) (update current : List ℕ) (s : Store) (pods : Pods) → AllByRecursion IsTendedPod (listed_in s set.object.key Pod) → replicas_in set update current (views_in set s) ≡ Ok pods → AreTended pods
seen_tended set update current s pods all shown =
    let there = filter (in_namespace set Pod) (listed_in s set.object.key Pod) in
    let kept : AllByRecursion IsTendedPod there = all_filtered IsTendedPod (in_namespace set Pod) (listed_in s set.object.key Pod) all in
    tended_over set update current (listed_in s set.object.key Pod) pods (all_among IsTendedPod (first_of_each there) (λ o at. among_all IsTendedPod there o kept (first_among there o at))) shown

-- ---- a round tends them
module _ (set : SetParts) (digits : ℕ) where
  abbrev AreTendedIn : Store → Type 0
  AreTendedIn t = AllByRecursion IsTendedPod (listed_in t set.object.key Pod)

  pub tended_then : (s t : Store) → IsRoundOver set digits s t → AreTendedIn t
  tended_then s t round =
      let P : Key → Type 0 = λ k. AllByRecursion IsTendedPod (listed_in t k Pod) in
      let Q : Store → Type 0 = λ x. AllByRecursion IsTendedPod (listed_in x round.now.object.key Pod) in
      let end = after_turn round.now.object.key.namespace round.between in
      subst P round.key_is (subst Q (sym round.left) (all_tended round.now round.between end round.may_turn.filed (turn_is_over round.between round.now.object.key.namespace round.may_turn)))

  -- so do several
  pub tended_last : (k : ℕ) (s t : Store) → AreRoundsOver set digits (suc k) s t → AreTendedIn t
  tended_last zero s t rounds = subst AreTendedIn rounds.2 (tended_then s rounds.0 rounds.1)
  tended_last (suc k) s t rounds = tended_last k rounds.0 t rounds.2

  pub tended_by : (k : ℕ) (s t : Store) → 1 ≤ k → AreRoundsOver set digits k s t → AreTendedIn t
  tended_by zero s t some rounds = absurd (omega arith)
  tended_by (suc k) s t some rounds = tended_last k s t rounds

-- ---- the set and its update revision through rounds
module _ (set : SetParts) (current : List ℕ) (digits : ℕ) (chosen : Object) where
  abbrev update : List ℕ
  update = chosen.key.name

  here_last : (k : ℕ) (s t : Store) → IsHere set update current digits s → IsInPlace set digits chosen s → AreRoundsOver set digits k s t → IsHere set update current digits t × IsInPlace set digits chosen t
  here_last zero s t here at same = (subst (IsHere set update current digits) same here, subst (IsInPlace set digits chosen) same at)
  here_last (suc k) s t here at rounds =
      let r = placed set current digits chosen s rounds.0 at rounds.1 in
      here_last k rounds.0 t (here_then set update current digits s rounds.0 here r.0) (in_place_then set current digits chosen s rounds.0 r.0 r.1) rounds.2

  -- a round over pods that stand
  rests_after : (t u : Store) (last : Pods) → IsHere set update current digits t → IsInPlace set digits chosen t → (round : IsRoundOver set digits t u) → replicas_in set update current (views_in set t) ≡ Ok last → Stands set last → AreTendedIn set digits t
      → members_have_float (old_status round.now) ≡ false → (next : SetParts) → IsReadIn u next → next.object.key ≡ set.object.key → IsUnrefusedOver next digits u
      → RestsOver next digits (listed_in u set.object.key ControllerRevision) (listed_in u set.object.key Pod) (listed_in u set.object.key PersistentVolumeClaim)
  rests_after t u last here at round are stands tended whole next is_read key unrefused =
      let r = placed set current digits chosen t u at round in
      let alike : IsAlike set r.0.now = alike_now set update current digits t u here r.0 in
      let now_is : round.now ≡ r.0.now = same_read set update current digits t round.now r.0.now round.is_read r.0.is_read (r.0.key_is ∙ sym round.key_is) in
      let P : Key → Type 0 = λ k. RestsOver next digits (listed_in u k ControllerRevision) (listed_in u k Pod) (listed_in u k PersistentVolumeClaim) in
      let Q : SetParts → Type 0 = λ x. members_have_float (old_status x) ≡ false in
      subst P key (rests_over set chosen digits t u current last r.0 r.1 alike are stands tended (subst Q now_is whole) next is_read key unrefused)

  -- its collection leaves no claim to collect
  collected_after : (t u : Store) (last : Pods) → IsHere set update current digits t → IsInPlace set digits chosen t → (round : IsRoundOver set digits t u) → replicas_in set update current (views_in set t) ≡ Ok last → Stands set last → AreTendedIn set digits t
      → members_have_float (old_status round.now) ≡ false → MayCollect (reconciler_with set.object.key digits round.moment) (after_plan round.now digits round.moment t)
      → collectable (listed_in u set.object.key PersistentVolumeClaim) (owners_in u set.object.key) u.counter ≡ []
  unfolding placed
  collected_after t u last here at round are stands tended whole may =
      let r = placed set current digits chosen t u at round in
      let P : Key → Type 0 = λ k. MayCollect (reconciler_with k digits round.moment) (after_plan round.now digits round.moment t) in
      let Q : Key → Type 0 = λ k. collectable (listed_in u k PersistentVolumeClaim) (owners_in u k) u.counter ≡ [] in
      subst Q round.key_is (none_over set chosen digits t u current last r.0 r.1 (alike_now set update current digits t u here r.0) are stands tended whole (subst P (sym round.key_is) may))

  shows : (u : Store) (next : SetParts) → IsReadIn u next → next.object.key ≡ set.object.key → RestsOver next digits (listed_in u set.object.key ControllerRevision) (listed_in u set.object.key Pod) (listed_in u set.object.key PersistentVolumeClaim)
      → collectable (listed_in u set.object.key PersistentVolumeClaim) (owners_in u set.object.key) u.counter ≡ [] → ShowsRest set.object.key digits u
  shows u next is_read key rests none = record {
    object = next.object;
    set = next;
    found = ap (finite.get u.objects) (sym key) ∙ is_read.there;
    is_read = is_read.read;
    at_rest = rests;
    none_left = none;
  }

  pub come_to_rest : (k : ℕ) (s t u : Store) (pods last : Pods) → IsHere set update current digits s → IsInPlace set digits chosen s → AreRoundsOver set digits k s t
      → replicas_in set update current (views_in set s) ≡ Ok pods → replicas_in set update current (views_in set t) ≡ Ok last → IsEnough set update current digits pods k → AreTendedIn set digits t
      → (round : IsRoundOver set digits t u) → members_have_float (old_status round.now) ≡ false → (next : SetParts) → IsReadIn u next → next.object.key ≡ set.object.key → IsUnrefusedOver next digits u
      → (collectable (listed_in u set.object.key PersistentVolumeClaim) (owners_in u set.object.key) u.counter ≡ []) ⊎ MayCollect (reconciler_with set.object.key digits round.moment) (after_plan round.now digits round.moment t)
      → ShowsRest set.object.key digits u ⊎ ((set.policy ≡ OrderedReady) × IsStopped set pods)
  come_to_rest k s t u pods last here at rounds first end enough tended round whole next is_read key unrefused collected =
      let kept = here_last k s t here at rounds in
      elim (stand_over set current digits chosen k s t pods last here at rounds first end enough) [
        | inl stands ↦
            let none : collectable (listed_in u set.object.key PersistentVolumeClaim) (owners_in u set.object.key) u.counter ≡ [] =
            elim collected [
              | inl none ↦ none
              | inr may ↦ collected_after t u last kept.0 kept.1 round end stands tended whole may
            ] in
            inl (shows u next is_read key (rests_after t u last kept.0 kept.1 round end stands tended whole next is_read key unrefused) none)
        | inr stopped ↦ inr stopped
      ]

  -- from a set that stands
  pub stands_then_rests : (s t : Store) (pods : Pods) → IsReadIn s set → IsInPlace set digits chosen s → (round : IsRoundOver set digits s t) → replicas_in set update current (views_in set s) ≡ Ok pods → Stands set pods
      → AllByRecursion IsTendedPod (listed_in s set.object.key Pod) → members_have_float (old_status set) ≡ false → (next : SetParts) → IsReadIn t next → next.object.key ≡ set.object.key → IsUnrefusedOver next digits t
      → RestsOver next digits (listed_in t set.object.key ControllerRevision) (listed_in t set.object.key Pod) (listed_in t set.object.key PersistentVolumeClaim)
  stands_then_rests s t pods read at round are stands tended whole next is_read key unrefused =
      let now_is : set ≡ round.now = same_read set update current digits s set round.now read round.is_read round.key_is in
      let P : SetParts → Type 0 = λ x. members_have_float (old_status x) ≡ false in
      rests_after s t pods (set, read, alike_as_is set) at round are stands tended (subst P now_is whole) next is_read key unrefused
