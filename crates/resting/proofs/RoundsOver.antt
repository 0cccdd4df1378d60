-- Rounds over a store bring the pods of a set to what its spec says, as rounds on pods do.
use Rattle.std.proofs.Common.{◌≡◌, ◌≢◌, ◌⊎◌, inl, inr, ◌+◌, ◌*◌, ◌≤◌, ◌==◌, ℕ, true, false, if◌then◌else◌, List, [], map, filter, find, bytes_eq, option_map, option_and_then, Option, Some, None, Result, Ok, refl, sym, ap, ◌∙◌, subst}
use Rattle.std.specs.Prelude.{◌&&◌}
use Rattle.std.specs.FinMap as finite
use Rattle.std.specs.List.{AllByRecursion, list_any}
use Rattle.std.specs.Option.{option_map_or}
use Rattle.std.proofs.lemmas.Option.{same_Some}
use Rattle.objects.specs.declared.key.Key.{Key}
use Rattle.objects.specs.declared.kind.Kind.{Kind}
use Rattle.objects.specs.declared.kind.Kind.TheVariants.{Pod, StatefulSet}
use Rattle.objects.specs.declared.object.Object.{Object}
use Rattle.objects.specs.Key.{kind_index}
use Rattle.set_views.specs.declared.policies.Policy.TheVariants.{OrderedReady}
use Rattle.set_views.specs.declared.policies.Strategy.{Strategy}
use Rattle.set_views.specs.declared.readiness.Readiness.TheVariants.{Ready}
use Rattle.set_views.specs.Firsts.{first_of_each}
use Rattle.set_views.specs.Owners.{is_controlled}
use Rattle.set_views.specs.Pod.{PodParts}
use Rattle.set_views.specs.Predicates.{is_kind}
use Rattle.set_views.specs.Set.{SetParts}
use Rattle.set_views.specs.SetReading.{set_of}
use Rattle.set_views.specs.declared.fault.PlanError.{PlanError}
use Rattle.pod_steps.specs.declared.replica.Replica.{Replica}
use Rattle.pod_steps.specs.declared.step.Step.{Step}
use Rattle.pod_steps.specs.FullSteps.{full_steps, revision_at}
use Rattle.pod_steps.specs.Listed.{has_revision, replica_of, replicas_in}
use Rattle.pod_steps.specs.Replicas.{AreInOrder, Pods, is_failed, is_out_of_range, pod_at}
use Rattle.pod_steps.specs.Step.{pod_steps}
use Rattle.pod_steps.proofs.Firsts.{replicas_in_order}
use Rattle.pod_steps.proofs.Same.{same_pods}
use Rattle.plain_store.specs.AtKey.{Has}
use Rattle.plain_store.specs.Filed.{AreFiled}
use Rattle.plain_store.specs.Run.{after}
use Rattle.plain_store.specs.Store.{Store, collection, is_of}
use Rattle.rounds.specs.Phase.{Phase}
use Rattle.controllers.specs.Reconciler.{reconciler_with}
use Rattle.sets.specs.Plan.{most_actions}
use Rattle.sets.specs.PlanOfLists.{view_of, views_of}
use Rattle.convergence.specs.Left.{most_rounds}
use Rattle.convergence.specs.Rounds.{AreRounds, IsNew, IsRound, after_round as after_round_of, creates, deletes, made_ready, tended}
use Rattle.convergence.specs.Standing.{AreTended, IsTended, Stands}
use Rattle.convergence.specs.Stopped.{IsLeftOver, IsStopped}
use Rattle.convergence.proofs.Comes.{comes_to_stand, tended_come_to_stand}
use Rattle.resting.specs.Acting.{IsPlannedOver, IsReadIn, MayAct, after_plan, after_turn, views_in}
use Rattle.resting.specs.Turns.{MayTurn}
use Rattle.resting.specs.RoundsOver.{IsAlike}
use Rattle.resting.specs.Still.{plan_over}
use Rattle.resting.specs.WholeRounds.{EndsRound, after_round, collection_over}
use Rattle.resting.proofs.AcceptedPlans.{all_are_accepted}
use Rattle.resting.proofs.Collections.{others_stay, same_found_at}
use Rattle.resting.proofs.PlainPods.{all_plain, as_many, at_plain, healthy_plain, none_plain, plain, plain_in_order, some_plain, steps_alike, steps_plain}
use Rattle.resting.proofs.PlanOnSet.{on_status_alone}
use Rattle.resting.proofs.PlansOnPods.{filed_run}
use Rattle.resting.proofs.ReadAgain.{IsLike, IsOnStatus, IsReadLike, like_itself, read_again, stays_like}
use Rattle.resting.proofs.RoundsOnPods.{replicas_are, round_at}
use Rattle.resting.proofs.Turns.{turn_is_over}
use Rattle.resting.proofs.TurnsOnPods.{at_store, found_at, own, own_at, turn_at}
use Rattle.resting.proofs.WholeRounds.{controller_round, plan_over_is}

-- a round whose plan is made with the update revision of that name in place
pub record IsPlacedRound (set : SetParts) (update : List ℕ) (digits : ℕ) (s t : Store) : Type 0 where
  pub now : SetParts
  pub key_is : now.object.key ≡ set.object.key
  pub is_read : IsReadIn s now
  pub plan : IsPlannedOver now digits s
  pub update_is : plan.update.key.name ≡ update
  pub moment : List ℕ
  pub is_time : moment ≢ []
  pub may_act : MayAct now most_actions s
  pub between : Store
  pub ends : EndsRound (reconciler_with now.object.key digits moment) now.object s between
  pub may_turn : MayTurn now.object.key.namespace between
  pub left : t ≡ after_turn now.object.key.namespace between

-- ---- rounds on pods, with no word on the current revision
made_ready_plain : (pod : Replica) → plain (made_ready pod) ≡ made_ready (plain pod)
made_ready_plain pod =
    elim (is_failed pod.readiness) as (λ b. plain (if b then pod else record pod { readiness = Ready }) ≡ (if b then plain pod else record (plain pod) { readiness = Ready })) [ true ↦ refl | false ↦ refl ]

tended_plain : (here : Option Replica) → option_map plain (tended here) ≡ tended (option_map plain here)
tended_plain None = refl
tended_plain (Some pod) =
    elim (pod.terminating) as (λ b. option_map plain (if b then None else Some (made_ready pod)) ≡ (if b then None else Some (made_ready (plain pod)))) [
      | true ↦ refl
      | false ↦ ap Some (made_ready_plain pod)
    ]

round_plain : (steps : List Step) (i : ℕ) (new : Replica) (here : Option Replica) → option_map plain (after_round_of steps i new here) ≡ after_round_of steps i (plain new) (option_map plain here)
round_plain steps i new here =
    elim (list_any (deletes i) steps) as (λ b. option_map plain (if b then None else if list_any (creates i) steps then Some new else tended here) ≡ (if b then None else if list_any (creates i) steps then Some (plain new) else tended (option_map plain here))) [
      | true ↦ refl
      | false ↦ elim (list_any (creates i) steps) as (λ b. option_map plain (if b then Some new else tended here) ≡ (if b then Some (plain new) else tended (option_map plain here))) [
        | true ↦ refl
        | false ↦ tended_plain here
      ]
    ]

new_plain : (set now : SetParts) (i : ℕ) (new : Replica) → IsAlike set now → IsNew now i new → IsNew set i (plain new)
new_plain set now i new alike is = record {
  ready = is.ready;
  staying = is.staying;
  updated = λ at. is.updated (ap (λ (x : Strategy). revision_at x i) alike.strategy ∙ at);
}

-- ---- two reads of a set
pub same_parts : (a b : SetParts) → ◌≡◌ {A = Result SetParts PlanError} (Ok a) (Ok b) → a ≡ b
same_parts a b e = cc

-- the set that is read in a store like the one before is as it was
pub read_like_before : (now next : SetParts) (is : set_of now.object ≡ Ok now) (t : Store) → IsLike now is t → IsReadIn t next → next.object.key ≡ now.object.key → IsReadLike now next.object next
read_like_before now next is t like here keys =
    let again = read_again now.object like.0 now is like.2 in
    let object : like.0 ≡ next.object = same_Some like.0 next.object (sym like.1 ∙ (ap (finite.get t.objects) (sym keys) ∙ here.there)) in
    let same : again.0 ≡ next = same_parts again.0 next (sym again.1.read ∙ (ap set_of object ∙ here.read)) in
    let P : SetParts → Type 0 = λ x. IsReadLike now next.object x in
    let Q : Object → Type 0 = λ o. IsReadLike now o again.0 in
    subst P same (subst Q object again.1)

pub read_as_before : (now next : SetParts) (is : set_of now.object ≡ Ok now) (t : Store) → IsLike now is t → IsReadIn t next → next.object.key ≡ now.object.key
    → IsAlike now next × (next.template ≡ now.template)
read_as_before now next is t like here keys = let again = read_like_before now next is t like here keys in (again.alike, again.template)

pub alike_as_is : (set : SetParts) → IsAlike set set
alike_as_is set = record { key = refl; uid = refl; start = refl; replicas = refl; policy = refl; strategy = refl }

pub alike_on : (set now next : SetParts) → IsAlike set now → IsAlike now next → IsAlike set next
alike_on set now next a b = record {
  key = b.key ∙ a.key;
  uid = b.uid ∙ a.uid;
  start = b.start ∙ a.start;
  replicas = b.replicas ∙ a.replicas;
  policy = b.policy ∙ a.policy;
  strategy = b.strategy ∙ a.strategy;
}

-- ---- the pods that two reads of a set find in a store
abbrev found_under : Key → Store → ℕ → Option PodParts
found_under key s i =
    find (λ pod. option_map_or (λ (j : ℕ). i == j) (option_and_then (λ (x : List ℕ × ℕ). if bytes_eq x.0 key.name then Some x.1 else None) pod.split_name) false)
    (map view_of (first_of_each (filter (λ (o : Object). is_kind Pod o.key.kind && bytes_eq o.key.namespace key.namespace) (collection s.objects Pod key.namespace))))

found_is : (set : SetParts) (s : Store) (i : ℕ) → found_at set s i ≡ found_under set.object.key s i
unfolding views_of
found_is set s i = refl

pub same_found : (set now : SetParts) (s : Store) (i : ℕ) → IsAlike set now → found_at now s i ≡ found_at set s i
same_found set now s i alike = found_is now s i ∙ (ap (λ (k : Key). found_under k s i) alike.key ∙ sym (found_is set s i))

own_plain : (y : Replica) → option_map plain (own (Some y)) ≡ own (Some (plain y))
own_plain y = elim (y.owned) as (λ b. option_map plain (if b then Some y else None) ≡ (if b then Some (plain y) else None)) [ true ↦ refl | false ↦ refl ]

module _ (set : SetParts) (update current : List ℕ) (digits : ℕ) where
  abbrev seen : Store → ℕ → Option Replica
  seen s i = option_map plain (own_at set update current s i)

  pub record IsSeen (pods : Pods) (s : Store) : Type 0 where
    pub in_order : AreInOrder pods
    pub are : (i : ℕ) → pod_at pods i ≡ seen s i

  same_replica : (now : SetParts) (u c : List ℕ) (pod : PodParts) → IsAlike set now → u ≡ update → plain (replica_of now u c pod) ≡ plain (replica_of set update current pod)
  same_replica now u c pod alike is =
      λ j. record {
        owned = is_controlled (alike.uid j) pod.owners;
        uid = pod.uid;
        readiness = pod.readiness;
        terminating = pod.terminating;
        updated = has_revision (is j) pod;
        current = false;
      }

  same_own : (now : SetParts) (u c : List ℕ) (found : Option PodParts) → IsAlike set now → u ≡ update
      → option_map plain (own (option_map (replica_of now u c) found)) ≡ option_map plain (own (option_map (replica_of set update current) found))
  same_own now u c None alike is = refl
  same_own now u c (Some pod) alike is =
      own_plain (replica_of now u c pod) ∙ (ap (λ z. own (Some z)) (same_replica now u c pod alike is) ∙ sym (own_plain (replica_of set update current pod)))

  pub seen_by : (now : SetParts) (u c : List ℕ) (s : Store) (i : ℕ) → IsAlike set now → u ≡ update → option_map plain (own_at now u c s i) ≡ seen s i
  seen_by now u c s i alike is =
      ap (λ found. option_map plain (own (option_map (replica_of now u c) found))) (same_found set now s i alike) ∙ same_own now u c (found_at set s i) alike is

  pub seen_list : (s : Store) (pods : Pods) → replicas_in set update current (views_in set s) ≡ Ok pods → IsSeen (all_plain pods) s
  seen_list s pods shown = record {
    in_order = plain_in_order pods (replicas_in_order set update current (views_in set s) pods shown);
    are = λ i. at_plain pods i ∙ ap (option_map plain) (at_store set update current s pods i shown);
  }

  pub seen_plan : (s t : Store) (round : IsPlacedRound set update digits s t) → IsAlike set round.now → IsSeen (all_plain round.plan.pods) s
  seen_plan s t round alike =
      let now = round.now in
      let plan = round.plan in
      let shown = replicas_are now digits round.moment s plan in
      record {
        in_order = plain_in_order plan.pods (replicas_in_order now plan.update.key.name plan.current.key.name (views_in now s) plan.pods shown);
        are = λ i.
            at_plain plan.pods i
            ∙ (ap (option_map plain) (at_store now plan.update.key.name plan.current.key.name s plan.pods i shown) ∙ seen_by now plan.update.key.name plan.current.key.name s i alike round.update_is);
      }

  pub one_seen : (s : Store) (es fs : Pods) → IsSeen es s → IsSeen fs s → es ≡ fs
  one_seen s es fs at_es at_fs = same_pods es fs at_es.in_order at_fs.in_order (λ i. at_es.are i ∙ sym (at_fs.are i))

  -- what the controller leaves is what its plan does, but for claims
  pub between_is : (s t : Store) (round : IsPlacedRound set update digits s t) → round.between ≡ after_round (reconciler_with round.now.object.key digits round.moment) s round.now.object
  between_is s t round =
      let now = round.now in
      let accepted = all_are_accepted now digits round.moment s round.plan round.is_time round.may_act round.is_read.there round.is_read.read in
      ap (λ (x : Store × Phase). x.0) (sym round.ends ∙ controller_round now digits round.moment s round.is_read.there round.is_read.read accepted)

  own_between : (s t : Store) (round : IsPlacedRound set update digits s t) (i : ℕ)
      → own_at round.now round.plan.update.key.name round.plan.current.key.name round.between i
      ≡ own_at round.now round.plan.update.key.name round.plan.current.key.name (after_plan round.now digits round.moment s) i
  own_between s t round i =
      let now = round.now in
      let c = reconciler_with now.object.key digits round.moment in
      let u = round.plan.update.key.name in
      let v = round.plan.current.key.name in
      let planned = after s (plan_over c s now.object) in
      let same_plan : planned ≡ after_plan now digits round.moment s = ap (after s) (plan_over_is now digits round.moment s round.is_read.read) in
      let filed : AreFiled planned.objects = filed_run s (plan_over c s now.object) round.may_act.filed in
      let P : Store → Type 0 = λ x. own_at now u v x i ≡ own_at now u v (after_plan now digits round.moment s) i in
      let stays : own_at now u v (after_round c s now.object) i ≡ own_at now u v planned i =
      ap (λ x. own (option_map (replica_of now u v) x))
      (same_found_at now planned (after_round c s now.object) i filed (filed_run planned (collection_over c planned) filed) (λ k pod. others_stay now.object.key planned filed digits round.moment Pod k refl pod)) in
      subst P (sym (between_is s t round)) (stays ∙ ap (λ x. own_at now u v x i) same_plan)

  at_round : (s t : Store) (round : IsPlacedRound set update digits s t) (alike : IsAlike set round.now) (i : ℕ)
      → (new : Replica) × IsNew set i new × (seen t i ≡ after_round_of (pod_steps (full_steps set (all_plain round.plan.pods))) i new (pod_at (all_plain round.plan.pods) i))
  at_round s t round alike i =
      let now = round.now in
      let plan = round.plan in
      let u = plan.update.key.name in
      let v = plan.current.key.name in
      let done = round_at now digits round.moment s plan round.is_time round.may_act (after_turn now.object.key.namespace round.between) (λ j. turn_at now u v round.between (after_turn now.object.key.namespace round.between) round.may_turn.filed (turn_is_over round.between now.object.key.namespace round.may_turn) j ∙ ap tended (own_between s t round j)) i in
      let steps : pod_steps (full_steps now plan.pods) ≡ pod_steps (full_steps set (all_plain plan.pods)) = ap pod_steps (steps_alike set now plan.pods alike ∙ sym (steps_plain set plan.pods)) in (
        plain done.0,
        new_plain set now i done.0 alike done.1,
        ap (λ x. seen x i) round.left
            ∙ (sym (seen_by now u v (after_turn now.object.key.namespace round.between) i alike round.update_is)
            ∙ (ap (option_map plain) done.2
            ∙ (round_plain (pod_steps (full_steps now plan.pods)) i done.0 (pod_at plan.pods i)
            ∙ λ j. after_round_of (steps j) i (plain done.0) (sym (at_plain plan.pods i) j)))),
      )

  pub one_round : (s t : Store) (es fs : Pods) → IsSeen es s → IsSeen fs t → (round : IsPlacedRound set update digits s t) → IsAlike set round.now → IsRound set es fs
  one_round s t es fs at_es at_fs round alike =
      let first = all_plain round.plan.pods in
      let P : Pods → Type 0 = λ x. IsRound set x fs in
      subst P (one_seen s first es (seen_plan s t round alike) at_es) (record {
        in_order = at_fs.in_order;
        new = λ i. (at_round s t round alike i).0;
        are_new = λ i. (at_round s t round alike i).1;
        is_next = λ i. at_fs.are i ∙ (at_round s t round alike i).2;
      })

  -- ---- the set, read again
  abbrev pub IsHere : Store → Type 0
  IsHere s = (here : SetParts) × IsReadIn s here × IsAlike set here

  pub same_read : (s : Store) (here now : SetParts) → IsReadIn s here → IsReadIn s now → now.object.key ≡ here.object.key → here ≡ now
  same_read s here now at_here at_now keys =
      let object : here.object ≡ now.object = same_Some here.object now.object (sym at_here.there ∙ (ap (finite.get s.objects) (sym keys) ∙ at_now.there)) in
      same_parts here now (sym at_here.read ∙ (ap set_of object ∙ at_now.read))

  pub alike_now : (s t : Store) → IsHere s → (round : IsPlacedRound set update digits s t) → IsAlike set round.now
  alike_now s t here round =
      let P : SetParts → Type 0 = λ x. IsAlike set x in
      subst P (same_read s here.0 round.now here.1 round.is_read (round.key_is ∙ sym here.2.key)) here.2

  pub like_then : (s t : Store) (round : IsPlacedRound set update digits s t) → IsLike round.now round.is_read.read t
  like_then s t round =
      let now = round.now in
      let key = now.object.key in
      let c = reconciler_with key digits round.moment in
      let read = round.is_read.read in
      let planned = after s (plan_over c s now.object) in
      let filed : AreFiled planned.objects = filed_run s (plan_over c s now.object) round.may_act.filed in
      let sends : AllByRecursion (IsOnStatus now read) (plan_over c s now.object) =
      subst (AllByRecursion (IsOnStatus now read)) (sym (plan_over_is now digits round.moment s read)) (on_status_alone now digits round.moment s round.plan round.is_time round.may_act round.is_read.there read) in
      let first : IsLike now read planned = stays_like now read s (plan_over c s now.object) sends (like_itself now read s round.is_read.there) in
      let stays : finite.get (after_round c s now.object).objects key ≡ finite.get planned.objects key = others_stay key planned filed digits round.moment StatefulSet key refl round.may_act.kind in
      let second : IsLike now read (after_round c s now.object) = (first.0, stays ∙ first.1, first.2) in
      let P : Store → Type 0 = λ x. IsLike now read x in
      let third : IsLike now read round.between = subst P (sym (between_is s t round)) second in
      let turn = turn_is_over round.between key.namespace round.may_turn in
      let no_pod : is_of Pod key.namespace key ≡ false = ap (λ (x : Kind). kind_index x == kind_index Pod && bytes_eq key.namespace key.namespace) round.may_act.kind in
      subst P (sym round.left) (third.0, turn.others key no_pod ∙ third.1, third.2)

  pub here_then : (s t : Store) → IsHere s → (round : IsPlacedRound set update digits s t) → IsHere t
  here_then s t here round =
      let now = round.now in
      let like = like_then s t round in
      let again = read_again now.object like.0 now round.is_read.read like.2 in
      let next : SetParts = again.0 in
      let object : next.object ≡ like.0 = again.1.object in
      let key : next.object.key ≡ now.object.key = again.1.alike.key in
      let P : Object → Type 0 = λ x. Has t next.object.key x in (
        next,
        record {
          there = subst P (sym object) (ap (finite.get t.objects) key ∙ like.1);
          read = ap set_of object ∙ again.1.read;
        },
        alike_on set now next (alike_now s t here round) again.1.alike,
      )

  -- ---- back to pods as they are
  stands_then : (last : Pods) → Stands set (all_plain last) → Stands set last
  stands_then last stands = record {
    healthy = λ i within. sym (healthy_plain set last i) ∙ stands.healthy i within;
    updated = λ i pod within reached here. stands.updated i (plain pod) within reached (at_plain last i ∙ ap (option_map plain) here);
    alone = λ i out. none_plain (pod_at last i) (sym (at_plain last i) ∙ stands.alone i out);
  }

  left_then : (pods : Pods) (i : ℕ) (y : Replica) → IsLeftOver set (all_plain pods) i y → (pod : Replica) × IsLeftOver set pods i pod × (plain pod ≡ y)
  left_then pods i y left =
      let p = some_plain (pod_at pods i) y (sym (at_plain pods i) ∙ left.1) in
      (p.0, (left.0, p.1, ap (λ (z : Replica). z.terminating) p.2 ∙ left.2), p.2)

  stopped_then : (pods : Pods) → IsStopped set (all_plain pods) → IsStopped set pods
  stopped_then pods stopped =
      let low = left_then pods stopped.low stopped.pod stopped.left in
      let high = left_then pods stopped.high stopped.other stopped.above in
      record {
        low = stopped.low;
        pod = low.0;
        left = low.1;
        failed = ap (λ (z : Replica). is_failed z.readiness) low.2 ∙ stopped.failed;
        high = stopped.high;
        other = high.0;
        above = high.1;
        is_above = stopped.is_above;
      }

  as_far : (pods : Pods) → most_rounds set (all_plain pods) ≡ most_rounds set pods
  as_far pods = ap (λ n. 2 * set.replicas + n) (as_many (is_out_of_range set) pods (λ e. refl))

  -- so many rounds are enough: one less from pods as a kubelet's turn leaves them
  abbrev pub IsEnough : Pods → ℕ → Type 0
  IsEnough pods k = (most_rounds set pods + 1 ≤ k) ⊎ (AreTended pods × (most_rounds set pods ≤ k))

  plain_are_tended : (pods : Pods) → AreTended pods → AreTended (all_plain pods)
  plain_are_tended pods are i y here =
      let p = some_plain (pod_at pods i) y (sym (at_plain pods i) ∙ here) in
      let is = are i p.0 p.1 in
      let P : Replica → Type 0 = λ x. IsTended x in
      subst P p.2 (record { staying = is.staying; ready = is.ready })

  comes_by : (pods last : Pods) (k : ℕ) → AreInOrder (all_plain pods) → AreRounds set k (all_plain pods) (all_plain last) → IsEnough pods k
      → Stands set (all_plain last) ⊎ ((set.policy ≡ OrderedReady) × IsStopped set (all_plain pods))
  comes_by pods last k sorted rounds (inl enough) =
      comes_to_stand set (all_plain pods) (all_plain last) k sorted rounds (subst (λ (n : ℕ). n + 1 ≤ k) (sym (as_far pods)) enough)
  comes_by pods last k sorted rounds (inr enough) =
      tended_come_to_stand set (all_plain pods) (all_plain last) k sorted (plain_are_tended pods enough.0) rounds (subst (λ (n : ℕ). n ≤ k) (sym (as_far pods)) enough.1)

  pub stand_by : (s t : Store) (k : ℕ) (pods last : Pods) → AreRounds set k (all_plain pods) (all_plain last) → replicas_in set update current (views_in set s) ≡ Ok pods
      → IsEnough pods k → Stands set last ⊎ ((set.policy ≡ OrderedReady) × IsStopped set pods)
  stand_by s t k pods last rounds first enough =
      elim (comes_by pods last k (seen_list s pods first).in_order rounds enough) [
        | inl stands ↦ inl (stands_then last stands)
        | inr stopped ↦ inr (stopped.0, stopped_then pods stopped.1)
      ]
