-- A round whose plan takes no pod step leaves tended pods as they are.
use Rattle.std.proofs.Common.{◌≡◌, ◌==◌, Bool, true, false, cond, List, [], ◌∷◌, ℕ, map, filter, decimal, Some, None, Equal, inl, inr, refl, sym, ap, ◌∙◌, subst, true≢false}
use Rattle.std.specs.FinMap as finite
use Rattle.std.specs.FinMap.{get, get-retain_keys, retain_keys, same_map, values}
use Rattle.std.specs.List.{AllByRecursion}
use Rattle.objects.specs.declared.key.Key.{Key}
use Rattle.objects.specs.declared.kind.Kind.{Kind}
use Rattle.objects.specs.declared.kind.Kind.TheVariants.{PersistentVolumeClaim, Pod, StatefulSet}
use Rattle.objects.specs.declared.object.Object.{Object}
use Rattle.objects.specs.Key.{key_cmp, kind_index}
use Rattle.objects.specs.KeyOrder.{exact_keys, key_cmp_total}
use Rattle.objects.specs.Uid.{uid_text}
use Rattle.objects.specs.Again.{text_unless_zero}
use Rattle.requests.specs.declared.request.Request.{Request}
use Rattle.set_views.specs.Set.{SetParts}
use Rattle.pod_steps.specs.declared.step.Step.{Step}
use Rattle.pod_steps.specs.declared.step.Step.TheVariants.{CreatePod, DeletePod}
use Rattle.pod_steps.specs.FullSteps.{full_steps}
use Rattle.pod_steps.specs.Step.{is_of_pod, pod_steps}
use Rattle.std.specs.List.{Contains}
use Rattle.plain_store.specs.AtKey.{Has}
use Rattle.plain_store.specs.Filed.{AreFiled}
use Rattle.plain_store.specs.Run.{after}
use Rattle.plain_store.specs.Store.{Objects, Store, collection, is_of}
use Rattle.collector.specs.Collectable.{deletion, is_collectable, is_listed}
use Rattle.rounds.proofs.Lists.{among_contained}
use Rattle.rounds.specs.Kubelet.{turn_requests_of}
use Rattle.rounds.specs.Reconciler.{Reconciler}
use Rattle.sets.specs.FullPlan.{full_plan}
use Rattle.controllers.specs.Reconciler.{reconciler_with}
use Rattle.resting.specs.Acting.{IsPlannedOver, after_plan, planned_requests, views_in}
use Rattle.resting.specs.Still.{IsTendedPod, listed_in, owners_in, plan_over}
use Rattle.resting.specs.WholeRounds.{after_round, collection_over}
use Rattle.resting.proofs.Acts.{IsElsewhere, untouched}
use Rattle.resting.proofs.Collections.{others_stay}
use Rattle.resting.proofs.Empty.{none_any}
use Rattle.resting.proofs.PlanLists.{PodWrite, all_by, of_create, of_delete, of_other, plan_is, requests_are}
use Rattle.resting.proofs.PlansOnPods.{filed_run}
use Rattle.resting.proofs.RoundsOnPods.{are_claims, claims_there, sent, sent_is}
use Rattle.resting.proofs.RoundsOver.{IsPlacedRound, between_is}
use Rattle.resting.proofs.StepsApart.{none_passes}
use Rattle.resting.proofs.Still.{turns_ask_none}
use Rattle.resting.proofs.TurnsOnPods.{key_is}
use Rattle.resting.proofs.UpdateStays.{SparesOrTakes, kept_or_gone}
use Rattle.resting.proofs.WholeRounds.{plan_over_is}

-- maps that agree at the keys of a kind in a namespace show one list there
pub same_listed : (m n : Objects) (kind : Kind) (namespace : List ℕ) → ((k : Key) → is_of kind namespace k ≡ true → get m k ≡ get n k) → collection m kind namespace ≡ collection n kind namespace
same_listed m n kind namespace same =
    ap values (same_map key_cmp_total exact_keys (retain_keys m p) (retain_keys n p) (λ q. get-retain_keys m p q (alike q) ∙ (by q (p q) refl ∙ sym (get-retain_keys n p q (alike q)))))
  where
    p : Key → Bool
    p = is_of kind namespace

    alike : (q x : Key) → key_cmp q x ≡ Equal → p x ≡ p q
    alike q x tie = ap p (sym (exact_keys q x tie))

    by : (q : Key) (b : Bool) → p q ≡ b → cond b (get m q) None ≡ cond b (get n q) None
    by q true is = same q is
    by q false is = refl

-- ---- a plan
module _ (set : SetParts) (digits : ℕ) (moment : List ℕ) (s : Store) (plan : IsPlannedOver set digits s) (kind : set.object.key.kind ≡ StatefulSet) (none : pod_steps (full_steps set plan.pods) ≡ []) where
  abbrev all : List Step
  all = full_steps set plan.pods

  no_step : (x : Step) → Contains all x → is_of_pod x ≡ true → ⊥
  no_step x at of = true≢false (sym of ∙ none_passes is_of_pod all x (none_any is_of_pod all none) (among_contained all x at))

  elsewhere : (k : Key) → k.kind ≡ Pod → (r : Request) → PodWrite set plan.current plan.update moment all r → IsElsewhere k r
  elsewhere k pod r (of_other other) same = other k (sym same) pod
  elsewhere k pod r (of_create i revision at is) same = no_step (CreatePod i revision) at refl
  elsewhere k pod r (of_delete i uid at is) same = no_step (DeletePod i uid) at refl

  pub untouched_pods : (k : Key) → k.kind ≡ Pod → finite.get (after_plan set digits moment s).objects k ≡ finite.get s.objects k
  untouched_pods k pod =
      let full = full_plan set (claims_there set digits moment s plan) (views_in set s) plan.owned plan.current plan.update plan.pods in
      let planned = plan_is set (claims_there set digits moment s plan) (views_in set s) plan.owned plan.current plan.update plan.pods (are_claims set (listed_in s set.object.key PersistentVolumeClaim)) in
      untouched s k (planned_requests set digits moment s)
      (subst (AllByRecursion (IsElsewhere k)) (sym (sent_is set digits moment s plan))
      (all_by (PodWrite set plan.current plan.update moment all) (IsElsewhere k) (sent set digits moment s plan) (elsewhere k pod)
      (requests_are set plan.current plan.update moment all kind full planned)))

-- ---- the deletes of a collection
pub takes_all : (k : Key) (os : List Object) → AllByRecursion (SparesOrTakes k) (map deletion os)
takes_all k [] = tt
takes_all k (o ∷ os) = (inr (o.key, text_unless_zero o.meta.uid (uid_text o.meta.uid), text_unless_zero o.meta.revision (decimal o.meta.revision), refl), takes_all k os)

-- ---- a round
module _ (set : SetParts) (update : List ℕ) (digits : ℕ) (s t : Store) (round : IsPlacedRound set update digits s t)
    (none : pod_steps (full_steps round.now round.plan.pods) ≡ []) (tended : AllByRecursion IsTendedPod (listed_in s round.now.object.key Pod)) where
  abbrev now : SetParts
  now = round.now

  abbrev c : Reconciler
  c = reconciler_with now.object.key digits round.moment

  abbrev pub then_planned : Store
  then_planned = after_plan now digits round.moment s

  planned_is : after s (plan_over c s now.object) ≡ then_planned
  planned_is = ap (after s) (plan_over_is now digits round.moment s round.is_read.read)

  filed_then : AreFiled (after s (plan_over c s now.object)).objects
  filed_then = filed_run s (plan_over c s now.object) round.may_act.filed

  -- what the controller leaves of another kind than claims
  between_kind : (kind : Kind) (k : Key) → kind_index kind == kind_index PersistentVolumeClaim ≡ false → k.kind ≡ kind → finite.get round.between.objects k ≡ finite.get then_planned.objects k
  between_kind kind k other is =
      let by_round : finite.get round.between.objects k ≡ finite.get (after_round c s now.object).objects k = ap (λ (x : Store). finite.get x.objects k) (between_is set update update digits s t round) in
      let by_collection : finite.get (after_round c s now.object).objects k ≡ finite.get (after s (plan_over c s now.object)).objects k =
      others_stay now.object.key (after s (plan_over c s now.object)) filed_then digits round.moment kind k other is in
      by_round ∙ (by_collection ∙ ap (λ (x : Store). finite.get x.objects k) planned_is)

  between_pods : (k : Key) → k.kind ≡ Pod → finite.get round.between.objects k ≡ finite.get s.objects k
  between_pods k pod = between_kind Pod k refl pod ∙ untouched_pods now digits round.moment s round.plan round.may_act.kind none k pod

  -- a kubelet finds nothing to do
  pub left_is : t ≡ round.between
  left_is =
      let space = now.object.key.namespace in
      let same : collection round.between.objects Pod space ≡ collection s.objects Pod space =
      same_listed round.between.objects s.objects Pod space (λ k of. between_pods k (ap (λ (q : Key). q.kind) (key_is space k of))) in
      round.left ∙ ap (after round.between) (ap turn_requests_of same ∙ turns_ask_none (collection s.objects Pod space) tended)

  pub by_the_plan : (kind : Kind) (k : Key) → kind_index kind == kind_index PersistentVolumeClaim ≡ false → k.kind ≡ kind → finite.get t.objects k ≡ finite.get then_planned.objects k
  by_the_plan kind k other is = ap (λ (x : Store). finite.get x.objects k) left_is ∙ between_kind kind k other is

  pub same_pods_there : (namespace : List ℕ) → collection t.objects Pod namespace ≡ collection s.objects Pod namespace
  same_pods_there namespace =
      same_listed t.objects s.objects Pod namespace (λ k of. ap (λ (x : Store). finite.get x.objects k) left_is ∙ between_pods k (ap (λ (q : Key). q.kind) (key_is namespace k of)))

  -- what is there was left by the plan
  pub left_by_plan : (k : Key) (o : Object) → Has t k o → Has then_planned k o
  left_by_plan k o here =
      let planned = after s (plan_over c s now.object) in
      let taken = kept_or_gone k planned (collection_over c planned) (takes_all k (filter (is_collectable planned.counter (is_listed (owners_in planned now.object.key))) (listed_in planned now.object.key PersistentVolumeClaim))) in
      let there : Has (after_round c s now.object) k o = ap (λ (x : Store). finite.get x.objects k) (sym (left_is ∙ between_is set update update digits s t round)) ∙ here in
      elim taken [
        | inl same ↦ ap (λ (x : Store). finite.get x.objects k) (sym planned_is) ∙ (sym same ∙ there)
        | inr gone ↦ let clash : None ≡ Some o = sym gone ∙ there in absurd (cc)
      ]
