-- After a round whose plan takes no pod step the set's pods stand as they did, and its status counts the same.
use Rattle.std.proofs.Common.{◌≡◌, ℕ, suc, Bool, true, false, not, if◌then◌else◌, List, [], ◌∷◌, length, filter, find, option_map, None, Ok, refl, sym, ap, ◌∙◌, subst}
use Rattle.std.specs.Prelude.{◌&&◌, ◌||◌}
use Rattle.std.specs.List.{AllByRecursion, list_all, list_any}
use Rattle.std.specs.Option.{option_map_or}
use Rattle.serde_json.specs.Written.{members_have_float}
use Rattle.objects.specs.declared.kind.Kind.TheVariants.{Pod}
use Rattle.objects.specs.declared.object.Object.{Object}
use Rattle.set_views.specs.declared.policies.Strategy.{Strategy}
use Rattle.set_views.specs.declared.policies.Strategy.TheVariants.{OnDelete, RollingUpdate}
use Rattle.set_views.specs.Owners.{is_controlled}
use Rattle.set_views.specs.Pod.{PodParts}
use Rattle.set_views.specs.Predicates.{in_range}
use Rattle.set_views.specs.Set.{SetParts}
use Rattle.pod_steps.specs.declared.replica.Replica.{Replica}
use Rattle.pod_steps.specs.FullSteps.{full_steps}
use Rattle.pod_steps.specs.Listed.{has_revision, is_named, replica_of, replicas_in}
use Rattle.pod_steps.specs.Replicas.{AreInOrder, Pods, has_healthy_pod, is_out_of_range, is_settled, ordinals, pod_at}
use Rattle.pod_steps.specs.Status.{counts_of, has_settled_pod, is_current, is_ready_entry, is_rolled_out, is_rolled_out_by, is_updated}
use Rattle.pod_steps.specs.Step.{pod_steps}
use Rattle.pod_steps.proofs.Firsts.{replicas_in_order}
use Rattle.pod_steps.proofs.Same.{same_pods}
use Rattle.manifests.specs.BuiltStatus.{StatusParts, built_status, old_status}
use Rattle.plain_store.specs.Store.{Store}
use Rattle.sets.specs.FullPlan.{current_name, status_of, status_with}
use Rattle.sets.specs.PlanOfLists.{views_of}
use Rattle.convergence.specs.Standing.{Stands, is_reached}
use Rattle.resting.specs.Acting.{IsPlannedOver, IsReadIn, views_in}
use Rattle.resting.specs.RoundsOver.{IsAlike}
use Rattle.resting.specs.Still.{IsTendedPod, listed_in}
use Rattle.resting.proofs.CurrentAgain.{current_then, named, parts, status_is}
use Rattle.resting.proofs.HistoryKept.{read_then}
use Rattle.resting.proofs.PlainPods.{all_plain, as_many, asked_plain, at_plain, healthy_plain, none_plain, plain, plain_entry, plain_in_order, some_plain}
use Rattle.resting.proofs.PodsStay.{same_pods_there}
use Rattle.resting.proofs.RoundsOnPods.{replicas_are}
use Rattle.resting.proofs.RoundsOver.{IsPlacedRound, same_found, seen_by}
use Rattle.resting.proofs.TurnsOnPods.{at_store, found_at, own}

-- ---- pods with no word on the current revision
settled_plain : (pods : Pods) (i : ℕ) → has_settled_pod (all_plain pods) i ≡ has_settled_pod pods i
settled_plain pods i = ap (λ here. option_map_or is_settled here false) (at_plain pods i) ∙ asked_plain is_settled (pod_at pods i) (λ pod. refl)

any_plain : (q : ℕ × Replica → Bool) (es : Pods) → ((e : ℕ × Replica) → q (plain_entry e) ≡ q e) → list_any q (all_plain es) ≡ list_any q es
any_plain q [] each = refl
any_plain q (e ∷ es) each = λ j. each e j || any_plain q es each j

rolled_by : (strategy : Strategy) (set : SetParts) (pods : Pods) → is_rolled_out_by strategy set (all_plain pods) ≡ is_rolled_out_by strategy set pods
rolled_by (RollingUpdate partition) set pods = λ j. list_all (λ i. settled_plain pods i j) (ordinals set) && not (any_plain (is_out_of_range set) pods (λ e. refl) j)
rolled_by OnDelete set pods = refl

as_long : (es : Pods) → length (all_plain es) ≡ length es
as_long [] = refl
as_long (e ∷ es) = ap suc (as_long es)

-- ---- the spec alone
module _ (set now : SetParts) where
  abbrev ranged : SetParts
  ranged = record now { start = set.start; replicas = set.replicas; strategy = set.strategy }

  same_rolled : (strategy : Strategy) (pods : Pods) → is_rolled_out_by strategy ranged pods ≡ is_rolled_out_by strategy set pods
  same_rolled (RollingUpdate partition) pods = refl
  same_rolled OnDelete pods = refl

  rolled_alike : (pods : Pods) → IsAlike set now → is_rolled_out now pods ≡ is_rolled_out set pods
  rolled_alike pods a = (λ j. is_rolled_out (record now { start = a.start j; replicas = a.replicas j; strategy = a.strategy j }) pods) ∙ same_rolled set.strategy pods

  pub range_alike : (i : ℕ) → IsAlike set now → in_range now i ≡ in_range set i
  range_alike i a = λ j. in_range (record now { start = a.start j; replicas = a.replicas j }) i

-- a pod of the set with that UID
abbrev replica_by : ℕ → List ℕ → List ℕ → PodParts → Replica
replica_by uid update current pod = record {
  owned = is_controlled uid pod.owners;
  uid = pod.uid;
  readiness = pod.readiness;
  terminating = pod.terminating;
  updated = has_revision update pod;
  current = has_revision current pod;
}

-- pods that differ in the current revision alone stand together
pub stands_by : (set now : SetParts) → IsAlike set now → (es fs : Pods) → all_plain es ≡ all_plain fs → Stands set fs → Stands now es
stands_by set now a es fs same stands = record {
  healthy = λ i within. sym (healthy_plain now es i) ∙ (ap (λ x. has_healthy_pod x i) same ∙ (healthy_plain set fs i ∙ stands.healthy i (sym (range_alike set now i a) ∙ within)));
  updated = λ i pod within reached here.
      let p = some_plain (pod_at fs i) (plain pod) (sym (at_plain fs i) ∙ (ap (λ x. pod_at x i) (sym same) ∙ (at_plain es i ∙ ap (option_map plain) here))) in
      ap (λ (z : Replica). z.updated) (sym p.2) ∙ stands.updated i p.0 (sym (range_alike set now i a) ∙ within) (ap (λ (x : Strategy). is_reached x i) (sym a.strategy) ∙ reached) p.1;
  alone = λ i out. none_plain (pod_at es i) (sym (at_plain es i) ∙ (ap (λ x. pod_at x i) same ∙ (at_plain fs i ∙ ap (option_map plain) (stands.alone i (sym (range_alike set now i a) ∙ out)))));
}

-- ---- a round
module _ (set : SetParts) (update : List ℕ) (digits : ℕ) (s t : Store) (round : IsPlacedRound set update digits s t)
    (none : pod_steps (full_steps round.now round.plan.pods) ≡ []) (tended : AllByRecursion IsTendedPod (listed_in s round.now.object.key Pod))
    (next : SetParts) (is_read : IsReadIn t next) (key : next.object.key ≡ set.object.key) (whole : members_have_float (old_status round.now) ≡ false)
    (plan : IsPlannedOver next digits t) (same_update : plan.update ≡ round.plan.update) where
  abbrev now : SetParts
  now = round.now

  abbrev alike : IsAlike now next
  alike = (read_then set update digits s t round none tended next is_read key).alike

  abbrev before : Pods
  before = round.plan.pods

  abbrev u : List ℕ
  u = round.plan.update.key.name

  abbrev c : List ℕ
  c = round.plan.current.key.name

  update_name : plan.update.key.name ≡ u
  update_name = ap (λ (o : Object). o.key.name) same_update

  shown_before : replicas_in now u c (views_in now s) ≡ Ok before
  shown_before = replicas_are now digits round.moment s round.plan

  shown_then : replicas_in next plan.update.key.name plan.current.key.name (views_in next t) ≡ Ok plan.pods
  shown_then = replicas_are next digits round.moment t plan

  sorted_before : AreInOrder before
  sorted_before = replicas_in_order now u c (views_in now s) before shown_before

  sorted_then : AreInOrder plan.pods
  sorted_then = replicas_in_order next plan.update.key.name plan.current.key.name (views_in next t) plan.pods shown_then

  same_at : (i : ℕ) → found_at now t i ≡ found_at now s i
  same_at i = ap (λ os. find (is_named now i) (views_of now os)) (same_pods_there set update digits s t round none tended now.object.key.namespace)

  plains : all_plain plan.pods ≡ all_plain before
  plains =
      same_pods (all_plain plan.pods) (all_plain before) (plain_in_order plan.pods sorted_then) (plain_in_order before sorted_before) (λ i.
      at_plain plan.pods i
      ∙ (ap (option_map plain) (at_store next plan.update.key.name plan.current.key.name t plan.pods i shown_then)
      ∙ (seen_by now u c digits next plan.update.key.name plan.current.key.name t i alike update_name
      ∙ (ap (λ found. option_map plain (own (option_map (replica_of now u c) found))) (same_at i)
      ∙ sym (at_plain before i ∙ ap (option_map plain) (at_store now u c s before i shown_before))))))

  -- if the current revision is the same one too
  same_all : plan.current.key.name ≡ c → plan.pods ≡ before
  same_all same_current =
      same_pods plan.pods before sorted_then sorted_before (λ i.
      let found : found_at next t i ≡ found_at now s i = same_found now next t i alike ∙ same_at i in
      at_store next plan.update.key.name plan.current.key.name t plan.pods i shown_then
      ∙ ((λ j. own (option_map (replica_by (alike.uid j) (update_name j) (same_current j)) (found j)))
      ∙ sym (at_store now u c s before i shown_before)))

  -- ---- they stand
  pub stand_then : Stands now before → Stands next plan.pods
  stand_then = stands_by now next alike plan.pods before plains

  -- ---- they are counted
  rolled : is_rolled_out next plan.pods ≡ is_rolled_out now before
  rolled = rolled_alike now next plan.pods alike ∙ (sym (rolled_by now.strategy now plan.pods) ∙ (ap (is_rolled_out now) plains ∙ rolled_by now.strategy now before))

  many : (q : ℕ × Replica → Bool) → ((e : ℕ × Replica) → q (plain_entry e) ≡ q e) → length (filter q plan.pods) ≡ length (filter q before)
  many q each = sym (as_many q plan.pods each) ∙ (ap (λ es. length (filter q es)) plains ∙ as_many q before each)

  current_is : plan.current ≡ named set update digits s t round none tended
  current_is = current_then set update digits s t round none tended next is_read key whole plan

  count_current : (b : Bool) → is_rolled_out now before ≡ b
      → (if is_rolled_out next plan.pods then length (filter is_updated plan.pods) else length (filter is_current plan.pods)) ≡ (if is_rolled_out now before then length (filter is_updated before) else length (filter is_current before))
  count_current true is =
      ap (λ b. if b then length (filter is_updated plan.pods) else length (filter is_current plan.pods)) (rolled ∙ is)
      ∙ (many is_updated (λ e. refl)
      ∙ sym (ap (λ b. if b then length (filter is_updated before) else length (filter is_current before)) is))
  count_current false is =
      let same : plan.pods ≡ before = same_all (ap (λ (o : Object). o.key.name) (current_is ∙ ap (λ b. if b then round.plan.update else round.plan.current) is)) in
      ap (λ b. if b then length (filter is_updated plan.pods) else length (filter is_current plan.pods)) (rolled ∙ is)
      ∙ (ap (λ es. length (filter is_current es)) same
      ∙ sym (ap (λ b. if b then length (filter is_updated before) else length (filter is_current before)) is))

  same_counts : counts_of next plan.pods ≡ counts_of now before
  same_counts =
      let long : length plan.pods ≡ length before = sym (as_long plan.pods) ∙ (ap length plains ∙ as_long before) in
      let current = count_current (is_rolled_out now before) refl in
      λ j. record {
        replicas = long j;
        ready = many is_ready_entry (λ e. refl) j;
        current = current j;
        updated = many is_updated (λ e. refl) j;
      }

  -- the name of the current revision
  pub same_name : current_name next plan.pods plan.current plan.update ≡ current_name now before round.plan.current round.plan.update
  same_name =
      (λ j. if rolled j then update_name j else (current_is j).key.name)
      ∙ elim (is_rolled_out now before) as (λ b. (if b then u else (if b then round.plan.update else round.plan.current).key.name) ≡ (if b then u else c)) [ true ↦ refl | false ↦ refl ]

  pub status_then : built_status next (status_of next plan.pods (current_name next plan.pods plan.current plan.update) plan.update.key.name) ≡ None
  status_then =
      let P : StatusParts → Type 0 = λ x. built_status next x ≡ None in
      let same : parts set update digits s t round none tended ≡ status_of next plan.pods (current_name next plan.pods plan.current plan.update) plan.update.key.name =
      λ j. status_with (sym same_counts j) (sym same_name j) (sym update_name j) in
      subst P same (status_is set update digits s t round none tended next is_read key whole)
