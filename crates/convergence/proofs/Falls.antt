-- A round leaves one round less.
use Rattle.std.proofs.Common.{◌≡◌, ◌≢◌, ◌↔◌, ◌==◌, ◌&&◌, ◌||◌, ℕ, ◌+◌, ◌-◌, ◌*◌, ◌≤◌, Bool, true, false, not, if◌then◌else◌, [], ◌∷◌, Option, Some, None, arith, refl, sym, ap, ◌∙◌}
use Rattle.std.proofs.lemmas.Bool.{eq-eqb, eqb-true}
use Rattle.std.specs.List.{sum_by}
use Rattle.std.specs.List.Sorted.{IsStrictlySortedBy}
use Rattle.std.specs.Option.{option_map_or}
use Rattle.set_views.specs.declared.policies.Policy.TheVariants.{OrderedReady}
use Rattle.set_views.specs.declared.policies.Strategy.{Strategy}
use Rattle.set_views.specs.declared.policies.Strategy.TheVariants.{RollingUpdate, OnDelete}
use Rattle.set_views.specs.declared.readiness.Readiness.{Readiness}
use Rattle.set_views.specs.declared.readiness.Readiness.TheVariants.{Failed, Ready, NotReady}
use Rattle.set_views.specs.Set.{SetParts}
use Rattle.set_views.specs.Predicates.{in_range, is_ready}
use Rattle.pod_steps.specs.declared.replica.Replica.{Replica}
use Rattle.pod_steps.specs.declared.step.Revision.{Revision}
use Rattle.pod_steps.specs.declared.step.Revision.TheVariants.{Current, Update}
use Rattle.pod_steps.specs.declared.step.Step.TheVariants.{CreatePod, DeletePod}
use Rattle.pod_steps.specs.Replicas.{AreInOrder, Pods, is_failed, is_healthy_replica, ordinals, pod_at}
use Rattle.pod_steps.specs.FullSteps.{revision_at}
use Rattle.pod_steps.proofs.Entries.{not_true}
use Rattle.pod_steps.proofs.OrderedReadyPlans.{bounds, inside, not_false}
use Rattle.convergence.specs.Left.{condemned, most_rounds, rounds_at, rounds_left}
use Rattle.convergence.specs.Rounds.{IsNew, IsRound, after_round, made_ready, tended}
use Rattle.convergence.specs.Standing.{AreTended, IsTended, Stands, is_reached}
use Rattle.convergence.specs.Stopped.{IsUnstopped}
use Rattle.convergence.proofs.Counts.{count_less, count_one, count_same}
use Rattle.convergence.proofs.Moves.{Move, moves, steps_on, creating, replacing, removing, resting}
use Rattle.convergence.proofs.Sums.{sum_less, sum_most, sum_part, sum_same, sum_zero}

-- ---- what stands at an ordinal after a round
is_ready_one : (r : Readiness) → is_ready r ≡ true → r ≡ Ready
is_ready_one Ready h = refl
is_ready_one NotReady h = absurd (cc)
is_ready_one Failed h = absurd (cc)

pub ready_is_not_failed : (r : Readiness) → is_ready r ≡ true → is_failed r ≡ false
ready_is_not_failed Ready h = refl
ready_is_not_failed NotReady h = absurd (cc)
ready_is_not_failed Failed h = absurd (cc)

made_same : (pod : Replica) → IsTended pod → made_ready pod ≡ pod
made_same pod is =
    elim (is_failed pod.readiness) as (λ f. is_failed pod.readiness ≡ f → (if f then pod else record pod { readiness = Ready }) ≡ pod) [
      | true ↦ λ h. refl
      | false ↦ λ h. let e : Ready ≡ pod.readiness = sym (is_ready_one pod.readiness (is.ready h)) in λ k. record pod { readiness = e k }
    ] refl

tended_same : (here : Option Replica) → ((pod : Replica) → here ≡ Some pod → IsTended pod) → tended here ≡ here
tended_same None is = refl
tended_same (Some pod) is = ap (λ b. if b then None else Some (made_ready pod)) (is pod refl).staying ∙ ap Some (made_same pod (is pod refl))

pub differs : (i j : ℕ) → i ≢ j → i == j ≡ false
differs i j apart = not_true (i == j) (λ h. apart (eqb-true i j h))

-- one pod is created
after_create : (i : ℕ) (revision : Revision) (new : Replica) (here : Option Replica) → after_round (CreatePod i revision ∷ []) i new here ≡ Some new
after_create i revision new here = ap (λ b. if b || false then Some new else tended here) (eq-eqb i i refl)

after_other_create : (i j : ℕ) (revision : Revision) (new : Replica) (here : Option Replica) → i ≢ j → after_round (CreatePod i revision ∷ []) j new here ≡ tended here
after_other_create i j revision new here apart = ap (λ b. if b || false then Some new else tended here) (differs i j apart)

-- one pod is deleted
after_delete : (i uid : ℕ) (new : Replica) (here : Option Replica) → after_round (DeletePod i uid ∷ []) i new here ≡ None
after_delete i uid new here = ap (λ b. if b || false then None else tended here) (eq-eqb i i refl)

after_other_delete : (i j uid : ℕ) (new : Replica) (here : Option Replica) → i ≢ j → after_round (DeletePod i uid ∷ []) j new here ≡ tended here
after_other_delete i j uid new here apart = ap (λ b. if b || false then None else tended here) (differs i j apart)

-- ---- rounds at an ordinal
pub first_true : (a b : Bool) → (a && b) ≡ true → a ≡ true
first_true true b h = refl
first_true false b h = absurd (cc)

reached_is_update : (strategy : Strategy) (i : ℕ) → is_reached strategy i ≡ true → revision_at strategy i ≡ Update
reached_is_update (RollingUpdate partition) i h = ap (λ b. if b then Update else Current) h
reached_is_update OnDelete i h = absurd (cc)

none_due : (failed reached updated : Bool) → failed ≡ false → (reached ≡ true → updated ≡ true) → ◌≡◌ {A = ℕ} (if failed || (reached && not updated) then 2 else 0) 0
none_due true reached updated f u = absurd (cc)
none_due false false updated f u = refl
none_due false true true f u = refl
none_due false true false f u = let clash : false ≡ true = u refl in absurd (cc)

pub new_is_done : (set : SetParts) (i : ℕ) (pod : Replica) → IsNew set i pod → rounds_at set i (Some pod) ≡ 0
new_is_done set i pod new = none_due (is_failed pod.readiness) (is_reached set.strategy i) pod.updated (ready_is_not_failed pod.readiness new.ready) (λ r. new.updated (reached_is_update set.strategy i r))

-- ---- the whole
one_nearer : (s t c d : ℕ) → s ≡ t + 1 → c ≡ d → t + d ≡ (s + c) - 1
one_nearer s t c d e f = omega arith

one_fewer : (s t c d : ℕ) → s ≡ t → c ≡ d + 1 → t + d ≡ (s + c) - 1
one_fewer s t c d e f = omega arith

none_fewer : (s t c d : ℕ) → s ≡ t → c ≡ d → s + c ≡ 0 → t + d ≡ (s + c) - 1
none_fewer s t c d e f g = omega arith

-- at all ordinals but one the pods stay
abbrev StayBut : Pods → Pods → ℕ → Type 0
StayBut pods next i = (j : ℕ) → i ≢ j → pod_at next j ≡ pod_at pods j

same_left : (set : SetParts) (pods next : Pods) → ((j : ℕ) → in_range set j ≡ true → pod_at next j ≡ pod_at pods j)
    → sum_by (λ i. rounds_at set i (pod_at pods i)) (ordinals set) ≡ sum_by (λ i. rounds_at set i (pod_at next i)) (ordinals set)
same_left set pods next same =
    sum_same (λ i. rounds_at set i (pod_at pods i)) (λ i. rounds_at set i (pod_at next i)) set.start set.replicas (λ j from to. ap (rounds_at set j) (sym (same j (inside set j from to))))

less_left : (set : SetParts) (pods next : Pods) (i : ℕ) → in_range set i ≡ true → StayBut pods next i → rounds_at set i (pod_at pods i) ≡ rounds_at set i (pod_at next i) + 1
    → sum_by (λ i. rounds_at set i (pod_at pods i)) (ordinals set) ≡ sum_by (λ i. rounds_at set i (pod_at next i)) (ordinals set) + 1
less_left set pods next i within stay one =
    let at_i = bounds set i within in
    sum_less (λ i. rounds_at set i (pod_at pods i)) (λ i. rounds_at set i (pod_at next i)) set.start set.replicas i at_i.0 at_i.1 one
    (λ j from to apart. ap (rounds_at set j) (sym (stay j (λ e. apart (sym e)))))

pub apart_by_range : (set : SetParts) (i j : ℕ) (b : Bool) → in_range set i ≡ b → in_range set j ≡ not b → i ≢ j
apart_by_range set i j b h k e = let clash : b ≡ not b = sym h ∙ (ap (in_range set) e ∙ k) in elim b as (λ b. b ≡ not b → ⊥) [ true ↦ λ h. absurd (cc) | false ↦ λ h. absurd (cc) ] clash

same_condemned : (set : SetParts) (pods next : Pods) → AreInOrder pods → AreInOrder next → ((j : ℕ) → in_range set j ≡ false → pod_at next j ≡ pod_at pods j) → condemned set pods ≡ condemned set next
same_condemned set pods next s t same = count_same (λ j. not (in_range set j)) pods next s t (λ j out. sym (same j (not_false (in_range set j) out)))

fewer_condemned : (set : SetParts) (pods next : Pods) (i : ℕ) (pod : Replica) → AreInOrder pods → AreInOrder next → in_range set i ≡ false → pod_at pods i ≡ Some pod → pod_at next i ≡ None → StayBut pods next i
    → condemned set pods ≡ condemned set next + 1
fewer_condemned set pods next i pod s t out here gone stay =
    count_less (λ j. not (in_range set j)) pods next i pod s t (ap not out) here gone (λ j out apart. sym (stay j (λ e. apart (sym e))))

at_healthy : (set : SetParts) (i : ℕ) (here : Option Replica) → option_map_or is_healthy_replica here false ≡ true → ((pod : Replica) → is_reached set.strategy i ≡ true → here ≡ Some pod → pod.updated ≡ true) → rounds_at set i here ≡ 0
at_healthy set i None healthy updated = absurd (cc)
at_healthy set i (Some pod) healthy updated =
    none_due (is_failed pod.readiness) (is_reached set.strategy i) pod.updated (ready_is_not_failed pod.readiness (first_true (is_ready pod.readiness) (not pod.terminating) healthy)) (λ r. updated pod r refl)

-- none is left exactly where the set stands
stands_left : (set : SetParts) (pods : Pods) → AreInOrder pods → Stands set pods → rounds_left set pods ≡ 0
unfolding IsStrictlySortedBy
stands_left set pods sorted stands =
    let f : ℕ → ℕ = λ i. rounds_at set i (pod_at pods i) in
    let none : sum_by f (ordinals set) ≡ 0 = sum_zero f set.start set.replicas (λ j from to.
    let within : in_range set j ≡ true = inside set j from to in
    at_healthy set j (pod_at pods j) (stands.healthy j within) (λ pod r here. stands.updated j pod within r here)) in
    let empty : condemned set pods ≡ 0 = count_same (λ j. not (in_range set j)) pods [] sorted tt (λ j out. stands.alone j (not_false (in_range set j) out)) in
    (λ k. none k + empty k)

-- ---- a round
abbrev IsOneNearer : SetParts → Pods → Pods → Type 0
IsOneNearer set pods next = rounds_left set next ≡ rounds_left set pods - 1

pub stay_tended : (pods : Pods) → AreTended pods → (j : ℕ) → tended (pod_at pods j) ≡ pod_at pods j
stay_tended pods are j = tended_same (pod_at pods j) (are j)

after_creating : (set : SetParts) (pods next : Pods) (i : ℕ) → AreInOrder pods → AreTended pods → IsRound set pods next → in_range set i ≡ true → pod_at pods i ≡ None
    → steps_on set pods ≡ CreatePod i (revision_at set.strategy i) ∷ [] → IsOneNearer set pods next
after_creating set pods next i sorted are round within here steps =
    let revision = revision_at set.strategy i in
    let stay : StayBut pods next i = λ j apart.
    round.is_next j ∙ (ap (λ s. after_round s j (round.new j) (pod_at pods j)) steps ∙ (after_other_create i j revision (round.new j) (pod_at pods j) apart ∙ stay_tended pods are j)) in
    let there : pod_at next i ≡ Some (round.new i) = round.is_next i ∙ (ap (λ s. after_round s i (round.new i) (pod_at pods i)) steps ∙ after_create i revision (round.new i) (pod_at pods i)) in
    let done : rounds_at set i (pod_at next i) ≡ 0 = ap (rounds_at set i) there ∙ new_is_done set i (round.new i) (round.are_new i) in
    let one : rounds_at set i (pod_at pods i) ≡ 1 = ap (rounds_at set i) here in
    one_nearer _ _ _ _ (less_left set pods next i within stay (omega arith)) (same_condemned set pods next sorted round.in_order (λ j out. stay j (apart_by_range set i j true within out)))

after_replacing : (set : SetParts) (pods next : Pods) (i uid : ℕ) → AreInOrder pods → AreTended pods → IsRound set pods next → in_range set i ≡ true → rounds_at set i (pod_at pods i) ≡ 2
    → steps_on set pods ≡ DeletePod i uid ∷ [] → IsOneNearer set pods next
after_replacing set pods next i uid sorted are round within two steps =
    let stay : StayBut pods next i = λ j apart.
    round.is_next j ∙ (ap (λ s. after_round s j (round.new j) (pod_at pods j)) steps ∙ (after_other_delete i j uid (round.new j) (pod_at pods j) apart ∙ stay_tended pods are j)) in
    let gone : pod_at next i ≡ None = round.is_next i ∙ (ap (λ s. after_round s i (round.new i) (pod_at pods i)) steps ∙ after_delete i uid (round.new i) (pod_at pods i)) in
    let one : rounds_at set i (pod_at next i) ≡ 1 = ap (rounds_at set i) gone in
    one_nearer _ _ _ _ (less_left set pods next i within stay (omega arith)) (same_condemned set pods next sorted round.in_order (λ j out. stay j (apart_by_range set i j true within out)))

after_removing : (set : SetParts) (pods next : Pods) (i uid : ℕ) (pod : Replica) → AreInOrder pods → AreTended pods → IsRound set pods next → in_range set i ≡ false → pod_at pods i ≡ Some pod
    → steps_on set pods ≡ DeletePod i uid ∷ [] → IsOneNearer set pods next
after_removing set pods next i uid pod sorted are round out here steps =
    let stay : StayBut pods next i = λ j apart.
    round.is_next j ∙ (ap (λ s. after_round s j (round.new j) (pod_at pods j)) steps ∙ (after_other_delete i j uid (round.new j) (pod_at pods j) apart ∙ stay_tended pods are j)) in
    let gone : pod_at next i ≡ None = round.is_next i ∙ (ap (λ s. after_round s i (round.new i) (pod_at pods i)) steps ∙ after_delete i uid (round.new i) (pod_at pods i)) in
    one_fewer _ _ _ _ (same_left set pods next (λ j within. stay j (apart_by_range set i j false out within))) (fewer_condemned set pods next i pod sorted round.in_order out here gone stay)

after_resting : (set : SetParts) (pods next : Pods) → AreInOrder pods → AreTended pods → IsRound set pods next → Stands set pods → steps_on set pods ≡ [] → IsOneNearer set pods next
after_resting set pods next sorted are round stands steps =
    let stay : (j : ℕ) → pod_at next j ≡ pod_at pods j = λ j. round.is_next j ∙ (ap (λ s. after_round s j (round.new j) (pod_at pods j)) steps ∙ stay_tended pods are j) in
    none_fewer _ _ _ _ (same_left set pods next (λ j within. stay j)) (same_condemned set pods next sorted round.in_order (λ j out. stay j)) (stands_left set pods sorted stands)

pub by_move : (set : SetParts) (pods next : Pods) → AreInOrder pods → AreTended pods → IsRound set pods next → Move set pods → IsOneNearer set pods next
by_move set pods next sorted are round (creating i within here steps) = after_creating set pods next i sorted are round within here steps
by_move set pods next sorted are round (replacing i pod within here two steps) = after_replacing set pods next i pod.uid sorted are round within (ap (rounds_at set i) here ∙ two) steps
by_move set pods next sorted are round (removing i pod out here steps) = after_removing set pods next i pod.uid pod sorted are round out here steps
by_move set pods next sorted are round (resting stands steps) = after_resting set pods next sorted are round stands steps

pub falls : (set : SetParts) (pods next : Pods) → AreInOrder pods → set.policy ≡ OrderedReady → AreTended pods → IsUnstopped set pods → IsRound set pods next → rounds_left set next ≡ rounds_left set pods - 1
falls set pods next sorted policy are free round = by_move set pods next sorted are round (moves set pods sorted policy are free)

-- ---- none left
abbrev HasNoneLeft : SetParts → ℕ → Replica → Type 0
HasNoneLeft set i pod = (is_failed pod.readiness ≡ false) × (is_reached set.strategy i ≡ true → pod.updated ≡ true)

none_is_left : (failed reached updated : Bool) → ◌≡◌ {A = ℕ} (if failed || (reached && not updated) then 2 else 0) 0 → (failed ≡ false) × (reached ≡ true → updated ≡ true)
none_is_left true reached updated h = absurd (omega (arith, h))
none_is_left false true true h = (refl, λ r. refl)
none_is_left false true false h = absurd (omega (arith, h))
none_is_left false false updated h = (refl, λ r. absurd (cc))

none_left_at : (set : SetParts) (pods : Pods) (i : ℕ) → rounds_left set pods ≡ 0 → in_range set i ≡ true → rounds_at set i (pod_at pods i) ≡ 0
none_left_at set pods i none within =
    let at_i = bounds set i within in
    let part = sum_part (λ j. rounds_at set j (pod_at pods j)) set.start set.replicas i at_i.0 at_i.1 in
    omega (arith, part, none)

healthy_at : (set : SetParts) (i : ℕ) (here : Option Replica) → ((pod : Replica) → here ≡ Some pod → IsTended pod) → rounds_at set i here ≡ 0 → option_map_or is_healthy_replica here false ≡ true
healthy_at set i None are none = absurd (omega (arith, none))
healthy_at set i (Some pod) are none =
    let is : IsTended pod = are pod refl in
    let ready : is_ready pod.readiness ≡ true = is.ready (none_is_left (is_failed pod.readiness) (is_reached set.strategy i) pod.updated none).0 in
    let stays : pod.terminating ≡ false = is.staying in
    (λ k. ready k && not (stays k))

stands_where_none_left : (set : SetParts) (pods : Pods) → AreInOrder pods → AreTended pods → rounds_left set pods ≡ 0 → Stands set pods
stands_where_none_left set pods sorted are none = record {
  healthy = λ i within. healthy_at set i (pod_at pods i) (are i) (none_left_at set pods i none within);
  updated = λ i pod within reached here.
      (none_is_left (is_failed pod.readiness) (is_reached set.strategy i) pod.updated (sym (ap (rounds_at set i) here) ∙ none_left_at set pods i none within)).1 reached;
  alone = λ i out. elim (pod_at pods i) as (λ o. pod_at pods i ≡ o → o ≡ None) [
    | None ↦ λ h. refl
    | Some pod ↦ λ h.
        let one = count_one (λ j. not (in_range set j)) pods i pod sorted (ap not out) h in
        absurd (omega (arith, one, none))
  ] refl;
}

pub none_left_is_standing : (set : SetParts) (pods : Pods) → AreInOrder pods → AreTended pods → (rounds_left set pods ≡ 0) ↔ Stands set pods
none_left_is_standing set pods sorted are = (stands_where_none_left set pods sorted are, stands_left set pods sorted)

at_most_two : (b : Bool) → (if b then 2 else 0) ≤ 2
at_most_two true = omega arith
at_most_two false = omega arith

two_at_most : (set : SetParts) (i : ℕ) (here : Option Replica) → rounds_at set i here ≤ 2
two_at_most set i None = omega arith
two_at_most set i (Some pod) = at_most_two (is_failed pod.readiness || (is_reached set.strategy i && not pod.updated))

pub few_left : (set : SetParts) (pods : Pods) → rounds_left set pods ≤ most_rounds set pods
few_left set pods =
    let f : ℕ → ℕ = λ i. rounds_at set i (pod_at pods i) in
    let few : sum_by f (ordinals set) ≤ 2 * set.replicas = sum_most f set.start set.replicas (λ j. two_at_most set j (pod_at pods j)) in
    omega arith
