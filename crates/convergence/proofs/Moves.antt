-- What a plan of OrderedReady does to pods of which each is ready or has ended.
use Rattle.std.proofs.Common.{◌≡◌, ◌==◌, ◌&&◌, ◌||◌, ℕ, ◌-◌, ◌≤◌, Bool, true, false, not, if◌then◌else◌, List, [], ◌∷◌, nat_le, Option, Some, None, find, reverse, arith, refl, sym, ap, ◌∙◌}
use Rattle.std.proofs.lemmas.Bool.{eq-eqb}
use Rattle.std.specs.List.{range_with_len}
use Rattle.std.specs.Option.{option_map_or}
use Rattle.set_views.specs.declared.policies.Policy.TheVariants.{OrderedReady}
use Rattle.set_views.specs.declared.policies.Strategy.{Strategy}
use Rattle.set_views.specs.declared.policies.Strategy.TheVariants.{RollingUpdate, OnDelete}
use Rattle.set_views.specs.Set.{SetParts}
use Rattle.set_views.specs.Predicates.{in_range, is_ready}
use Rattle.pod_steps.specs.declared.replica.Replica.{Replica}
use Rattle.pod_steps.specs.declared.step.Step.{Step}
use Rattle.pod_steps.specs.declared.step.Step.TheVariants.{CreatePod, DeletePod}
use Rattle.pod_steps.specs.Replicas.{AreInOrder, Pods, has_healthy_pod, is_due, is_failed, is_healthy_replica, is_out_of_range, is_settled, lacks_healthy, ordinals, pod_at}
use Rattle.pod_steps.specs.Step.{pod_steps}
use Rattle.pod_steps.specs.FullSteps.{full_steps, full_steps_by, gap_steps, is_other_unhealthy, ordered_ready_steps, ordered_ready_steps_at, removal_steps_unless, replacement_steps, revision_at, rolling_update_steps, scale_down_or_update_steps, scale_down_steps, update_steps, update_steps_by, wait_for}
use Rattle.pod_steps.proofs.Entries.{none_passes}
use Rattle.pod_steps.proofs.OrderedReadyPlans.{after_keep_steps, bounds, inside, not_false}
use Rattle.pod_steps.proofs.Searches.{found_in, none_found, passes_in, found_in_back, none_found_back, entry_is_there, back_finds, highest_is}
use Rattle.pod_steps.proofs.Causes.{gap_of, highest_of, healthy_unless, both_true}
use Rattle.convergence.specs.Left.{rounds_at}
use Rattle.convergence.specs.Standing.{AreTended, IsTended, Stands, is_reached}
use Rattle.convergence.specs.Stopped.{IsUnstopped}

-- the steps on pods
abbrev pub steps_on : SetParts → Pods → List Step
steps_on set pods = pod_steps (full_steps set pods)

-- what a plan does: one thing to one pod, or nothing
pub data Move (set : SetParts) (pods : Pods) : Type 0 where
  creating : (i : ℕ) → in_range set i ≡ true → pod_at pods i ≡ None → steps_on set pods ≡ CreatePod i (revision_at set.strategy i) ∷ [] → Move set pods
  replacing : (i : ℕ) (pod : Replica) → in_range set i ≡ true → pod_at pods i ≡ Some pod → rounds_at set i (Some pod) ≡ 2 → steps_on set pods ≡ DeletePod i pod.uid ∷ [] → Move set pods
  removing : (i : ℕ) (pod : Replica) → in_range set i ≡ false → pod_at pods i ≡ Some pod → steps_on set pods ≡ DeletePod i pod.uid ∷ [] → Move set pods
  resting : Stands set pods → steps_on set pods ≡ [] → Move set pods

in_order_steps : (set : SetParts) (pods : Pods) → set.policy ≡ OrderedReady → steps_on set pods ≡ pod_steps (ordered_ready_steps set pods)
in_order_steps set pods policy = ap (λ p. pod_steps (full_steps_by p set pods)) policy

pub at_gap : (set : SetParts) (pods : Pods) (i : ℕ) → set.policy ≡ OrderedReady → gap_of set pods ≡ Some i → steps_on set pods ≡ pod_steps (gap_steps set i (pod_at pods i))
at_gap set pods i policy gap =
    in_order_steps set pods policy
    ∙ (ap (λ g. pod_steps (ordered_ready_steps_at set pods g)) gap ∙ after_keep_steps (range_with_len set.start (i - set.start)) (gap_steps set i (pod_at pods i)))

pub past_gaps : (set : SetParts) (pods : Pods) → set.policy ≡ OrderedReady → gap_of set pods ≡ None → steps_on set pods ≡ pod_steps (scale_down_or_update_steps set pods (highest_of set pods))
past_gaps set pods policy none =
    in_order_steps set pods policy
    ∙ (ap (λ g. pod_steps (ordered_ready_steps_at set pods g)) none ∙ after_keep_steps (ordinals set) (scale_down_or_update_steps set pods (highest_of set pods)))

-- ---- at a gap
close : (set : SetParts) (pods : Pods) (i : ℕ) (here : Option Replica) → pod_at pods i ≡ here → in_range set i ≡ true → has_healthy_pod pods i ≡ false
    → ((pod : Replica) → here ≡ Some pod → IsTended pod) → steps_on set pods ≡ pod_steps (gap_steps set i here) → Move set pods
close set pods i None at within gap tended steps = creating i within at steps
close set pods i (Some pod) at within gap tended steps =
    let is = tended pod refl in
    let stays : pod.terminating ≡ false = is.staying in
    elim (is_failed pod.readiness) as (λ f. is_failed pod.readiness ≡ f → Move set pods) [
      | true ↦ λ failed.
          let whole : pod_steps (gap_steps set i (Some pod)) ≡ DeletePod i pod.uid ∷ [] =
          (λ k. pod_steps (if stays k then wait_for i pod ∷ [] else if failed k then DeletePod i pod.uid ∷ [] else wait_for i pod ∷ [])) in
          replacing i pod within at (ap (λ b. if b || (is_reached set.strategy i && not pod.updated) then 2 else 0) failed) (steps ∙ whole)
      | false ↦ λ failed.
          let ready : is_ready pod.readiness ≡ true = is.ready failed in
          let healthy : has_healthy_pod pods i ≡ true = ap (λ o. option_map_or is_healthy_replica o false) at ∙ (λ k. ready k && not (stays k)) in
          absurd (cc)
    ] refl

-- ---- past the gaps: the condemned pods
steps_of_removal : (set : SetParts) (pods : Pods) (e : ℕ × Replica) → e.1.terminating ≡ false → find (is_other_unhealthy set e.0) pods ≡ None
    → pod_steps (scale_down_steps set pods e) ≡ DeletePod e.0 e.1.uid ∷ []
steps_of_removal set pods e stays none =
    ap (λ b. pod_steps (if b then wait_for e.0 e.1 ∷ [] else removal_steps_unless e (find (is_other_unhealthy set e.0) pods))) stays
    ∙ ap (λ o. pod_steps (removal_steps_unless e o)) none

holds_none : (within same healthy : Bool) → (within ≡ false → same ≡ false → healthy ≡ true) → (not within && not same && not healthy) ≡ false
holds_none true same healthy h = refl
holds_none false true healthy h = refl
holds_none false false healthy h = ap not (h refl refl)

none_holds : (set : SetParts) (pods : Pods) (e : ℕ × Replica) → AreInOrder pods → AreTended pods → IsUnstopped set pods → highest_of set pods ≡ Some e → find (is_other_unhealthy set e.0) pods ≡ None
none_holds set pods e sorted tended free found =
    let out : in_range set e.0 ≡ false = not_false (in_range set e.0) (passes_in (is_out_of_range set) (reverse pods) e found) in
    let there : pod_at pods e.0 ≡ Some e.1 = entry_is_there (is_out_of_range set) pods e sorted found in
    none_passes (is_other_unhealthy set e.0) pods sorted (λ j y here.
    holds_none (in_range set j) (j == e.0) (is_healthy_replica y) (λ beyond apart.
    let is : IsTended y = tended j y here in
    let low : j ≤ e.0 = highest_is (is_out_of_range set) pods e j y sorted found here (ap not beyond) in
    elim (is_failed y.readiness) as (λ f. is_failed y.readiness ≡ f → is_healthy_replica y ≡ true) [
      | true ↦ λ failed.
          let high : e.0 ≤ j = free j e.0 y e.1 (beyond, here, is.staying) failed (out, there, (tended e.0 e.1 there).staying) in
          let same : j ≡ e.0 = omega arith in
          let clash : j == e.0 ≡ true = eq-eqb j e.0 same in
          absurd (cc)
      | false ↦ λ failed.
          let ready : is_ready y.readiness ≡ true = is.ready failed in
          let stays : y.terminating ≡ false = is.staying in
          (λ k. ready k && not (stays k))
    ] refl))

remove : (set : SetParts) (pods : Pods) (e : ℕ × Replica) → AreInOrder pods → AreTended pods → IsUnstopped set pods → highest_of set pods ≡ Some e
    → steps_on set pods ≡ pod_steps (scale_down_steps set pods e) → Move set pods
remove set pods e sorted tended free found steps =
    let out : in_range set e.0 ≡ false = not_false (in_range set e.0) (passes_in (is_out_of_range set) (reverse pods) e found) in
    let there : pod_at pods e.0 ≡ Some e.1 = entry_is_there (is_out_of_range set) pods e sorted found in
    removing e.0 e.1 out there (steps ∙ steps_of_removal set pods e (tended e.0 e.1 there).staying (none_holds set pods e sorted tended free found))

-- ---- past these: the update
pub none_beyond : (set : SetParts) (pods : Pods) → highest_of set pods ≡ None → (i : ℕ) → in_range set i ≡ false → pod_at pods i ≡ None
none_beyond set pods none i out =
    elim (pod_at pods i) as (λ o. pod_at pods i ≡ o → o ≡ None) [
      | None ↦ λ h. refl
      | Some y ↦ λ h. absurd (back_finds (is_out_of_range set) pods i y h (ap not out) none)
    ] refl

pub all_healthy : (set : SetParts) (pods : Pods) → gap_of set pods ≡ None → (i : ℕ) → in_range set i ≡ true → has_healthy_pod pods i ≡ true
all_healthy set pods none i within =
    let at_i = bounds set i within in
    healthy_unless (has_healthy_pod pods i) (none_found (lacks_healthy pods) set.start set.replicas i none at_i.0 at_i.1)

unsettled : (updated healthy : Bool) → not (updated && healthy) ≡ true → healthy ≡ true → updated ≡ false
unsettled false healthy h t = refl
unsettled true true h t = absurd (cc)
unsettled true false h t = absurd (cc)

settled_is_updated : (reached updated healthy : Bool) → (reached && not (updated && healthy)) ≡ false → reached ≡ true → updated ≡ true
settled_is_updated true true healthy h t = refl
settled_is_updated true false healthy h t = absurd (cc)
settled_is_updated false updated healthy h t = absurd (cc)

or_true : (a b : Bool) → b ≡ true → (a || b) ≡ true
or_true true b h = refl
or_true false b h = h

replace : (set : SetParts) (pods : Pods) (partition i : ℕ) (here : Option Replica) → set.strategy ≡ RollingUpdate partition → pod_at pods i ≡ here → in_range set i ≡ true
    → option_map_or is_healthy_replica here false ≡ true → nat_le partition i ≡ true → option_map_or (λ pod. not (is_settled pod)) here false ≡ true
    → steps_on set pods ≡ pod_steps (replacement_steps i here) → Move set pods
replace set pods partition i None rolling at within healthy reached due steps = absurd (cc)
replace set pods partition i (Some pod) rolling at within healthy reached due steps =
    let two = both_true (is_ready pod.readiness) (not pod.terminating) healthy in
    let old : pod.updated ≡ false = unsettled pod.updated (is_healthy_replica pod) due healthy in
    let stays : pod.terminating ≡ false = not_false pod.terminating two.1 in
    let whole : pod_steps (replacement_steps i (Some pod)) ≡ DeletePod i pod.uid ∷ [] = (λ k. pod_steps (if not (old k) && not (stays k) then DeletePod i pod.uid ∷ [] else wait_for i pod ∷ [])) in
    let reaches : is_reached set.strategy i ≡ true = ap (λ s. is_reached s i) rolling ∙ reached in
    let outdated : (is_reached set.strategy i && not pod.updated) ≡ true = (λ k. reaches k && not (old k)) in
    replacing i pod within at (ap (λ b. if b then 2 else 0) (or_true (is_failed pod.readiness) (is_reached set.strategy i && not pod.updated) outdated)) (steps ∙ whole)

pub update : (set : SetParts) (pods : Pods) (strategy : Strategy) → set.strategy ≡ strategy → gap_of set pods ≡ None → highest_of set pods ≡ None
    → steps_on set pods ≡ pod_steps (update_steps_by strategy set pods) → Move set pods
update set pods OnDelete is none empty steps =
    resting (record {
      healthy = all_healthy set pods none;
      updated = λ i pod within reached here. (let never : is_reached set.strategy i ≡ false = ap (λ s. is_reached s i) is in absurd (cc));
      alone = none_beyond set pods empty;
    }) steps
update set pods (RollingUpdate partition) is none empty steps =
    elim (find (is_due partition pods) (reverse (ordinals set))) as (λ o. find (is_due partition pods) (reverse (ordinals set)) ≡ o → steps_on set pods ≡ pod_steps (rolling_update_steps pods o) → Move set pods) [
      | Some i ↦ λ found whole.
          let at_i = found_in_back (is_due partition pods) set.start set.replicas i found in
          let within : in_range set i ≡ true = inside set i at_i.0 at_i.1 in
          let due = both_true (nat_le partition i) (option_map_or (λ pod. not (is_settled pod)) (pod_at pods i) false) (passes_in (is_due partition pods) (reverse (ordinals set)) i found) in
          replace set pods partition i (pod_at pods i) is refl within (all_healthy set pods none i within) due.0 due.1 whole
      | None ↦ λ found whole.
          resting (record {
            healthy = all_healthy set pods none;
            updated = λ i pod within reached here.
                let at_i = bounds set i within in
                let silent : is_due partition pods i ≡ false = none_found_back (is_due partition pods) set.start set.replicas i found at_i.0 at_i.1 in
                let by_pod : (nat_le partition i && not (is_settled pod)) ≡ false = sym (ap (λ o. nat_le partition i && option_map_or (λ x. not (is_settled x)) o false) here) ∙ silent in
                settled_is_updated (nat_le partition i) pod.updated (is_healthy_replica pod) by_pod (sym (ap (λ s. is_reached s i) is) ∙ reached);
            alone = none_beyond set pods empty;
          }) whole
    ] refl steps

pub moves : (set : SetParts) (pods : Pods) → AreInOrder pods → set.policy ≡ OrderedReady → AreTended pods → IsUnstopped set pods → Move set pods
unfolding update_steps
moves set pods sorted policy tended free =
    elim (gap_of set pods) as (λ g. gap_of set pods ≡ g → Move set pods) [
      | Some i ↦ λ gap.
          let at_i = found_in (lacks_healthy pods) set.start set.replicas i gap in
          close set pods i (pod_at pods i) refl (inside set i at_i.0 at_i.1) (not_false (has_healthy_pod pods i) (passes_in (lacks_healthy pods) (ordinals set) i gap)) (tended i) (at_gap set pods i policy gap)
      | None ↦ λ none.
          elim (highest_of set pods) as (λ o. highest_of set pods ≡ o → steps_on set pods ≡ pod_steps (scale_down_or_update_steps set pods o) → Move set pods) [
            | Some e ↦ λ found steps. remove set pods e sorted tended free found steps
            | None ↦ λ empty steps. update set pods set.strategy refl none empty steps
          ] refl (past_gaps set pods policy none)
    ] refl
