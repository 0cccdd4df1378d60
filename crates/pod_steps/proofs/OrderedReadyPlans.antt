-- A plan of OrderedReady meets the rules of scaling and updates.
use Rattle.std.proofs.Common.{◌≡◌, ◌==◌, ◌&&◌, ℕ, ◌+◌, ◌-◌, ◌≤◌, ◌<◌, Bool, true, false, not, if◌then◌else◌, List, [], ◌∷◌, ◌++◌, Option, Some, None, IsSome, find, reverse, arith, refl, sym, ap, ◌∙◌, subst}
use Rattle.std.proofs.lemmas.Bool.{eqb-true, eq-eqb}
use Rattle.std.proofs.lemmas.Bool.Decides.{nat_tests}
use Rattle.std.specs.List.{flat_map, range_with_len}
use Rattle.std.specs.Option.{option_map_or}
use Rattle.set_views.specs.Set.{SetParts}
use Rattle.set_views.specs.Predicates.{in_range}
use Rattle.pod_steps.specs.declared.replica.Replica.{Replica}
use Rattle.pod_steps.specs.declared.step.Cause.TheVariants.{Terminating, NotReady}
use Rattle.pod_steps.specs.declared.step.Step.{Step}
use Rattle.pod_steps.specs.declared.step.Step.TheVariants.{DeletePod, Wait}
use Rattle.pod_steps.specs.Least.{IsGreatest, IsLeast}
use Rattle.pod_steps.specs.Replicas.{AreInOrder, Pods, has_healthy_pod, is_out_of_range, is_due, is_failed, is_healthy_replica, lacks_healthy, ordinals, pod_at}
use Rattle.pod_steps.specs.Scaling.{HasCondemned, IsGap, IsHolding, ClosesGap, ScalesDown, ScalesOrderedReady}
use Rattle.pod_steps.specs.Step.{pod_steps}
use Rattle.pod_steps.specs.Update.{IsDue, Replaces, Updates}
use Rattle.pod_steps.specs.FullSteps.{removal_steps_unless, ordered_ready_steps, ordered_ready_steps_at, is_other_unhealthy, keep_steps, gap_steps, replacement_steps, scale_down_steps, scale_down_or_update_steps, rolling_update_steps, update_steps, update_steps_by}
use Rattle.pod_steps.proofs.Entries.{first_entry, last_entry, none_back, none_passes, not_true}
use Rattle.pod_steps.proofs.Found.{find_greatest, find_least, find_none, find_none_back}

pub bounds : (set : SetParts) (i : ℕ) → in_range set i ≡ true → (set.start ≤ i) × (i < set.start + set.replicas)
bounds set i h = (grind (arith, nat_tests), grind (arith, nat_tests))

pub inside : (set : SetParts) (i : ℕ) → set.start ≤ i → i < set.start + set.replicas → in_range set i ≡ true
inside set i from to = grind (arith, nat_tests)

pub not_false : (b : Bool) → not b ≡ true → b ≡ false
not_false true h = sym h
not_false false h = refl

-- steps on claims are none on pods
pub after_keep_steps : (ns : List ℕ) (ys : List Step) → pod_steps (flat_map keep_steps ns ++ ys) ≡ pod_steps ys
after_keep_steps [] ys = refl
after_keep_steps (n ∷ ns) ys = after_keep_steps ns ys

-- ---- an ordinal without a healthy pod
closes_gap : (set : SetParts) (i : ℕ) (here : Option Replica) → ClosesGap set i here (pod_steps (gap_steps set i here))
closes_gap set i here = record {
  absent = λ e. ap (λ o. pod_steps (gap_steps set i o)) e;
  terminating = λ pod e t.
      ap (λ o. pod_steps (gap_steps set i o)) e
      ∙ ap (λ b. pod_steps (if b then Wait i (if b then Terminating else NotReady) ∷ [] else if is_failed pod.readiness then DeletePod i pod.uid ∷ [] else Wait i (if b then Terminating else NotReady) ∷ [])) t;
  failed = λ pod e t f.
      ap (λ o. pod_steps (gap_steps set i o)) e
      ∙ (λ k. pod_steps (if t k then Wait i (if t k then Terminating else NotReady) ∷ [] else if f k then DeletePod i pod.uid ∷ [] else Wait i (if t k then Terminating else NotReady) ∷ []));
  not_ready = λ pod e t f.
      ap (λ o. pod_steps (gap_steps set i o)) e
      ∙ (λ k. pod_steps (if t k then Wait i (if t k then Terminating else NotReady) ∷ [] else if f k then DeletePod i pod.uid ∷ [] else Wait i (if t k then Terminating else NotReady) ∷ []));
}

-- the walk stops at the least gap
found_gap : (set : SetParts) (pods : Pods) (i : ℕ) → IsLeast (IsGap set pods) i → find (lacks_healthy pods) (ordinals set) ≡ Some i
found_gap set pods i gap =
    let at_i = bounds set i gap.holds.0 in
    find_least (lacks_healthy pods) set.start set.replicas i at_i.0 at_i.1 (ap not gap.holds.1) (λ j from to.
    not_true (lacks_healthy pods j) (λ p.
    let low : i ≤ j = gap.least j (inside set j from (omega arith), not_false (has_healthy_pod pods j) p) in
    absurd (omega arith)))

-- or there is none
no_gap : (set : SetParts) (pods : Pods) → ((i : ℕ) → ¬ IsGap set pods i) → find (lacks_healthy pods) (ordinals set) ≡ None
no_gap set pods none =
    find_none (lacks_healthy pods) set.start set.replicas (λ j from to.
    not_true (lacks_healthy pods j) (λ p. none j (inside set j from to, not_false (has_healthy_pod pods j) p)))

at_gap : (set : SetParts) (pods : Pods) (i : ℕ) → IsLeast (IsGap set pods) i → pod_steps (ordered_ready_steps set pods) ≡ pod_steps (gap_steps set i (pod_at pods i))
at_gap set pods i gap = ap (λ g. pod_steps (ordered_ready_steps_at set pods g)) (found_gap set pods i gap) ∙ after_keep_steps (range_with_len set.start (i - set.start)) (gap_steps set i (pod_at pods i))

past_gaps : (set : SetParts) (pods : Pods) → ((i : ℕ) → ¬ IsGap set pods i) → pod_steps (ordered_ready_steps set pods) ≡ pod_steps (scale_down_or_update_steps set pods (find (is_out_of_range set) (reverse pods)))
past_gaps set pods none = ap (λ g. pod_steps (ordered_ready_steps_at set pods g)) (no_gap set pods none) ∙ after_keep_steps (ordinals set) _

-- ---- the condemned pods
is_here : (pods : Pods) (j : ℕ) (y : Replica) → pod_at pods j ≡ Some y → IsSome (pod_at pods j)
is_here pods j y e = let P : Option Replica → Type 0 = λ o. IsSome o in subst P (sym e) refl

three_false : (a b c : Bool) → (not a && not b && not c) ≡ true → (a ≡ false) × (b ≡ false) × (c ≡ false)
three_false true b c h = absurd (cc)
three_false false true c h = absurd (cc)
three_false false false true h = absurd (cc)
three_false false false false h = (refl, refl, refl)

-- the test of the walk, and the rule's predicate
holds_it : (set : SetParts) (pods : Pods) (i j : ℕ) (y : Replica) → pod_at pods j ≡ Some y → is_other_unhealthy set i (j, y) ≡ true → IsHolding set pods i j
holds_it set pods i j y e t =
    let three = three_false (in_range set j) (j == i) (is_healthy_replica y) t in (
      λ same. (let u : j == i ≡ true = eq-eqb j i same in let v : j == i ≡ false = three.1 in absurd (cc)),
      (three.0, is_here pods j y e),
      ap (λ o. option_map_or is_healthy_replica o false) e ∙ three.2,
    )

is_held : (set : SetParts) (pods : Pods) (i j : ℕ) (y : Replica) → pod_at pods j ≡ Some y → IsHolding set pods i j → is_other_unhealthy set i (j, y) ≡ true
is_held set pods i j y e holding =
    let out : in_range set j ≡ false = holding.1.0 in
    let apart : j == i ≡ false = not_true (j == i) (λ same. holding.0 (eqb-true j i same)) in
    let unhealthy : is_healthy_replica y ≡ false = sym (ap (λ o. option_map_or is_healthy_replica o false) e) ∙ holding.2 in
    λ k. not (out k) && not (apart k) && not (unhealthy k)

found_holding : (set : SetParts) (pods : Pods) (i j : ℕ) (other : Replica) → AreInOrder pods → IsLeast (IsHolding set pods i) j → pod_at pods j ≡ Some other → find (is_other_unhealthy set i) pods ≡ Some (j, other)
found_holding set pods i j other sorted least here =
    first_entry (is_other_unhealthy set i) pods j other sorted here (is_held set pods i j other here least.holds) (λ m y e p. least.least m (holds_it set pods i m y e p))

no_holding : (set : SetParts) (pods : Pods) (i : ℕ) → AreInOrder pods → ((j : ℕ) → ¬ IsHolding set pods i j) → find (is_other_unhealthy set i) pods ≡ None
no_holding set pods i sorted none =
    none_passes (is_other_unhealthy set i) pods sorted (λ j y e. not_true (is_other_unhealthy set i (j, y)) (λ p. none j (holds_it set pods i j y e p)))

scales_down : (set : SetParts) (pods : Pods) (i : ℕ) (pod : Replica) → AreInOrder pods → ScalesDown set pods i pod (pod_steps (scale_down_steps set pods (i, pod)))
scales_down set pods i pod sorted = record {
  terminating = λ t. ap (λ b. pod_steps (if b then Wait i (if b then Terminating else NotReady) ∷ [] else removal_steps_unless (i, pod) (find (is_other_unhealthy set i) pods))) t;
  held = λ t j other least here.
      ap (λ b. pod_steps (if b then Wait i (if b then Terminating else NotReady) ∷ [] else removal_steps_unless (i, pod) (find (is_other_unhealthy set i) pods))) t
      ∙ ap (λ o. pod_steps (removal_steps_unless (i, pod) o)) (found_holding set pods i j other sorted least here);
  free = λ t none.
      ap (λ b. pod_steps (if b then Wait i (if b then Terminating else NotReady) ∷ [] else removal_steps_unless (i, pod) (find (is_other_unhealthy set i) pods))) t
      ∙ ap (λ o. pod_steps (removal_steps_unless (i, pod) o)) (no_holding set pods i sorted none);
}

found_highest : (set : SetParts) (pods : Pods) (i : ℕ) (pod : Replica) → AreInOrder pods → IsGreatest (HasCondemned set pods) i → pod_at pods i ≡ Some pod → find (is_out_of_range set) (reverse pods) ≡ Some (i, pod)
found_highest set pods i pod sorted highest here =
    last_entry (is_out_of_range set) pods i pod sorted here (ap not highest.holds.0) (λ j y e p. highest.greatest j (not_false (in_range set j) p, is_here pods j y e))

no_condemned : (set : SetParts) (pods : Pods) → AreInOrder pods → ((i : ℕ) → ¬ HasCondemned set pods i) → find (is_out_of_range set) (reverse pods) ≡ None
no_condemned set pods sorted none =
    none_back (is_out_of_range set) pods (none_passes (is_out_of_range set) pods sorted (λ j y e. not_true (is_out_of_range set (j, y)) (λ p. none j (not_false (in_range set j) p, is_here pods j y e))))

-- ---- the update
waited_for : (i uid : ℕ) (at_update : Bool) → pod_steps (if not at_update && not true then DeletePod i uid ∷ [] else Wait i Terminating ∷ []) ≡ Wait i Terminating ∷ []
waited_for i uid true = refl
waited_for i uid false = refl

replaces : (i : ℕ) (pod : Replica) → Replaces i pod (pod_steps (replacement_steps i (Some pod)))
replaces i pod = record {
  outdated = λ u t. (λ k. pod_steps (if not (u k) && not (t k) then DeletePod i pod.uid ∷ [] else Wait i (if t k then Terminating else NotReady) ∷ []));
  terminating = λ t.
      ap (λ b. pod_steps (if not pod.updated && not b then DeletePod i pod.uid ∷ [] else Wait i (if b then Terminating else NotReady) ∷ [])) t
      ∙ waited_for i pod.uid pod.updated;
  not_ready = λ u t. (λ k. pod_steps (if not (u k) && not (t k) then DeletePod i pod.uid ∷ [] else Wait i (if t k then Terminating else NotReady) ∷ []));
}

last_due : (set : SetParts) (partition : ℕ) (pods : Pods) (i : ℕ) → IsGreatest (IsDue set partition pods) i → find (is_due partition pods) (reverse (ordinals set)) ≡ Some i
last_due set partition pods i due =
    let at_i = bounds set i due.holds.0 in
    find_greatest (is_due partition pods) set.start set.replicas i at_i.0 at_i.1 due.holds.1 (λ j from to.
    not_true (is_due partition pods j) (λ p.
    let high : j ≤ i = due.greatest j (inside set j (omega arith) to, p) in
    absurd (omega arith)))

no_due : (set : SetParts) (partition : ℕ) (pods : Pods) → ((i : ℕ) → ¬ IsDue set partition pods i) → find (is_due partition pods) (reverse (ordinals set)) ≡ None
no_due set partition pods none =
    find_none_back (is_due partition pods) set.start set.replicas (λ j from to. not_true (is_due partition pods j) (λ p. none j (inside set j from to, p)))

pub updates : (set : SetParts) (pods : Pods) → Updates set pods (pod_steps (update_steps set pods))
unfolding update_steps
updates set pods = record {
  due = λ partition rolling i pod due here.
      let whole : update_steps_by set.strategy set pods ≡ replacement_steps i (Some pod) = ap (λ s. update_steps_by s set pods) rolling ∙ (ap (rolling_update_steps pods) (last_due set partition pods i due) ∙ ap (replacement_steps i) here) in
      let P : List Step → Type 0 = λ l. Replaces i pod (pod_steps l) in
      subst P (sym whole) (replaces i pod);
  none_due = λ partition rolling none. ap (λ s. pod_steps (update_steps_by s set pods)) rolling ∙ ap (λ o. pod_steps (rolling_update_steps pods o)) (no_due set partition pods none);
  on_delete = λ e. ap (λ s. pod_steps (update_steps_by s set pods)) e;
}

pub scales_ordered_ready : (set : SetParts) (pods : Pods) → AreInOrder pods → ScalesOrderedReady set pods (pod_steps (ordered_ready_steps set pods))
scales_ordered_ready set pods sorted = record {
  gap = λ i gap.
      let P : List Step → Type 0 = λ l. ClosesGap set i (pod_at pods i) l in
      subst P (sym (at_gap set pods i gap)) (closes_gap set i (pod_at pods i));
  condemned = λ none i pod highest here.
      let whole : pod_steps (ordered_ready_steps set pods) ≡ pod_steps (scale_down_steps set pods (i, pod)) = past_gaps set pods none ∙ ap (λ o. pod_steps (scale_down_or_update_steps set pods o)) (found_highest set pods i pod sorted highest here) in
      let P : List Step → Type 0 = λ l. ScalesDown set pods i pod l in
      subst P (sym whole) (scales_down set pods i pod sorted);
  neither = λ none none_gone.
      let whole : pod_steps (ordered_ready_steps set pods) ≡ pod_steps (update_steps set pods) = past_gaps set pods none ∙ ap (λ o. pod_steps (scale_down_or_update_steps set pods o)) (no_condemned set pods sorted none_gone) in
      let P : List Step → Type 0 = λ l. Updates set pods l in
      subst P (sym whole) (updates set pods);
}
