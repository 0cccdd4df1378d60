-- A failed pod below another one, both out of range, stays for good under OrderedReady.
use Rattle.std.proofs.Common.{◌≡◌, ◌≢◌, ◌⊎◌, ◌==◌, ◌&&◌, ◌||◌, inl, inr, ℕ, zero, suc, ◌≤◌, Bool, true, false, not, cond, if◌then◌else◌, [], ◌∷◌, Option, Some, None, find, reverse, arith, refl, sym, ap, ◌∙◌, subst}
use Rattle.std.proofs.lemmas.Bool.{cases_lt}
use Rattle.std.proofs.lemmas.Map.Keys.{sorted_tail}
use Rattle.std.specs.BTreeMap.{is_at}
use Rattle.std.specs.List.{list_any}
use Rattle.std.specs.Map.{keys_of}
use Rattle.std.specs.Ordering.{nat_cmp}
use Rattle.set_views.specs.declared.policies.Policy.TheVariants.{OrderedReady}
use Rattle.set_views.specs.Set.{SetParts}
use Rattle.set_views.specs.Predicates.{in_range}
use Rattle.pod_steps.specs.declared.replica.Replica.{Replica}
use Rattle.pod_steps.specs.declared.step.Step.TheVariants.{DeletePod}
use Rattle.pod_steps.specs.Replicas.{AreInOrder, Pods, is_failed, is_healthy_replica, is_out_of_range, lacks_healthy, pod_at}
use Rattle.pod_steps.specs.Step.{pod_steps}
use Rattle.pod_steps.specs.FullSteps.{gap_steps, is_other_unhealthy, removal_steps_unless, scale_down_or_update_steps, scale_down_steps, wait_for}
use Rattle.pod_steps.proofs.Entries.{at_head, at_same, at_tail, none_passed}
use Rattle.pod_steps.proofs.OrderedReadyPlans.{inside, not_false}
use Rattle.pod_steps.proofs.Searches.{found_in, passes_in, entry_is_there, back_finds, highest_is}
use Rattle.pod_steps.proofs.Causes.{gap_of, highest_of, both_true, failed_is_unhealthy}
use Rattle.pod_steps.proofs.Same.{from_head}
use Rattle.convergence.specs.Rounds.{AreRounds, IsRound, creates, deletes, made_ready, tended}
use Rattle.convergence.specs.Standing.{Stands}
use Rattle.convergence.specs.Stopped.{IsLeftOver, IsStopped, IsUnstopped}
use Rattle.convergence.proofs.Falls.{apart_by_range, differs}
use Rattle.convergence.proofs.Kept.{made_nowhere, made_ready_fails, made_ready_keeps}
use Rattle.convergence.proofs.Moves.{at_gap, past_gaps, steps_on}

-- ---- nothing out of range is deleted
gap_deletes_none : (set : SetParts) (g j : ℕ) (here : Option Replica) → g ≢ j → list_any (deletes j) (pod_steps (gap_steps set g here)) ≡ false
gap_deletes_none set g j None apart = refl
gap_deletes_none set g j (Some pod) apart =
    elim (pod.terminating) as (λ t. list_any (deletes j) (pod_steps (if t then wait_for g pod ∷ [] else if is_failed pod.readiness then DeletePod g pod.uid ∷ [] else wait_for g pod ∷ [])) ≡ false) [
      | true ↦ refl
      | false ↦ elim (is_failed pod.readiness) as (λ f. list_any (deletes j) (pod_steps (if f then DeletePod g pod.uid ∷ [] else wait_for g pod ∷ [])) ≡ false) [
        | true ↦ ap (λ b. b || false) (differs g j apart)
        | false ↦ refl
      ]
    ]

true_three : (a b c : Bool) → a ≡ false → b ≡ false → c ≡ false → (not a && not b && not c) ≡ true
true_three a b c e f g = (λ k. not (e k) && not (f k) && not (g k))

held : (set : SetParts) (pods : Pods) (e : ℕ × Replica) → AreInOrder pods → (stopped : IsStopped set pods) → highest_of set pods ≡ Some e → find (is_other_unhealthy set e.0) pods ≡ None → ⊥
held set pods e sorted stopped found none =
    let low : stopped.high ≤ e.0 = highest_is (is_out_of_range set) pods e stopped.high stopped.other sorted found stopped.above.1 (ap not stopped.above.0) in
    let apart : stopped.low ≢ e.0 = λ s. absurd (omega (arith, low, stopped.is_above, s)) in
    let other : is_other_unhealthy set e.0 (stopped.low, stopped.pod) ≡ true =
    true_three (in_range set stopped.low) (stopped.low == e.0) (is_healthy_replica stopped.pod) stopped.left.0 (differs stopped.low e.0 apart) (failed_is_unhealthy stopped.pod.readiness stopped.pod.terminating stopped.failed) in
    let clash : false ≡ true = sym (none_passed (is_other_unhealthy set e.0) pods stopped.low stopped.pod none stopped.left.1) ∙ other in
    absurd (cc)

removal_deletes_none : (set : SetParts) (pods : Pods) (e : ℕ × Replica) (j : ℕ) → (find (is_other_unhealthy set e.0) pods ≡ None → ⊥) → list_any (deletes j) (pod_steps (scale_down_steps set pods e)) ≡ false
removal_deletes_none set pods e j some =
    elim (e.1.terminating) as (λ t. list_any (deletes j) (pod_steps (if t then wait_for e.0 e.1 ∷ [] else removal_steps_unless e (find (is_other_unhealthy set e.0) pods))) ≡ false) [
      | true ↦ refl
      | false ↦ elim (find (is_other_unhealthy set e.0) pods) as (λ o. find (is_other_unhealthy set e.0) pods ≡ o → list_any (deletes j) (pod_steps (removal_steps_unless e o)) ≡ false) [
        | Some other ↦ λ h. refl
        | None ↦ λ h. absurd (some h)
      ] refl
    ]

deletes_none : (set : SetParts) (pods : Pods) (j : ℕ) → AreInOrder pods → set.policy ≡ OrderedReady → IsStopped set pods → in_range set j ≡ false → list_any (deletes j) (steps_on set pods) ≡ false
deletes_none set pods j sorted policy stopped out =
    elim (gap_of set pods) as (λ g. gap_of set pods ≡ g → list_any (deletes j) (steps_on set pods) ≡ false) [
      | Some g ↦ λ gap.
          let at_g = found_in (lacks_healthy pods) set.start set.replicas g gap in
          ap (list_any (deletes j)) (at_gap set pods g policy gap) ∙ gap_deletes_none set g j (pod_at pods g) (apart_by_range set g j true (inside set g at_g.0 at_g.1) out)
      | None ↦ λ none.
          elim (highest_of set pods) as (λ o. highest_of set pods ≡ o → steps_on set pods ≡ pod_steps (scale_down_or_update_steps set pods o) → list_any (deletes j) (steps_on set pods) ≡ false) [
            | Some e ↦ λ found steps. ap (list_any (deletes j)) steps ∙ removal_deletes_none set pods e j (held set pods e sorted stopped found)
            | None ↦ λ empty steps. absurd (back_finds (is_out_of_range set) pods stopped.low stopped.pod stopped.left.1 (ap not stopped.left.0) empty)
          ] refl (past_gaps set pods policy none)
    ] refl

-- ---- so it stays
left_stays : (set : SetParts) (pods next : Pods) (i : ℕ) (pod : Replica) → AreInOrder pods → set.policy ≡ OrderedReady → IsStopped set pods → IsRound set pods next → IsLeftOver set pods i pod → IsLeftOver set next i (made_ready pod)
left_stays set pods next i pod sorted policy stopped round left = (
  left.0,
  round.is_next i
      ∙ (ap (λ d. if d then None else if list_any (creates i) (steps_on set pods) then Some (round.new i) else tended (pod_at pods i)) (deletes_none set pods i sorted policy stopped left.0)
      ∙ (ap (λ c. if c then Some (round.new i) else tended (pod_at pods i)) (made_nowhere set pods i sorted left.0)
      ∙ (ap tended left.1 ∙ ap (λ t. if t then None else Some (made_ready pod)) left.2))),
  made_ready_keeps pod ∙ left.2,
)

stays_stopped : (set : SetParts) (pods next : Pods) → AreInOrder pods → set.policy ≡ OrderedReady → IsStopped set pods → IsRound set pods next → IsStopped set next
stays_stopped set pods next sorted policy stopped round = record {
  low = stopped.low;
  pod = made_ready stopped.pod;
  left = left_stays set pods next stopped.low stopped.pod sorted policy stopped round stopped.left;
  failed = made_ready_fails stopped.pod ∙ stopped.failed;
  high = stopped.high;
  other = made_ready stopped.other;
  above = left_stays set pods next stopped.high stopped.other sorted policy stopped round stopped.above;
  is_above = stopped.is_above;
}

pub never_stands : (set : SetParts) (pods last : Pods) (k : ℕ) → AreInOrder pods → set.policy ≡ OrderedReady → IsStopped set pods → AreRounds set k pods last → ¬ Stands set last
never_stands set pods last zero sorted policy stopped same stands =
    let nobody : pod_at last stopped.low ≡ None = stands.alone stopped.low stopped.left.0 in
    let clash : None ≡ Some stopped.pod = sym nobody ∙ (ap (λ (x : Pods). pod_at x stopped.low) (sym same) ∙ stopped.left.1) in
    absurd (cc)
never_stands set pods last (suc k) sorted policy stopped rounds stands =
    never_stands set rounds.0 last k rounds.1.in_order policy (stays_stopped set pods rounds.0 sorted policy stopped rounds.1) rounds.2 stands

-- ---- either there are such pods, or there are none
abbrev is_left : SetParts → ℕ × Replica → Bool
is_left set e = not (in_range set e.0) && not e.1.terminating

abbrev is_failed_left : SetParts → ℕ × Replica → Bool
is_failed_left set e = is_failed e.1.readiness && (not (in_range set e.0) && not e.1.terminating)

first_is_there : (q : ℕ × Replica → Bool) (es : Pods) (e : ℕ × Replica) → AreInOrder es → find q es ≡ Some e → pod_at es e.0 ≡ Some e.1
first_is_there q [] e sorted found = absurd (cc)
first_is_there q (x ∷ es) e sorted found =
    elim (q x) as (λ b. cond b (Some x) (find q es) ≡ Some e → pod_at (x ∷ es) e.0 ≡ Some e.1) [
      | true ↦ λ h.
          let same : x ≡ e = cc in
          let P : ℕ × Replica → Type 0 = λ z. pod_at (x ∷ es) z.0 ≡ Some z.1 in
          subst P same (at_head x es)
      | false ↦ λ h. at_tail x es e.0 e.1 sorted (first_is_there q es e (sorted_tail nat_cmp x.0 (keys_of es) sorted) h)
    ] found

lowest_is : (q : ℕ × Replica → Bool) (es : Pods) (e : ℕ × Replica) (j : ℕ) (y : Replica) → AreInOrder es → find q es ≡ Some e → pod_at es j ≡ Some y → q (j, y) ≡ true → e.0 ≤ j
lowest_is q [] e j y sorted found here passes = absurd (cc)
lowest_is q (x ∷ es) e j y sorted found here passes =
    elim (q x) as (λ b. q x ≡ b → cond b (Some x) (find q es) ≡ Some e → e.0 ≤ j) [
      | true ↦ λ t h. let same : x ≡ e = cc in let keys : x.0 ≡ e.0 = ap (λ z. z.0) same in let low : x.0 ≤ j = from_head x es j y sorted here in omega arith
      | false ↦ λ t h. elim (is_at (nat_cmp j) x.0) as (λ b. is_at (nat_cmp j) x.0 ≡ b → cond b (Some x.1) (pod_at es j) ≡ Some y → e.0 ≤ j) [
        | true ↦ λ u m.
            let same : j ≡ x.0 = at_same j x.0 u in
            let it : y ≡ x.1 = cc in
            let clash : false ≡ true = sym t ∙ (sym (ap q (λ i. (same i, it i))) ∙ passes) in
            absurd (cc)
        | false ↦ λ u m. lowest_is q es e j y (sorted_tail nat_cmp x.0 (keys_of es) sorted) h m passes
      ] refl here
    ] refl found

both_false : (a b : Bool) → a ≡ false → b ≡ false → (not a && not b) ≡ true
both_false a b e f = (λ k. not (e k) && not (f k))

left_is : (set : SetParts) (pods : Pods) (e : ℕ × Replica) → pod_at pods e.0 ≡ Some e.1 → is_left set e ≡ true → IsLeftOver set pods e.0 e.1
left_is set pods e here h = let two = both_true (not (in_range set e.0)) (not e.1.terminating) h in (not_false (in_range set e.0) two.0, here, not_false e.1.terminating two.1)

pub stopped_or_not : (set : SetParts) (pods : Pods) → AreInOrder pods → IsStopped set pods ⊎ IsUnstopped set pods
stopped_or_not set pods sorted =
    elim (find (is_failed_left set) pods) as (λ o. find (is_failed_left set) pods ≡ o → IsStopped set pods ⊎ IsUnstopped set pods) [
      | None ↦ λ none. inr (λ i j pod other left failed right.
          let is : is_failed_left set (i, pod) ≡ true = (λ k. failed k && both_false (in_range set i) pod.terminating left.0 left.2 k) in
          let clash : false ≡ true = sym (none_passed (is_failed_left set) pods i pod none left.1) ∙ is in
          absurd (cc))
      | Some e ↦ λ found.
          elim (find (is_left set) (reverse pods)) as (λ o. find (is_left set) (reverse pods) ≡ o → IsStopped set pods ⊎ IsUnstopped set pods) [
            | None ↦ λ none. inr (λ i j pod other left failed right. absurd (back_finds (is_left set) pods j other right.1 (both_false (in_range set j) other.terminating right.0 right.2) none))
            | Some h ↦ λ top. elim (cases_lt e.0 h.0) [
              | inl up ↦
                  let two = both_true (is_failed e.1.readiness) (is_left set e) (passes_in (is_failed_left set) pods e found) in
                  inl (record {
                    low = e.0;
                    pod = e.1;
                    left = left_is set pods e (first_is_there (is_failed_left set) pods e sorted found) two.1;
                    failed = two.0;
                    high = h.0;
                    other = h.1;
                    above = left_is set pods h (entry_is_there (is_left set) pods h sorted top) (passes_in (is_left set) (reverse pods) h top);
                    is_above = up;
                  })
              | inr low ↦ inr (λ i j pod other left failed right.
                  let is : is_failed_left set (i, pod) ≡ true = (λ k. failed k && both_false (in_range set i) pod.terminating left.0 left.2 k) in
                  let first : e.0 ≤ i = lowest_is (is_failed_left set) pods e i pod sorted found left.1 is in
                  let last : j ≤ h.0 = highest_is (is_left set) pods h j other sorted top right.1 (both_false (in_range set j) other.terminating right.0 right.2) in
                  omega arith)
            ]
          ] refl
    ] refl
