-- Under Parallel a round leaves at least one round less.
use Rattle.std.proofs.Common.{◌≡◌, ◌&&◌, ◌||◌, inl, inr, ℕ, ◌-◌, ◌≤◌, ◌<◌, Bool, true, false, not, if◌then◌else◌, List, [], ◌∷◌, Option, Some, None, reverse, arith, refl, sym, ap, ◌∙◌, subst}
use Rattle.std.proofs.lemmas.Bool.{eq-eqb, eqb-true}
use Rattle.std.proofs.lemmas.List.Elements.{Contains-append_cases}
use Rattle.std.specs.List.{Contains, list_any}
use Rattle.std.specs.List.Sorted.{IsStrictlySortedBy}
use Rattle.std.specs.Option.{option_map_or}
use Rattle.set_views.specs.declared.policies.Policy.{Policy}
use Rattle.set_views.specs.declared.policies.Policy.TheVariants.{Parallel}
use Rattle.set_views.specs.Set.{SetParts}
use Rattle.set_views.specs.Predicates.{in_range, is_ready}
use Rattle.pod_steps.specs.declared.replica.Replica.{Replica}
use Rattle.pod_steps.specs.declared.step.Step.{Step}
use Rattle.pod_steps.specs.declared.step.Step.TheVariants.{MakeClaims, KeepClaims, ReleaseClaims, CreatePod, DeletePod, Wait}
use Rattle.pod_steps.specs.Replicas.{AreInOrder, Pods, has_healthy_pod, is_failed, is_healthy_replica, is_out_of_range, lacks_healthy, ordinals, pod_at}
use Rattle.pod_steps.specs.Scaling.{CallsForScaling, IsAbsent, IsDismissed, ScalesParallel}
use Rattle.pod_steps.specs.Step.{pod_steps}
use Rattle.pod_steps.specs.FullSteps.{full_steps_by, parallel_steps, revision_at, update_steps, update_steps_by}
use Rattle.pod_steps.proofs.OrderedReadyPlans.{bounds, inside, not_false}
use Rattle.pod_steps.proofs.ParallelPlans.{alone, nowhere, scales_parallel, uncalled_updates, some_of}
use Rattle.pod_steps.proofs.Searches.{found_in, passes_in, entry_is_there}
use Rattle.pod_steps.proofs.Causes.{gap_of, highest_of}
use Rattle.convergence.specs.Left.{condemned, rounds_at, rounds_left}
use Rattle.convergence.specs.Rounds.{IsRound, after_round, creates, deletes, tended}
use Rattle.convergence.specs.Standing.{AreTended, IsTended}
use Rattle.convergence.proofs.Counts.{count_one, count_same}
use Rattle.convergence.proofs.Falls.{by_move, first_true, new_is_done, ready_is_not_failed, stay_tended}
use Rattle.convergence.proofs.Kept.{made_nowhere, next_is_no_more}
use Rattle.convergence.proofs.Moves.{all_healthy, none_beyond, steps_on, update}
use Rattle.convergence.proofs.Sums.{sum_below, sum_under}

-- ---- steps that a test finds
pub has_step : (p : Step → Bool) (xs : List Step) (a : Step) → Contains xs a → p a ≡ true → list_any p xs ≡ true
has_step p [] a h t = absurd (nowhere a h)
has_step p (x ∷ xs) a h t =
    elim (Contains-append_cases (x ∷ []) xs a h) [
      | inl k ↦ ap (λ b. b || list_any p xs) (ap p (alone x a k) ∙ t)
      | inr k ↦ elim (p x) as (λ b. (b || list_any p xs) ≡ true) [ true ↦ refl | false ↦ has_step p xs a k t ]
    ]

pub is_delete : (i : ℕ) (a : Step) → deletes i a ≡ true → (uid : ℕ) × (a ≡ DeletePod i uid)
is_delete i (DeletePod j uid) h = (uid, ap (λ (n : ℕ). DeletePod n uid) (eqb-true j i h))
is_delete i (MakeClaims j) h = absurd (cc)
is_delete i (KeepClaims j) h = absurd (cc)
is_delete i (ReleaseClaims j uid) h = absurd (cc)
is_delete i (CreatePod j revision) h = absurd (cc)
is_delete i (Wait j cause) h = absurd (cc)

pub parallel_is : (set : SetParts) (pods : Pods) → set.policy ≡ Parallel → steps_on set pods ≡ pod_steps (parallel_steps set pods)
parallel_is set pods policy = ap (λ (p : Policy). pod_steps (full_steps_by p set pods)) policy

scales : (set : SetParts) (pods : Pods) → AreInOrder pods → set.policy ≡ Parallel → ScalesParallel set pods (steps_on set pods)
scales set pods sorted policy = let P : List Step → Type 0 = λ l. ScalesParallel set pods l in subst P (sym (parallel_is set pods policy)) (scales_parallel set pods sorted)

-- ---- where scaling does something
dismissed_where_deleted : (set : SetParts) (pods : Pods) (i : ℕ) → AreInOrder pods → set.policy ≡ Parallel → CallsForScaling set pods → list_any (deletes i) (steps_on set pods) ≡ true → (pod : Replica) × IsDismissed set pods i pod
dismissed_where_deleted set pods i sorted policy calls h =
    let one = some_of (deletes i) (steps_on set pods) h in
    let what = is_delete i one.0 one.2 in
    let P : Step → Type 0 = λ a. Contains (steps_on set pods) a in
    let gone = ((scales set pods sorted policy).deletes calls i what.0).0 (subst P what.1 one.1) in
    (gone.0, gone.1)

pub deleted_where_dismissed : (set : SetParts) (pods : Pods) (i : ℕ) (pod : Replica) → AreInOrder pods → set.policy ≡ Parallel → CallsForScaling set pods → IsDismissed set pods i pod → list_any (deletes i) (steps_on set pods) ≡ true
deleted_where_dismissed set pods i pod sorted policy calls gone =
    has_step (deletes i) (steps_on set pods) (DeletePod i pod.uid) (((scales set pods sorted policy).deletes calls i pod.uid).1 (pod, gone, refl)) (eq-eqb i i refl)

pub created_where_absent : (set : SetParts) (pods : Pods) (i : ℕ) → AreInOrder pods → set.policy ≡ Parallel → IsAbsent set pods i → list_any (creates i) (steps_on set pods) ≡ true
created_where_absent set pods i sorted policy absent =
    has_step (creates i) (steps_on set pods) (CreatePod i (revision_at set.strategy i)) (((scales set pods sorted policy).creates i (revision_at set.strategy i)).1 (absent, refl)) (eq-eqb i i refl)

failed_is_two : (set : SetParts) (i : ℕ) (pod : Replica) → is_failed pod.readiness ≡ true → rounds_at set i (Some pod) ≡ 2
failed_is_two set i pod failed = grind arith

no_more_at : (set : SetParts) (pods next : Pods) (i : ℕ) → AreInOrder pods → set.policy ≡ Parallel → AreTended pods → IsRound set pods next → CallsForScaling set pods → in_range set i ≡ true
    → rounds_at set i (pod_at next i) ≤ rounds_at set i (pod_at pods i)
no_more_at set pods next i sorted policy are round calls within =
    let P : Option Replica → Type 0 = λ o. rounds_at set i o ≤ rounds_at set i (pod_at pods i) in
    subst P (sym (round.is_next i)) (elim (list_any (deletes i) (steps_on set pods)) as (λ d. list_any (deletes i) (steps_on set pods) ≡ d
    → rounds_at set i (if d then None else if list_any (creates i) (steps_on set pods) then Some (round.new i) else tended (pod_at pods i)) ≤ rounds_at set i (pod_at pods i)) [
      | true ↦ λ h.
          let gone = dismissed_where_deleted set pods i sorted policy calls h in
          let two : rounds_at set i (pod_at pods i) ≡ 2 = ap (rounds_at set i) gone.1.here ∙ failed_is_two set i gone.0 (gone.1.failed within) in
          omega (arith, two)
      | false ↦ λ h. elim (list_any (creates i) (steps_on set pods)) as (λ c. rounds_at set i (if c then Some (round.new i) else tended (pod_at pods i)) ≤ rounds_at set i (pod_at pods i)) [
        | true ↦ let none = new_is_done set i (round.new i) (round.are_new i) in omega (arith, none)
        | false ↦ let same : rounds_at set i (tended (pod_at pods i)) ≡ rounds_at set i (pod_at pods i) = ap (rounds_at set i) (stay_tended pods are i) in omega (arith, same)
      ]
    ] refl)

-- at a gap it is less
less_where_absent : (set : SetParts) (pods next : Pods) (i : ℕ) → AreInOrder pods → set.policy ≡ Parallel → IsRound set pods next → CallsForScaling set pods → IsAbsent set pods i
    → rounds_at set i (pod_at next i) < rounds_at set i (pod_at pods i)
less_where_absent set pods next i sorted policy round calls absent =
    let P : Option Replica → Type 0 = λ o. rounds_at set i o < rounds_at set i (pod_at pods i) in
    let one : rounds_at set i (pod_at pods i) ≡ 1 = ap (rounds_at set i) absent.1 in
    let made = created_where_absent set pods i sorted policy absent in
    subst P (sym (round.is_next i)) (elim (list_any (deletes i) (steps_on set pods)) as (λ d. list_any (deletes i) (steps_on set pods) ≡ d
    → rounds_at set i (if d then None else if list_any (creates i) (steps_on set pods) then Some (round.new i) else tended (pod_at pods i)) < rounds_at set i (pod_at pods i)) [
      | true ↦ λ h.
          let gone = dismissed_where_deleted set pods i sorted policy calls h in
          let clash : None ≡ Some gone.0 = sym absent.1 ∙ gone.1.here in
          absurd (cc)
      | false ↦ λ h.
          let none : rounds_at set i (if list_any (creates i) (steps_on set pods) then Some (round.new i) else tended (pod_at pods i)) ≡ 0 =
          ap (λ c. rounds_at set i (if c then Some (round.new i) else tended (pod_at pods i))) made ∙ new_is_done set i (round.new i) (round.are_new i) in
          omega (arith, none, one)
    ] refl)

less_where_failed : (set : SetParts) (pods next : Pods) (i : ℕ) (pod : Replica) → AreInOrder pods → set.policy ≡ Parallel → IsRound set pods next → CallsForScaling set pods → in_range set i ≡ true → IsDismissed set pods i pod
    → rounds_at set i (pod_at next i) < rounds_at set i (pod_at pods i)
less_where_failed set pods next i pod sorted policy round calls within gone =
    let two : rounds_at set i (pod_at pods i) ≡ 2 = ap (rounds_at set i) gone.here ∙ failed_is_two set i pod (gone.failed within) in
    let one : rounds_at set i (pod_at next i) ≡ 1 = ap (rounds_at set i) (round.is_next i) ∙ ap (λ d. rounds_at set i (if d then None else if list_any (creates i) (steps_on set pods) then Some (round.new i) else tended (pod_at pods i))) (deleted_where_dismissed set pods i pod sorted policy calls gone) in
    omega (arith, two, one)

-- ---- a round
abbrev IsNearer : SetParts → Pods → Pods → Type 0
IsNearer set pods next = rounds_left set next ≤ rounds_left set pods - 1

by_gap : (set : SetParts) (pods next : Pods) (i : ℕ) → AreInOrder pods → set.policy ≡ Parallel → AreTended pods → IsRound set pods next → CallsForScaling set pods → in_range set i ≡ true
    → rounds_at set i (pod_at next i) < rounds_at set i (pod_at pods i) → IsNearer set pods next
by_gap set pods next i sorted policy are round calls within less =
    let at_i = bounds set i within in
    let under = sum_under (λ j. rounds_at set j (pod_at pods j)) (λ j. rounds_at set j (pod_at next j)) set.start set.replicas i at_i.0 at_i.1 less (λ j from to. no_more_at set pods next j sorted policy are round calls (inside set j from to)) in
    let fewer = next_is_no_more set pods next sorted round in
    omega (arith, under, fewer)

pub failed_at_gap : (pod : Replica) → IsTended pod → is_healthy_replica pod ≡ false → is_failed pod.readiness ≡ true
failed_at_gap pod is gap =
    elim (is_failed pod.readiness) as (λ f. is_failed pod.readiness ≡ f → f ≡ true) [
      | true ↦ λ h. refl
      | false ↦ λ h.
          let ready : is_ready pod.readiness ≡ true = is.ready h in
          let stays : pod.terminating ≡ false = is.staying in
          let healthy : is_healthy_replica pod ≡ true = (λ k. ready k && not (stays k)) in
          absurd (cc)
    ] refl

at_gap : (set : SetParts) (pods next : Pods) (i : ℕ) (here : Option Replica) → pod_at pods i ≡ here → AreInOrder pods → set.policy ≡ Parallel → AreTended pods → IsRound set pods next → in_range set i ≡ true
    → option_map_or is_healthy_replica here false ≡ false → IsNearer set pods next
at_gap set pods next i None at sorted policy are round within gap =
    let calls : CallsForScaling set pods = inl (i, (within, at)) in
    by_gap set pods next i sorted policy are round calls within (less_where_absent set pods next i sorted policy round calls (within, at))
at_gap set pods next i (Some pod) at sorted policy are round within gap =
    let is : IsTended pod = are i pod at in
    let failed : is_failed pod.readiness ≡ true = failed_at_gap pod is gap in
    let gone : IsDismissed set pods i pod = record { here = at; staying = is.staying; failed = λ _. failed } in
    let calls : CallsForScaling set pods = inr (i, (pod, gone)) in
    by_gap set pods next i sorted policy are round calls within (less_where_failed set pods next i pod sorted policy round calls within gone)

pub healthy_after_all : (pod : Replica) → is_failed pod.readiness ≡ true → is_healthy_replica pod ≡ true → ⊥
healthy_after_all pod failed healthy =
    let ready : is_ready pod.readiness ≡ true = first_true (is_ready pod.readiness) (not pod.terminating) healthy in
    let not_failed : is_failed pod.readiness ≡ false = ready_is_not_failed pod.readiness ready in
    absurd (cc)

none_condemned : (set : SetParts) (next : Pods) → AreInOrder next → ((j : ℕ) → in_range set j ≡ false → pod_at next j ≡ None) → condemned set next ≡ 0
unfolding IsStrictlySortedBy
none_condemned set next sorted gone = count_same (λ j. not (in_range set j)) next [] sorted tt (λ j out. gone j (not_false (in_range set j) out))

-- all condemned pods go at once
all_go : (set : SetParts) (pods next : Pods) → AreInOrder pods → set.policy ≡ Parallel → AreTended pods → IsRound set pods next → CallsForScaling set pods → (j : ℕ) → in_range set j ≡ false → pod_at next j ≡ None
all_go set pods next sorted policy are round calls j out =
    round.is_next j
    ∙ elim (pod_at pods j) as (λ o. pod_at pods j ≡ o → after_round (steps_on set pods) j (round.new j) o ≡ None) [
      | Some pod ↦ λ h.
          let gone : IsDismissed set pods j pod = record { here = h; staying = (are j pod h).staying; failed = λ within. absurd (cc) } in
          ap (λ d. if d then None else if list_any (creates j) (steps_on set pods) then Some (round.new j) else tended (Some pod)) (deleted_where_dismissed set pods j pod sorted policy calls gone)
      | None ↦ λ h. elim (list_any (deletes j) (steps_on set pods)) as (λ d. (if d then None else if list_any (creates j) (steps_on set pods) then Some (round.new j) else None) ≡ None) [
        | true ↦ refl
        | false ↦ ap (λ c. if c then Some (round.new j) else None) (made_nowhere set pods j sorted out)
      ]
    ] refl

by_condemned : (set : SetParts) (pods next : Pods) (i : ℕ) (pod : Replica) → AreInOrder pods → set.policy ≡ Parallel → AreTended pods → IsRound set pods next → in_range set i ≡ false → pod_at pods i ≡ Some pod → IsNearer set pods next
by_condemned set pods next i pod sorted policy are round out here =
    let gone : IsDismissed set pods i pod = record { here = here; staying = (are i pod here).staying; failed = λ within. absurd (cc) } in
    let calls : CallsForScaling set pods = inr (i, (pod, gone)) in
    let below = sum_below (λ j. rounds_at set j (pod_at pods j)) (λ j. rounds_at set j (pod_at next j)) set.start set.replicas (λ j from to. no_more_at set pods next j sorted policy are round calls (inside set j from to)) in
    let some = count_one (λ j. not (in_range set j)) pods i pod sorted (ap not out) here in
    let none : condemned set next ≡ 0 = none_condemned set next round.in_order (all_go set pods next sorted policy are round calls) in
    omega (arith, below, some, none)

pub uncalled : (set : SetParts) (pods : Pods) → gap_of set pods ≡ None → highest_of set pods ≡ None → ¬ CallsForScaling set pods
uncalled set pods none empty (inl (i, absent)) =
    let healthy = all_healthy set pods none i absent.0 in
    let clash : false ≡ true = sym (ap (λ o. option_map_or is_healthy_replica o false) absent.1) ∙ healthy in
    absurd (cc)
uncalled set pods none empty (inr (i, (pod, gone))) =
    elim (in_range set i) as (λ b. in_range set i ≡ b → ⊥) [
      | true ↦ λ within.
          let healthy : is_healthy_replica pod ≡ true = sym (ap (λ o. option_map_or is_healthy_replica o false) gone.here) ∙ all_healthy set pods none i within in
          let failed : is_failed pod.readiness ≡ true = gone.failed within in
          healthy_after_all pod failed healthy
      | false ↦ λ out. let nobody : pod_at pods i ≡ None = none_beyond set pods empty i out in let clash : None ≡ Some pod = sym nobody ∙ gone.here in absurd (cc)
    ] refl

pub comes_nearer : (set : SetParts) (pods next : Pods) → AreInOrder pods → set.policy ≡ Parallel → AreTended pods → IsRound set pods next → rounds_left set next ≤ rounds_left set pods - 1
unfolding update_steps
comes_nearer set pods next sorted policy are round =
    elim (gap_of set pods) as (λ g. gap_of set pods ≡ g → IsNearer set pods next) [
      | Some i ↦ λ gap.
          let at_i = found_in (lacks_healthy pods) set.start set.replicas i gap in
          at_gap set pods next i (pod_at pods i) refl sorted policy are round (inside set i at_i.0 at_i.1) (not_false (has_healthy_pod pods i) (passes_in (lacks_healthy pods) (ordinals set) i gap))
      | None ↦ λ none.
          elim (highest_of set pods) as (λ o. highest_of set pods ≡ o → IsNearer set pods next) [
            | Some e ↦ λ found.
                by_condemned set pods next e.0 e.1 sorted policy are round (not_false (in_range set e.0) (passes_in (is_out_of_range set) (reverse pods) e found)) (entry_is_there (is_out_of_range set) pods e sorted found)
            | None ↦ λ empty.
                let steps : steps_on set pods ≡ pod_steps (update_steps_by set.strategy set pods) = parallel_is set pods policy ∙ uncalled_updates set pods sorted (uncalled set pods none empty) in
                let exact = by_move set pods next sorted are round (update set pods set.strategy refl none empty steps) in
                omega (arith, exact)
          ] refl
    ] refl
