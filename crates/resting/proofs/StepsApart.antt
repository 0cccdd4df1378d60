-- No two steps of a plan are about the pod of one ordinal, and no two about its claims.
use Rattle.std.proofs.Common.{◌≡◌, ◌≢◌, ◌⊎◌, inl, inr, ℕ, ◌-◌, ◌+◌, ◌≤◌, ◌<◌, Bool, true, false, not, cond, if◌then◌else◌, List, [], ◌∷◌, ◌++◌, find, reverse, Option, Some, None, arith, refl, sym, ap, ◌∙◌, subst, true≢false}
use Rattle.std.specs.Prelude.{◌&&◌, ◌||◌}
use Rattle.std.specs.List.{AllByRecursion, flat_map, list_any, range_with_len}
use Rattle.std.specs.Map.{keys_of}
use Rattle.std.specs.Ordering.{nat_cmp}
use Rattle.std.proofs.lemmas.Map.Keys.{sorted_tail}
use Rattle.requests.specs.Lists.{Has as Among}
use Rattle.sets.proofs.Ordered.{all_among}
use Rattle.controllers.proofs.PlannedActions.{among_all}
use Rattle.set_views.specs.declared.policies.Policy.{Policy}
use Rattle.set_views.specs.declared.policies.Policy.TheVariants.{OrderedReady, Parallel}
use Rattle.set_views.specs.declared.policies.Strategy.{Strategy}
use Rattle.set_views.specs.declared.policies.Strategy.TheVariants.{OnDelete, RollingUpdate}
use Rattle.set_views.specs.Set.{SetParts}
use Rattle.set_views.specs.Predicates.{in_range, is_ready}
use Rattle.pod_steps.specs.declared.replica.Replica.{Replica}
use Rattle.pod_steps.specs.declared.step.Step.{Step}
use Rattle.pod_steps.specs.declared.step.Step.TheVariants.{CreatePod, DeletePod, KeepClaims, MakeClaims, ReleaseClaims, Wait}
use Rattle.pod_steps.specs.FullSteps.{all_target_steps, condemned_steps, full_steps, full_steps_by, gap_steps, is_other_unhealthy, keep_steps, ordered_ready_steps_at, parallel_scaling_steps, parallel_steps, removal_steps, removal_steps_unless, replacement_steps, revision_at, rolling_update_steps, scale_down_or_update_steps, scale_down_steps, target_steps, update_steps, update_steps_by, wait_for}
use Rattle.pod_steps.specs.Replicas.{AreInOrder, Pods, is_due, is_failed, is_out_of_range, lacks_healthy, ordinals, pod_at}
use Rattle.pod_steps.specs.Step.{is_of_pod}
use Rattle.pod_steps.proofs.Entries.{at_head, at_tail}
use Rattle.pod_steps.proofs.OrderedReadyPlans.{inside, not_false}
use Rattle.pod_steps.proofs.Same.{head_is_once}
use Rattle.pod_steps.proofs.Searches.{found_in, found_in_back, passes_in}
use Rattle.resting.proofs.Pairs.{ArePaired, in_flat, in_range_list, in_reverse, pairs_append, pairs_flat, pairs_reversed, range_paired}
use Rattle.resting.proofs.PlanLists.{all_append, all_flat}

-- ---- two steps
abbrev pub ordinal_of : Step → ℕ
ordinal_of (MakeClaims i) = i
ordinal_of (KeepClaims i) = i
ordinal_of (ReleaseClaims i uid) = i
ordinal_of (CreatePod i revision) = i
ordinal_of (DeletePod i uid) = i
ordinal_of (Wait i cause) = i

-- they are about two ordinals, or one is about claims and the other about a pod
abbrev pub AreApart : Step → Step → Type 0
AreApart a b = (ordinal_of a ≢ ordinal_of b) ⊎ (is_of_pod a ≢ is_of_pod b)

-- ---- pods
pub found_among : {X : Type 0} (q : X → Bool) (xs : List X) (x : X) → find q xs ≡ Some x → Among x xs
found_among q [] x e = absurd (cc)
found_among q (y ∷ ys) x e =
    elim (q y) as (λ b. cond b (Some y) (find q ys) ≡ Some x → Among x (y ∷ ys)) [
      | true ↦ λ h. let same : x ≡ y = cc in inl same
      | false ↦ λ h. inr (found_among q ys x h)
    ] e

entry_at : (es : Pods) (e : ℕ × Replica) → AreInOrder es → Among e es → pod_at es e.0 ≡ Some e.1
entry_at [] e sorted at = absurd at
entry_at (f ∷ es) e sorted (inl is) = (λ j. pod_at (f ∷ es) (is j).0) ∙ (at_head f es ∙ (λ j. Some (sym is j).1))
entry_at (f ∷ es) e sorted (inr more) = at_tail f es e.0 e.1 sorted (entry_at es e (sorted_tail nat_cmp f.0 (keys_of es) sorted) more)

abbrev Differ : ℕ × Replica → ℕ × Replica → Type 0
Differ e f = e.0 ≢ f.0

turned : (e f : ℕ × Replica) → Differ e f → Differ f e
turned e f other same = other (sym same)

pods_paired : (es : Pods) → AreInOrder es → ArePaired Differ es
pods_paired [] sorted = tt
pods_paired (e ∷ es) sorted =
    let tail : AreInOrder es = sorted_tail nat_cmp e.0 (keys_of es) sorted in (
      all_among (Differ e) es (λ f at same.
          let clash : None ≡ Some f.1 = sym (head_is_once e es sorted) ∙ (ap (pod_at es) same ∙ entry_at es f tail at) in
          absurd (cc)),
      pods_paired es tail,
    )

pub none_passes : {X : Type 0} (p : X → Bool) (xs : List X) (x : X) → list_any p xs ≡ false → Among x xs → p x ≡ false
none_passes p [] x none at = absurd at
none_passes p (y ∷ ys) x none at =
    elim (p y) as (λ b. p y ≡ b → (b || list_any p ys) ≡ false → p x ≡ false) [
      | true ↦ λ e h. absurd (true≢false h)
      | false ↦ λ e h. elim at [
        | inl is ↦ ap p is ∙ e
        | inr more ↦ none_passes p ys x h more
      ]
    ] refl none

-- the ordinal is in range, or has one of the pods
abbrev pub IsKnown : SetParts → Pods → ℕ → Type 0
IsKnown set pods i = (in_range set i ≡ true) ⊎ ((y : Replica) × (pod_at pods i ≡ Some y))

module _ (set : SetParts) (pods : Pods) (sorted : AreInOrder pods) where
  -- the steps are at that ordinal, each about another thing
  abbrev AreAt : ℕ → List Step → Type 0
  AreAt i steps = AllByRecursion (λ a. ordinal_of a ≡ i) steps × ArePaired AreApart steps

  abbrev AreKnown : List Step → Type 0
  AreKnown = AllByRecursion (λ a. IsKnown set pods (ordinal_of a))

  claims_and_pod : false ≢ true
  claims_and_pod same = true≢false (sym same)

  none_at : (i : ℕ) → AreAt i []
  none_at i = (tt, tt)

  one_at : (i : ℕ) (a : Step) → ordinal_of a ≡ i → AreAt i (a ∷ [])
  one_at i a is = ((is, tt), (tt, tt))

  two_at : (i : ℕ) (a b : Step) → ordinal_of a ≡ i → ordinal_of b ≡ i → is_of_pod a ≢ is_of_pod b → AreAt i (a ∷ b ∷ [])
  two_at i a b is_a is_b other = ((is_a, (is_b, tt)), ((inr other, tt), (tt, tt)))

  at_two : (i j : ℕ) (xs ys : List Step) → AreAt i xs → AreAt j ys → i ≢ j → (a b : Step) → Among a xs → Among b ys → AreApart a b
  at_two i j xs ys at_xs at_ys other a b at_a at_b =
      inl (λ same. other (sym (among_all (λ x. ordinal_of x ≡ i) xs a at_xs.0 at_a) ∙ (same ∙ among_all (λ x. ordinal_of x ≡ j) ys b at_ys.0 at_b)))

  known_at : (i : ℕ) (steps : List Step) → AreAt i steps → IsKnown set pods i → AreKnown steps
  known_at i steps are known =
      all_among (λ a. IsKnown set pods (ordinal_of a)) steps (λ a at. subst (IsKnown set pods) (sym (among_all (λ x. ordinal_of x ≡ i) steps a are.0 at)) known)

  -- ---- at an ordinal
  kept : (i : ℕ) → AreAt i (keep_steps i)
  kept i = one_at i (KeepClaims i) refl

  gap : (i : ℕ) (here : Option Replica) → AreAt i (gap_steps set i here)
  gap i None = two_at i (MakeClaims i) (CreatePod i (revision_at set.strategy i)) refl refl claims_and_pod
  gap i (Some pod) =
      elim (pod.terminating) as (λ b. AreAt i (if b then wait_for i pod ∷ [] else if is_failed pod.readiness then DeletePod i pod.uid ∷ [] else wait_for i pod ∷ [])) [
        | true ↦ one_at i (wait_for i pod) refl
        | false ↦ elim (is_failed pod.readiness) as (λ b. AreAt i (if b then DeletePod i pod.uid ∷ [] else wait_for i pod ∷ [])) [
          | true ↦ one_at i (DeletePod i pod.uid) refl
          | false ↦ one_at i (wait_for i pod) refl
        ]
      ]

  replacement : (i : ℕ) (here : Option Replica) → AreAt i (replacement_steps i here)
  replacement i None = none_at i
  replacement i (Some pod) =
      elim (not pod.updated && not pod.terminating) as (λ b. AreAt i (if b then DeletePod i pod.uid ∷ [] else wait_for i pod ∷ [])) [
        | true ↦ one_at i (DeletePod i pod.uid) refl
        | false ↦ one_at i (wait_for i pod) refl
      ]

  target : (i : ℕ) (here : Option Replica) → AreAt i (target_steps set i here)
  target i None = two_at i (MakeClaims i) (CreatePod i (revision_at set.strategy i)) refl refl claims_and_pod
  target i (Some pod) =
      elim (pod.terminating) as (λ b. AreAt i (if b then [] else if is_failed pod.readiness then DeletePod i pod.uid ∷ [] else if is_ready pod.readiness then keep_steps i else [])) [
        | true ↦ none_at i
        | false ↦ elim (is_failed pod.readiness) as (λ b. AreAt i (if b then DeletePod i pod.uid ∷ [] else if is_ready pod.readiness then keep_steps i else [])) [
          | true ↦ one_at i (DeletePod i pod.uid) refl
          | false ↦ elim (is_ready pod.readiness) as (λ b. AreAt i (if b then keep_steps i else [])) [ true ↦ kept i | false ↦ none_at i ]
        ]
      ]

  removal : (e : ℕ × Replica) → AreAt e.0 (removal_steps e.0 e.1)
  removal e = two_at e.0 (ReleaseClaims e.0 e.1.uid) (DeletePod e.0 e.1.uid) refl refl claims_and_pod

  condemned : (e : ℕ × Replica) → AreAt e.0 (condemned_steps set e)
  condemned e = elim (in_range set e.0 || e.1.terminating) as (λ b. AreAt e.0 (if b then [] else removal_steps e.0 e.1)) [ true ↦ none_at e.0 | false ↦ removal e ]

  -- ---- a walk over ordinals
  walked : (f : ℕ → List Step) (a n : ℕ) → ((i : ℕ) → AreAt i (f i)) → ArePaired AreApart (flat_map f (range_with_len a n))
  walked f a n each =
      pairs_flat (λ (i j : ℕ). i ≢ j) AreApart f (range_with_len a n) (λ i at. (each i).1) (λ i j at_i at_j other. at_two i j (f i) (f j) (each i) (each j) other) (range_paired a n)

  walk_known : (f : ℕ → List Step) (a n : ℕ) → ((i : ℕ) → AreAt i (f i)) → set.start ≤ a → a + n ≤ set.start + set.replicas → AreKnown (flat_map f (range_with_len a n))
  walk_known f a n each from to =
      all_flat (λ x. IsKnown set pods (ordinal_of x)) f (range_with_len a n)
      (all_among (λ i. AreKnown (f i)) (range_with_len a n) (λ i at.
      let r = in_range_list a n i at in
      known_at i (f i) (each i) (inl (inside set i (omega (arith, r.0)) (omega (arith, r.1))))))

  -- ---- the update
  updated : (strategy : Strategy) → ArePaired AreApart (update_steps_by strategy set pods) × AreKnown (update_steps_by strategy set pods) × AllByRecursion (λ a. is_of_pod a ≡ true) (update_steps_by strategy set pods)
  updated OnDelete = (tt, tt, tt)
  updated (RollingUpdate partition) =
      elim (find (is_due partition pods) (reverse (ordinals set))) as (λ due. find (is_due partition pods) (reverse (ordinals set)) ≡ due
      → ArePaired AreApart (rolling_update_steps pods due) × AreKnown (rolling_update_steps pods due) × AllByRecursion (λ a. is_of_pod a ≡ true) (rolling_update_steps pods due)) [
        | None ↦ λ e. (tt, tt, tt)
        | Some i ↦ λ e.
            let r = found_in_back (is_due partition pods) set.start set.replicas i e in
            ((replacement i (pod_at pods i)).1, known_at i (replacement_steps i (pod_at pods i)) (replacement i (pod_at pods i)) (inl (inside set i r.0 r.1)), on_pods i (pod_at pods i))
      ] refl
    where
      on_pods : (i : ℕ) (here : Option Replica) → AllByRecursion (λ a. is_of_pod a ≡ true) (replacement_steps i here)
      on_pods i None = tt
      on_pods i (Some pod) =
          elim (not pod.updated && not pod.terminating) as (λ b. AllByRecursion (λ a. is_of_pod a ≡ true) (if b then DeletePod i pod.uid ∷ [] else wait_for i pod ∷ [])) [
            | true ↦ (refl, tt)
            | false ↦ (refl, tt)
          ]

  update : ArePaired AreApart (update_steps set pods) × AreKnown (update_steps set pods) × AllByRecursion (λ a. is_of_pod a ≡ true) (update_steps set pods)
  unfolding update_steps
  update = updated set.strategy

  -- ---- the scale-down, behind the claims of the pods in range
  abbrev IsBehind : Step → Type 0
  IsBehind a = (is_of_pod a ≡ true) ⊎ (in_range set (ordinal_of a) ≡ false)

  abbrev AreBehind : List Step → Type 0
  AreBehind steps = ArePaired AreApart steps × AreKnown steps × AllByRecursion IsBehind steps

  waits : (e : ℕ × Replica) → pod_at pods e.0 ≡ Some e.1 → AreBehind (wait_for e.0 e.1 ∷ [])
  waits e here = ((tt, tt), (inr (e.1, here), tt), (inl refl, tt))

  removes : (e : ℕ × Replica) → pod_at pods e.0 ≡ Some e.1 → in_range set e.0 ≡ false → AreBehind (removal_steps e.0 e.1)
  removes e here out = ((removal e).1, known_at e.0 (removal_steps e.0 e.1) (removal e) (inr (e.1, here)), (inr out, (inl refl, tt)))

  scaled_down : (highest : ℕ × Replica) → pod_at pods highest.0 ≡ Some highest.1 → in_range set highest.0 ≡ false → AreBehind (scale_down_steps set pods highest)
  scaled_down highest here out =
      elim (highest.1.terminating) as (λ b. AreBehind (if b then wait_for highest.0 highest.1 ∷ [] else removal_steps_unless highest (find (is_other_unhealthy set highest.0) pods))) [
        | true ↦ waits highest here
        | false ↦ elim (find (is_other_unhealthy set highest.0) pods) as (λ other. find (is_other_unhealthy set highest.0) pods ≡ other → AreBehind (removal_steps_unless highest other)) [
          | None ↦ λ e. removes highest here out
          | Some other ↦ λ e. waits other (entry_at pods other sorted (found_among (is_other_unhealthy set highest.0) pods other e))
        ] refl
      ]

  down_or_update : AreBehind (scale_down_or_update_steps set pods (find (is_out_of_range set) (reverse pods)))
  down_or_update =
      elim (find (is_out_of_range set) (reverse pods)) as (λ highest. find (is_out_of_range set) (reverse pods) ≡ highest → AreBehind (scale_down_or_update_steps set pods highest)) [
        | None ↦ λ e. (update.0, update.1, all_by_one (update_steps set pods) update.2)
        | Some highest ↦ λ e.
            scaled_down highest (entry_at pods highest sorted (in_reverse pods highest (found_among (is_out_of_range set) (reverse pods) highest e)))
            (not_false (in_range set highest.0) (passes_in (is_out_of_range set) (reverse pods) highest e))
      ] refl
    where
      all_by_one : (steps : List Step) → AllByRecursion (λ a. is_of_pod a ≡ true) steps → AllByRecursion IsBehind steps
      all_by_one [] all = tt
      all_by_one (a ∷ steps) all = (inl all.0, all_by_one steps all.1)

  -- ---- OrderedReady
  abbrev AreFine : List Step → Type 0
  AreFine steps = ArePaired AreApart steps × AreKnown steps

  -- what is kept is the claims of an ordinal
  in_kept : (a n : ℕ) (x : Step) → Among x (flat_map keep_steps (range_with_len a n)) → (i : ℕ) × (x ≡ KeepClaims i) × (a ≤ i) × (i < a + n)
  in_kept a n x at =
      let m = in_flat keep_steps (range_with_len a n) x at in
      let r = in_range_list a n m.0 m.1 in
      elim (m.2) [ inl is ↦ (m.0, is, r.0, r.1) | inr none ↦ absurd none ]

  in_turn : (least : Option ℕ) → find (lacks_healthy pods) (ordinals set) ≡ least → AreFine (ordered_ready_steps_at set pods least)
  in_turn (Some i) e =
      let r = found_in (lacks_healthy pods) set.start set.replicas i e in
      let before = flat_map keep_steps (range_with_len set.start (i - set.start)) in
      let here = gap i (pod_at pods i) in
      let apart : (a b : Step) → Among a before → Among b (gap_steps set i (pod_at pods i)) → AreApart a b = λ a b at_a at_b.
      let k = in_kept set.start (i - set.start) a at_a in
      let first : ordinal_of a ≡ k.0 = ap ordinal_of k.1 in
      let second : ordinal_of b ≡ i = among_all (λ x. ordinal_of x ≡ i) (gap_steps set i (pod_at pods i)) b here.0 at_b in
      inl (λ same. let numbers : k.0 ≡ i = sym first ∙ (same ∙ second) in absurd (omega (arith, k.2, k.3, numbers))) in (
        pairs_append AreApart before (gap_steps set i (pod_at pods i)) (walked keep_steps set.start (i - set.start) kept) here.1 apart,
        all_append (λ x. IsKnown set pods (ordinal_of x)) before (gap_steps set i (pod_at pods i)) (walk_known keep_steps set.start (i - set.start) kept (omega arith) (omega (arith, r.0, r.1)))
            (known_at i (gap_steps set i (pod_at pods i)) here (inl (inside set i r.0 r.1))),
      )
  in_turn None e =
      let before = flat_map keep_steps (ordinals set) in
      let behind = scale_down_or_update_steps set pods (find (is_out_of_range set) (reverse pods)) in
      let rest = down_or_update in
      let apart : (a b : Step) → Among a before → Among b behind → AreApart a b = λ a b at_a at_b.
      let k = in_kept set.start set.replicas a at_a in
      elim (among_all IsBehind behind b rest.2 at_b) [
        | inl of_pod ↦ inr (λ same. true≢false (sym of_pod ∙ (sym same ∙ ap is_of_pod k.1)))
        | inr out ↦ inl (λ same. true≢false (sym (inside set k.0 k.2 k.3) ∙ (ap (in_range set) (sym (ap ordinal_of k.1) ∙ same) ∙ out)))
      ] in (
        pairs_append AreApart before behind (walked keep_steps set.start set.replicas kept) rest.0 apart,
        all_append (λ x. IsKnown set pods (ordinal_of x)) before behind (walk_known keep_steps set.start set.replicas kept (omega arith) (omega arith)) rest.1,
      )

  -- ---- Parallel
  targets : AreFine (all_target_steps set pods)
  targets = (
    walked (λ i. target_steps set i (pod_at pods i)) set.start set.replicas (λ i. target i (pod_at pods i)),
    walk_known (λ i. target_steps set i (pod_at pods i)) set.start set.replicas (λ i. target i (pod_at pods i)) (omega arith) (omega arith),
  )

  all_condemned : AreFine (flat_map (condemned_steps set) (reverse pods))
  all_condemned = (
    pairs_flat Differ AreApart (condemned_steps set) (reverse pods) (λ e at. (condemned e).1)
        (λ e f at_e at_f other. at_two e.0 f.0 (condemned_steps set e) (condemned_steps set f) (condemned e) (condemned f) other)
        (pairs_reversed Differ turned pods (pods_paired pods sorted)),
    all_flat (λ x. IsKnown set pods (ordinal_of x)) (condemned_steps set) (reverse pods)
        (all_among (λ e. AreKnown (condemned_steps set e)) (reverse pods) (λ e at. known_at e.0 (condemned_steps set e) (condemned e) (inr (e.1, entry_at pods e sorted (in_reverse pods e at))))),
  )

  in_condemned : (e : ℕ × Replica) (b : Step) → Among b (condemned_steps set e) → in_range set (ordinal_of b) ≡ false
  in_condemned e b at =
      elim (in_range set e.0) as (λ within. in_range set e.0 ≡ within → Among b (if within || e.1.terminating then [] else removal_steps e.0 e.1) → in_range set (ordinal_of b) ≡ false) [
        | true ↦ λ h here. absurd here
        | false ↦ λ h here. elim (e.1.terminating) as (λ gone. Among b (if gone then [] else removal_steps e.0 e.1) → in_range set (ordinal_of b) ≡ false) [
          | true ↦ λ none. absurd none
          | false ↦ λ one. ap (in_range set) (among_all (λ x. ordinal_of x ≡ e.0) (removal_steps e.0 e.1) b (removal e).0 one) ∙ h
        ] here
      ] refl at

  scaled : AreFine (parallel_scaling_steps set pods)
  unfolding parallel_scaling_steps
  scaled =
      let gone = flat_map (condemned_steps set) (reverse pods) in
      let apart : (a b : Step) → Among a (all_target_steps set pods) → Among b gone → AreApart a b = λ a b at_a at_b.
      let m = in_flat (λ i. target_steps set i (pod_at pods i)) (ordinals set) a at_a in
      let r = in_range_list set.start set.replicas m.0 m.1 in
      let n = in_flat (condemned_steps set) (reverse pods) b at_b in
      let first : ordinal_of a ≡ m.0 = among_all (λ x. ordinal_of x ≡ m.0) (target_steps set m.0 (pod_at pods m.0)) a (target m.0 (pod_at pods m.0)).0 m.2 in
      inl (λ same. true≢false (sym (inside set m.0 r.0 r.1) ∙ (ap (in_range set) (sym first ∙ same) ∙ in_condemned n.0 b n.2))) in (
        pairs_append AreApart (all_target_steps set pods) gone targets.0 all_condemned.0 apart,
        all_append (λ x. IsKnown set pods (ordinal_of x)) (all_target_steps set pods) gone targets.1 all_condemned.1,
      )

  at_once : AreFine (parallel_steps set pods)
  at_once =
      let first = parallel_scaling_steps set pods in
      elim (list_any is_of_pod first) as (λ b. list_any is_of_pod first ≡ b → AreFine (first ++ (if b then [] else update_steps set pods))) [
        | true ↦ λ e. (
          pairs_append AreApart first [] scaled.0 tt (λ a b at_a at_b. absurd at_b),
          all_append (λ x. IsKnown set pods (ordinal_of x)) first [] scaled.1 tt,
        )
        | false ↦ λ e. (
          pairs_append AreApart first (update_steps set pods) scaled.0 update.0 (λ a b at_a at_b.
              inr (λ same. true≢false (sym (among_all (λ x. is_of_pod x ≡ true) (update_steps set pods) b update.2 at_b) ∙ (sym same ∙ none_passes is_of_pod first a e at_a)))),
          all_append (λ x. IsKnown set pods (ordinal_of x)) first (update_steps set pods) scaled.1 update.1,
        )
      ] refl

  by_policy : (policy : Policy) → AreFine (full_steps_by policy set pods)
  by_policy OrderedReady = in_turn (find (lacks_healthy pods) (ordinals set)) refl
  by_policy Parallel = at_once

  pub steps_apart : ArePaired AreApart (full_steps set pods)
  steps_apart = (by_policy set.policy).0

  pub steps_known : AllByRecursion (λ a. IsKnown set pods (ordinal_of a)) (full_steps set pods)
  steps_known = (by_policy set.policy).1
