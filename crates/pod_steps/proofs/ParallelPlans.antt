-- A plan of Parallel meets the rules of scaling and updates.
use Rattle.std.proofs.Common.{◌≡◌, ◌≢◌, ◌==◌, ◌⊎◌, inl, inr, ◌||◌, ℕ, zero, suc, ◌+◌, ◌≤◌, ◌<◌, Bool, true, false, not, cond, if◌then◌else◌, List, [], ◌∷◌, ◌++◌, Option, Some, None, ◌&&◌, filter, find, reverse, arith, refl, sym, ap, ◌∙◌, subst}
use Rattle.std.proofs.lemmas.Bool.{eqb-true, eq-eqb}
use Rattle.std.proofs.lemmas.List.{reverse-append}
use Rattle.std.proofs.lemmas.List.Concat.{flat_map-append}
use Rattle.std.proofs.lemmas.List.Elements.{Contains-append_cases, Contains-append_left, Contains-append_right, filter-append}
use Rattle.std.proofs.lemmas.Map.Keys.{sorted_tail}
use Rattle.std.specs.BTreeMap.{is_at}
use Rattle.std.specs.List.{Contains, flat_map, list_any, range_with_len}
use Rattle.std.specs.Map.{keys_of}
use Rattle.std.specs.Ordering.{nat_cmp}
use Rattle.set_views.specs.declared.policies.Strategy.TheVariants.{RollingUpdate, OnDelete}
use Rattle.set_views.specs.Set.{SetParts}
use Rattle.set_views.specs.Predicates.{in_range, is_ready}
use Rattle.pod_steps.specs.declared.replica.Replica.{Replica}
use Rattle.pod_steps.specs.declared.step.Cause.{Cause}
use Rattle.pod_steps.specs.declared.step.Revision.{Revision}
use Rattle.pod_steps.specs.declared.step.Step.{Step}
use Rattle.pod_steps.specs.declared.step.Step.TheVariants.{MakeClaims, KeepClaims, ReleaseClaims, CreatePod, DeletePod, Wait}
use Rattle.pod_steps.specs.Replicas.{AreInOrder, Pods, is_due, is_failed, ordinals, pod_at}
use Rattle.pod_steps.specs.Scaling.{CallsForScaling, IsAbsent, IsDismissed, ScalesParallel}
use Rattle.pod_steps.specs.Step.{is_of_pod, pod_steps}
use Rattle.pod_steps.specs.Update.{Updates}
use Rattle.pod_steps.specs.FullSteps.{all_target_steps, parallel_steps, target_steps, keep_steps, condemned_steps, removal_steps, replacement_steps, revision_at, rolling_update_steps, parallel_scaling_steps, update_steps, update_steps_by, wait_for}
use Rattle.pod_steps.proofs.Entries.{at_head, at_same, at_tail, not_true}
use Rattle.pod_steps.proofs.OrderedReadyPlans.{bounds, inside, updates}

-- ---- membership
pub nowhere : {X : Type 0} (a : X) → Contains [] a → ⊥
nowhere a h = absurd (omega (arith, h.1))

pub alone : {X : Type 0} (x a : X) → Contains (x ∷ []) a → x ≡ a
alone x a (zero, l, e) = e
alone x a (suc k, l, e) = absurd (omega (arith, l))

pub single : {X : Type 0} (x a : X) → x ≡ a → Contains (x ∷ []) a
single x a e = (0, omega arith, e)

any_of : {X : Type 0} (p : X → Bool) (xs : List X) (a : X) → Contains xs a → p a ≡ true → list_any p xs ≡ true
any_of p [] a h t = absurd (nowhere a h)
any_of p (x ∷ xs) a h t =
    elim (Contains-append_cases (x ∷ []) xs a h) [
      | inl k ↦ ap (λ b. b || list_any p xs) (ap p (alone x a k) ∙ t)
      | inr k ↦ elim (p x) as (λ b. (b || list_any p xs) ≡ true) [ true ↦ refl | false ↦ any_of p xs a k t ]
    ]

pub some_of : {X : Type 0} (p : X → Bool) (xs : List X) → list_any p xs ≡ true → (a : X) × Contains xs a × (p a ≡ true)
some_of p [] t = absurd (cc)
some_of p (x ∷ xs) t =
    elim (p x) as (λ b. p x ≡ b → (b || list_any p xs) ≡ true → (a : _) × Contains (x ∷ xs) a × (p a ≡ true)) [
      | true ↦ λ e h. (x, Contains-append_left (x ∷ []) xs x (single x x refl), e)
      | false ↦ λ e h. let r = some_of p xs h in (r.0, Contains-append_right (x ∷ []) xs r.0 r.1, r.2)
    ] refl t

none_of : {X : Type 0} (p : X → Bool) (xs : List X) → list_any p xs ≡ false → filter p xs ≡ []
none_of p [] t = refl
none_of p (x ∷ xs) t =
    elim (p x) as (λ b. (b || list_any p xs) ≡ false → cond b (x ∷ filter p xs) (filter p xs) ≡ []) [
      | true ↦ λ h. absurd (cc)
      | false ↦ λ h. none_of p xs h
    ] t

-- ---- what is among the steps on pods
pub was_there : {X : Type 0} (p : X → Bool) (xs : List X) (a : X) → Contains (filter p xs) a → Contains xs a × (p a ≡ true)
was_there p [] a h = absurd (nowhere a h)
was_there p (x ∷ xs) a h =
    elim (p x) as (λ b. p x ≡ b → Contains (cond b (x ∷ filter p xs) (filter p xs)) a → Contains (x ∷ xs) a × (p a ≡ true)) [
      | true ↦ λ t k. elim (Contains-append_cases (x ∷ []) (filter p xs) a k) [
        | inl m ↦ (Contains-append_left (x ∷ []) xs a m, ap p (sym (alone x a m)) ∙ t)
        | inr m ↦ let r = was_there p xs a m in (Contains-append_right (x ∷ []) xs a r.0, r.1)
      ]
      | false ↦ λ t k. let r = was_there p xs a k in (Contains-append_right (x ∷ []) xs a r.0, r.1)
    ] refl h

pub stays_there : {X : Type 0} (p : X → Bool) (xs : List X) (a : X) → Contains xs a → p a ≡ true → Contains (filter p xs) a
stays_there p [] a h t = absurd (nowhere a h)
stays_there p (x ∷ xs) a h t =
    elim (Contains-append_cases (x ∷ []) xs a h) [
      | inl m ↦
          let passes : p x ≡ true = ap p (alone x a m) ∙ t in
          let P : Bool → Type 0 = λ b. Contains (cond b (x ∷ filter p xs) (filter p xs)) a in
          subst P (sym passes) (Contains-append_left (x ∷ []) (filter p xs) a m)
      | inr m ↦ elim (p x) as (λ b. Contains (cond b (x ∷ filter p xs) (filter p xs)) a) [
        | true ↦ Contains-append_right (x ∷ []) (filter p xs) a (stays_there p xs a m t)
        | false ↦ stays_there p xs a m t
      ]
    ]

-- ---- what is in a walk over a range is at one of its ordinals
pub in_walk : (f : ℕ → List Step) (s n : ℕ) (a : Step) → Contains (flat_map f (range_with_len s n)) a → (j : ℕ) × (s ≤ j) × (j < s + n) × Contains (f j) a
in_walk f s zero a h = absurd (nowhere a h)
in_walk f s (suc n) a h =
    elim (Contains-append_cases (f s) (flat_map f (range_with_len (s + 1) n)) a h) [
      | inl k ↦ (s, omega arith, omega arith, k)
      | inr k ↦ let r = in_walk f (s + 1) n a k in (r.0, omega (arith, r.1), omega (arith, r.2), r.3)
    ]

to_walk : (f : ℕ → List Step) (s n j : ℕ) (a : Step) → s ≤ j → j < s + n → Contains (f j) a → Contains (flat_map f (range_with_len s n)) a
to_walk f s zero j a from to h = absurd (omega arith)
to_walk f s (suc n) j a from to h =
    elim (s == j) as (λ b. s == j ≡ b → Contains (f s ++ flat_map f (range_with_len (s + 1) n)) a) [
      | true ↦ λ e.
          let same : j ≡ s = sym (eqb-true s j e) in
          let P : ℕ → Type 0 = λ i. Contains (f i) a in
          Contains-append_left (f s) (flat_map f (range_with_len (s + 1) n)) a (subst P same h)
      | false ↦ λ e.
          let apart : s ≢ j = λ same. (let t : s == j ≡ true = eq-eqb s j same in absurd (cc)) in
          Contains-append_right (f s) (flat_map f (range_with_len (s + 1) n)) a (to_walk f (s + 1) n j a (omega arith) (omega arith) h)
    ] refl

-- ---- and in one over the pods from the highest down, at one of them
down : (f : ℕ × Replica → List Step) (e : ℕ × Replica) (es : Pods) → flat_map f (reverse (e ∷ es)) ≡ flat_map f (reverse es) ++ (f e ++ [])
down f e es = ap (flat_map f) (reverse-append (e ∷ []) es) ∙ flat_map-append f (reverse es) (e ∷ [])

in_pods : (f : ℕ × Replica → List Step) (es : Pods) (a : Step) → AreInOrder es → Contains (flat_map f (reverse es)) a → (j : ℕ) × ((y : Replica) × (pod_at es j ≡ Some y) × Contains (f (j, y)) a)
in_pods f [] a sorted h = absurd (nowhere a h)
in_pods f (e ∷ es) a sorted h =
    let P : List Step → Type 0 = λ l. Contains l a in
    elim (Contains-append_cases (flat_map f (reverse es)) (f e ++ []) a (subst P (down f e es) h)) [
      | inl k ↦ let r = in_pods f es a (sorted_tail nat_cmp e.0 (keys_of es) sorted) k in (r.0, (r.1.0, at_tail e es r.0 r.1.0 sorted r.1.1, r.1.2))
      | inr k ↦ elim (Contains-append_cases (f e) [] a k) [ inl m ↦ (e.0, (e.1, at_head e es, m)) | inr m ↦ absurd (nowhere a m) ]
    ]

to_pods : (f : ℕ × Replica → List Step) (es : Pods) (j : ℕ) (y : Replica) (a : Step) → pod_at es j ≡ Some y → Contains (f (j, y)) a → Contains (flat_map f (reverse es)) a
to_pods f [] j y a here h = absurd (cc)
to_pods f (e ∷ es) j y a here h =
    let P : List Step → Type 0 = λ l. Contains l a in
    subst P (sym (down f e es))
    (elim (is_at (nat_cmp j) e.0) as (λ b. is_at (nat_cmp j) e.0 ≡ b → cond b (Some e.1) (pod_at es j) ≡ Some y → Contains (flat_map f (reverse es) ++ (f e ++ [])) a) [
      | true ↦ λ t k.
          let same : j ≡ e.0 = at_same j e.0 t in
          let it : y ≡ e.1 = cc in
          let Q : ℕ × Replica → Type 0 = λ p. Contains (f p) a in
          let is_e : ◌≡◌ {A = ℕ × Replica} (j, y) e = λ i. (same i, it i) in
          Contains-append_right (flat_map f (reverse es)) (f e ++ []) a (Contains-append_left (f e) [] a (subst Q is_e h))
      | false ↦ λ t k. Contains-append_left (flat_map f (reverse es)) (f e ++ []) a (to_pods f es j y a k h)
    ] refl here)

-- ---- steps on claims are none on pods
pub no_claims : (x a : Step) → is_of_pod x ≡ false → is_of_pod a ≡ true → Contains (x ∷ []) a → ⊥
no_claims x a f t h = let e : is_of_pod a ≡ false = ap is_of_pod (sym (alone x a h)) ∙ f in absurd (cc)

pub second : (x y a : Step) → is_of_pod x ≡ false → is_of_pod a ≡ true → Contains (x ∷ y ∷ []) a → y ≡ a
second x y a f t h = elim (Contains-append_cases (x ∷ []) (y ∷ []) a h) [ inl k ↦ absurd (no_claims x a f t k) | inr k ↦ alone y a k ]

second_is : (x y a : Step) → y ≡ a → Contains (x ∷ y ∷ []) a
second_is x y a e = Contains-append_right (x ∷ []) (y ∷ []) a (single y a e)

-- ---- the steps on pods that scaling calls for
abbrev IsCalledFor : SetParts → Pods → Step → Type 0
IsCalledFor set pods a = ((i : ℕ) × IsAbsent set pods i × (CreatePod i (revision_at set.strategy i) ≡ a)) ⊎ ((i : ℕ) × ((pod : Replica) × IsDismissed set pods i pod × (DeletePod i pod.uid ≡ a)))

target_pod : (i uid : ℕ) (a : Step) (terminating failed ready : Bool) → is_of_pod a ≡ true → Contains (if terminating then [] else if failed then DeletePod i uid ∷ [] else if ready then keep_steps i else []) a → (terminating ≡ false) × (failed ≡ true) × (DeletePod i uid ≡ a)
target_pod i uid a true failed ready t h = absurd (nowhere a h)
target_pod i uid a false true ready t h = (refl, refl, alone (DeletePod i uid) a h)
target_pod i uid a false false true t h = absurd (no_claims (KeepClaims i) a refl t h)
target_pod i uid a false false false t h = absurd (nowhere a h)

from_target_steps : (set : SetParts) (pods : Pods) (i : ℕ) (a : Step) (here : Option Replica) → pod_at pods i ≡ here → in_range set i ≡ true → is_of_pod a ≡ true → Contains (target_steps set i here) a → IsCalledFor set pods a
from_target_steps set pods i a None e r t h = inl (i, (r, e), second (MakeClaims i) (CreatePod i (revision_at set.strategy i)) a refl t h)
from_target_steps set pods i a (Some pod) e r t h =
    let k = target_pod i pod.uid a pod.terminating (is_failed pod.readiness) (is_ready pod.readiness) t h in
    inr (i, (pod, record { here = e; staying = k.0; failed = λ _. k.1 }, k.2))

from_condemned_steps : (set : SetParts) (pods : Pods) (i : ℕ) (pod : Replica) (a : Step) → pod_at pods i ≡ Some pod → is_of_pod a ≡ true → Contains (condemned_steps set (i, pod)) a → IsCalledFor set pods a
from_condemned_steps set pods i pod a e t h =
    elim (in_range set i) as (λ b. in_range set i ≡ b → Contains (if b || pod.terminating then [] else removal_steps i pod) a → IsCalledFor set pods a) [
      | true ↦ λ r k. absurd (nowhere a k)
      | false ↦ λ r k.
          elim (pod.terminating) as (λ b. pod.terminating ≡ b → Contains (if b then [] else removal_steps i pod) a → IsCalledFor set pods a) [
            | true ↦ λ s m. absurd (nowhere a m)
            | false ↦ λ s m. inr (i, (pod, record { here = e; staying = s; failed = λ q. absurd (cc) }, second (ReleaseClaims i pod.uid) (DeletePod i pod.uid) a refl t m))
          ] refl k
    ] refl h

pub from_scaled : (set : SetParts) (pods : Pods) (a : Step) → AreInOrder pods → is_of_pod a ≡ true → Contains (parallel_scaling_steps set pods) a → IsCalledFor set pods a
unfolding parallel_scaling_steps
from_scaled set pods a sorted t h =
    elim (Contains-append_cases (all_target_steps set pods) (flat_map (condemned_steps set) (reverse pods)) a h) [
      | inl k ↦ let r = in_walk (λ i. target_steps set i (pod_at pods i)) set.start set.replicas a k in from_target_steps set pods r.0 a (pod_at pods r.0) refl (inside set r.0 r.1 r.2) t r.3
      | inr k ↦ let r = in_pods (condemned_steps set) pods a sorted k in from_condemned_steps set pods r.0 r.1.0 a r.1.1 t r.1.2
    ]

in_target_steps : (set : SetParts) (pods : Pods) (i : ℕ) (a : Step) → in_range set i ≡ true → Contains (target_steps set i (pod_at pods i)) a → Contains (parallel_scaling_steps set pods) a
unfolding parallel_scaling_steps
in_target_steps set pods i a r h =
    let at_i = bounds set i r in
    Contains-append_left (all_target_steps set pods) (flat_map (condemned_steps set) (reverse pods)) a (to_walk (λ j. target_steps set j (pod_at pods j)) set.start set.replicas i a at_i.0 at_i.1 h)

in_condemned_steps : (set : SetParts) (pods : Pods) (i : ℕ) (pod : Replica) (a : Step) → pod_at pods i ≡ Some pod → Contains (condemned_steps set (i, pod)) a → Contains (parallel_scaling_steps set pods) a
unfolding parallel_scaling_steps
in_condemned_steps set pods i pod a e h = Contains-append_right (all_target_steps set pods) (flat_map (condemned_steps set) (reverse pods)) a (to_pods (condemned_steps set) pods i pod a e h)

absent_made : (set : SetParts) (pods : Pods) (i : ℕ) → IsAbsent set pods i → Contains (parallel_scaling_steps set pods) (CreatePod i (revision_at set.strategy i))
absent_made set pods i absent =
    let new : Step = CreatePod i (revision_at set.strategy i) in
    let P : Option Replica → Type 0 = λ o. Contains (target_steps set i o) new in
    in_target_steps set pods i new absent.0 (subst P (sym absent.1) (second_is (MakeClaims i) new new refl))

dismissed_goes : (set : SetParts) (pods : Pods) (i : ℕ) (pod : Replica) → IsDismissed set pods i pod → Contains (parallel_scaling_steps set pods) (DeletePod i pod.uid)
dismissed_goes set pods i pod gone =
    elim (in_range set i) as (λ b. in_range set i ≡ b → Contains (parallel_scaling_steps set pods) (DeletePod i pod.uid)) [
      | true ↦ λ r.
          let P : Option Replica → Type 0 = λ o. Contains (target_steps set i o) (DeletePod i pod.uid) in
          let Q : Bool → Bool → Type 0 = λ t f. Contains (if t then [] else if f then DeletePod i pod.uid ∷ [] else if is_ready pod.readiness then keep_steps i else []) (DeletePod i pod.uid) in
          let one : Q false true = single (DeletePod i pod.uid) (DeletePod i pod.uid) refl in
          let two : Q false (is_failed pod.readiness) = subst (λ (f : Bool). Q false f) (sym (gone.failed r)) one in
          in_target_steps set pods i (DeletePod i pod.uid) r (subst P (sym gone.here) (subst (λ (t : Bool). Q t (is_failed pod.readiness)) (sym gone.staying) two))
      | false ↦ λ r.
          let Q : Bool → Bool → Type 0 = λ b t. Contains (if b || t then [] else removal_steps i pod) (DeletePod i pod.uid) in
          let one : Q false false = second_is (ReleaseClaims i pod.uid) (DeletePod i pod.uid) (DeletePod i pod.uid) refl in
          let two : Q false pod.terminating = subst (λ (t : Bool). Q false t) (sym gone.staying) one in
          in_condemned_steps set pods i pod (DeletePod i pod.uid) gone.here (subst (λ (b : Bool). Q b pod.terminating) (sym r) two)
    ] refl

-- ---- the update creates no pod
no_create : (i k : ℕ) (revision : Revision) (here : Option Replica) → Contains (replacement_steps i here) (CreatePod k revision) → ⊥
no_create i k revision None h = nowhere (CreatePod k revision) h
no_create i k revision (Some pod) h =
    elim (not pod.updated && not pod.terminating) as (λ b. Contains (if b then DeletePod i pod.uid ∷ [] else wait_for i pod ∷ []) (CreatePod k revision) → ⊥) [
      | true ↦ λ m. let e : DeletePod i pod.uid ≡ CreatePod k revision = alone (DeletePod i pod.uid) (CreatePod k revision) m in absurd (cc)
      | false ↦ λ m. let e : wait_for i pod ≡ CreatePod k revision = alone (wait_for i pod) (CreatePod k revision) m in absurd (cc)
    ] h

pub update_creates_none : (set : SetParts) (pods : Pods) (k : ℕ) (revision : Revision) → Contains (update_steps set pods) (CreatePod k revision) → ⊥
unfolding update_steps
update_creates_none set pods k revision h =
    elim (set.strategy) as (λ s. Contains (update_steps_by s set pods) (CreatePod k revision) → ⊥) [
      | RollingUpdate partition ↦ λ m.
          elim (find (is_due partition pods) (reverse (ordinals set))) as (λ o. Contains (rolling_update_steps pods o) (CreatePod k revision) → ⊥) [
            | None ↦ λ n. nowhere (CreatePod k revision) n
            | Some i ↦ λ n. no_create i k revision (pod_at pods i) n
          ] m
      | OnDelete ↦ λ m. nowhere (CreatePod k revision) m
    ] h

-- ---- both parts, and the update
abbrev pub rest : SetParts → Pods → Bool → List Step
rest set pods touched = if touched then [] else update_steps set pods

called_is_touched : (set : SetParts) (pods : Pods) → CallsForScaling set pods → list_any is_of_pod (parallel_scaling_steps set pods) ≡ true
called_is_touched set pods (inl (i, absent)) = any_of is_of_pod (parallel_scaling_steps set pods) (CreatePod i (revision_at set.strategy i)) (absent_made set pods i absent) refl
called_is_touched set pods (inr (i, (pod, gone))) = any_of is_of_pod (parallel_scaling_steps set pods) (DeletePod i pod.uid) (dismissed_goes set pods i pod gone) refl

uncalled_is_untouched : (set : SetParts) (pods : Pods) → AreInOrder pods → ¬ CallsForScaling set pods → list_any is_of_pod (parallel_scaling_steps set pods) ≡ false
uncalled_is_untouched set pods sorted none =
    not_true (list_any is_of_pod (parallel_scaling_steps set pods)) (λ t.
    let r = some_of is_of_pod (parallel_scaling_steps set pods) t in
    elim (from_scaled set pods r.0 sorted r.2 r.1) [
      | inl h ↦ none (inl (h.0, h.1))
      | inr h ↦ none (inr (h.0, (h.1.0, h.1.1)))
    ])

-- if scaling calls for nothing, the plan is the update
pub uncalled_updates : (set : SetParts) (pods : Pods) → AreInOrder pods → ¬ CallsForScaling set pods → pod_steps (parallel_steps set pods) ≡ pod_steps (update_steps set pods)
uncalled_updates set pods sorted none =
    let t = uncalled_is_untouched set pods sorted none in
    ap (λ b. pod_steps (parallel_scaling_steps set pods ++ rest set pods b)) t
    ∙ (filter-append is_of_pod (parallel_scaling_steps set pods) (update_steps set pods) ∙ ap (λ l. l ++ pod_steps (update_steps set pods)) (none_of is_of_pod (parallel_scaling_steps set pods) t))

pub creates_exactly : (set : SetParts) (pods : Pods) (i : ℕ) (revision : Revision) → AreInOrder pods → Contains (parallel_steps set pods) (CreatePod i revision) → IsAbsent set pods i × (revision_at set.strategy i ≡ revision)
creates_exactly set pods i revision sorted h =
    elim (Contains-append_cases (parallel_scaling_steps set pods) (rest set pods (list_any is_of_pod (parallel_scaling_steps set pods))) (CreatePod i revision) h) [
      | inl k ↦ elim (from_scaled set pods (CreatePod i revision) sorted refl k) [
        | inl m ↦
            let e : CreatePod m.0 (revision_at set.strategy m.0) ≡ CreatePod i revision = m.2 in
            let same : m.0 ≡ i = cc in
            let by : revision_at set.strategy m.0 ≡ revision = cc in
            let P : ℕ → Type 0 = λ j. IsAbsent set pods j in
            (subst P same m.1, ap (revision_at set.strategy) (sym same) ∙ by)
        | inr m ↦ let e : DeletePod m.0 m.1.0.uid ≡ CreatePod i revision = m.1.2 in absurd (cc)
      ]
      | inr k ↦ elim (list_any is_of_pod (parallel_scaling_steps set pods)) as (λ b. Contains (rest set pods b) (CreatePod i revision) → IsAbsent set pods i × (revision_at set.strategy i ≡ revision)) [
        | true ↦ λ m. absurd (nowhere (CreatePod i revision) m)
        | false ↦ λ m. absurd (update_creates_none set pods i revision m)
      ] k
    ]

-- if scaling calls for anything, the plan is what it calls for
only_scaled : (set : SetParts) (pods : Pods) → CallsForScaling set pods → (a : Step) → Contains (parallel_steps set pods) a → Contains (parallel_scaling_steps set pods) a
only_scaled set pods calls a h =
    let P : Bool → Type 0 = λ b. Contains (parallel_scaling_steps set pods ++ rest set pods b) a in
    elim (Contains-append_cases (parallel_scaling_steps set pods) [] a (subst P (called_is_touched set pods calls) h)) [ inl k ↦ k | inr k ↦ absurd (nowhere a k) ]

deletes_exactly : (set : SetParts) (pods : Pods) (i uid : ℕ) → AreInOrder pods → CallsForScaling set pods → Contains (parallel_steps set pods) (DeletePod i uid) → (pod : Replica) × IsDismissed set pods i pod × (pod.uid ≡ uid)
deletes_exactly set pods i uid sorted calls h =
    elim (from_scaled set pods (DeletePod i uid) sorted refl (only_scaled set pods calls (DeletePod i uid) h)) [
      | inl m ↦ let e : CreatePod m.0 (revision_at set.strategy m.0) ≡ DeletePod i uid = m.2 in absurd (cc)
      | inr m ↦
          let e : DeletePod m.0 m.1.0.uid ≡ DeletePod i uid = m.1.2 in
          let at_i : m.0 ≡ i = cc in
          let uids : m.1.0.uid ≡ uid = cc in
          let Q : ℕ → Type 0 = λ j. IsDismissed set pods j m.1.0 in
          (m.1.0, subst Q at_i m.1.1, uids)
    ]

waits_for_none : (set : SetParts) (pods : Pods) (i : ℕ) (cause : Cause) → AreInOrder pods → CallsForScaling set pods → Contains (parallel_steps set pods) (Wait i cause) → ⊥
waits_for_none set pods i cause sorted calls h =
    elim (from_scaled set pods (Wait i cause) sorted refl (only_scaled set pods calls (Wait i cause) h)) [
      | inl m ↦ let e : CreatePod m.0 (revision_at set.strategy m.0) ≡ Wait i cause = m.2 in absurd (cc)
      | inr m ↦ let e : DeletePod m.0 m.1.0.uid ≡ Wait i cause = m.1.2 in absurd (cc)
    ]

scaled_stays : (set : SetParts) (pods : Pods) (a : Step) → is_of_pod a ≡ true → Contains (parallel_scaling_steps set pods) a → Contains (pod_steps (parallel_steps set pods)) a
scaled_stays set pods a t h =
    stays_there is_of_pod (parallel_steps set pods) a (Contains-append_left (parallel_scaling_steps set pods) (rest set pods (list_any is_of_pod (parallel_scaling_steps set pods))) a h) t

pub scales_parallel : (set : SetParts) (pods : Pods) → AreInOrder pods → ScalesParallel set pods (pod_steps (parallel_steps set pods))
scales_parallel set pods sorted = record {
  creates = λ i revision. (
    λ h. creates_exactly set pods i revision sorted (was_there is_of_pod (parallel_steps set pods) (CreatePod i revision) h).0,
    λ absent.
        let P : Revision → Type 0 = λ r. Contains (pod_steps (parallel_steps set pods)) (CreatePod i r) in
        subst P absent.1 (scaled_stays set pods (CreatePod i (revision_at set.strategy i)) refl (absent_made set pods i absent.0)),
  );
  deletes = λ calls i uid. (
    λ h. deletes_exactly set pods i uid sorted calls (was_there is_of_pod (parallel_steps set pods) (DeletePod i uid) h).0,
    λ gone.
        let P : ℕ → Type 0 = λ n. Contains (pod_steps (parallel_steps set pods)) (DeletePod i n) in
        subst P gone.2 (scaled_stays set pods (DeletePod i gone.0.uid) refl (dismissed_goes set pods i gone.0 gone.1)),
  );
  waits = λ calls i cause h. waits_for_none set pods i cause sorted calls (was_there is_of_pod (parallel_steps set pods) (Wait i cause) h).0;
  neither = λ none.
      let P : List Step → Type 0 = λ l. Updates set pods l in
      subst P (sym (uncalled_updates set pods sorted none)) (updates set pods);
}
