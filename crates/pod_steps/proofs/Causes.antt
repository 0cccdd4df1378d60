-- Why a step is in a plan.
use Rattle.std.proofs.Common.{◌≡◌, ◌≢◌, ◌==◌, ◌&&◌, ◌⊎◌, inl, inr, ℕ, zero, suc, ◌+◌, ◌-◌, ◌≤◌, ◌<◌, Bool, true, false, not, cond, if◌then◌else◌, List, [], ◌∷◌, ◌++◌, length, nat_le, Option, Some, None, find, reverse, arith, refl, sym, ap, ◌∙◌, subst}
use Rattle.std.proofs.lemmas.Bool.{eq-eqb, eqb-true}
use Rattle.std.proofs.lemmas.Bool.Decides.{nat_tests}
use Rattle.std.proofs.lemmas.List.Elements.{Contains-append_cases}
use Rattle.std.proofs.lemmas.Map.Keys.{sorted_tail}
use Rattle.std.specs.List.{Contains, flat_map, list_any, range_with_len}
use Rattle.std.specs.Map.{keys_of}
use Rattle.std.specs.Option.{option_map_or, option_or}
use Rattle.std.specs.Ordering.{nat_cmp}
use Rattle.set_views.specs.declared.policies.Policy.{Policy}
use Rattle.set_views.specs.declared.policies.Policy.TheVariants.{OrderedReady, Parallel}
use Rattle.set_views.specs.declared.policies.Strategy.{Strategy}
use Rattle.set_views.specs.declared.policies.Strategy.TheVariants.{RollingUpdate, OnDelete}
use Rattle.set_views.specs.declared.readiness.Readiness.{Readiness}
use Rattle.set_views.specs.declared.readiness.Readiness.TheVariants.{Failed, Ready, NotReady as NotYetReady}
use Rattle.set_views.specs.Set.{SetParts}
use Rattle.set_views.specs.Predicates.{in_range, is_ready}
use Rattle.pod_steps.specs.declared.replica.Replica.{Replica}
use Rattle.pod_steps.specs.declared.step.Revision.{Revision}
use Rattle.pod_steps.specs.declared.step.Step.{Step}
use Rattle.pod_steps.specs.declared.step.Step.TheVariants.{MakeClaims, ReleaseClaims, CreatePod, DeletePod}
use Rattle.pod_steps.specs.Replicas.{AreInOrder, Pods, has_healthy_pod, is_out_of_range, is_due, is_failed, is_healthy_replica, is_settled, lacks_healthy, ordinals, pod_at}
use Rattle.pod_steps.specs.Step.{is_of_pod, pod_steps}
use Rattle.pod_steps.specs.FullSteps.{parallel_steps, removal_steps_unless, ordered_ready_steps, ordered_ready_steps_at, is_other_unhealthy, keep_steps, gap_steps, full_steps, full_steps_by, replacement_steps, scale_down_steps, scale_down_or_update_steps, revision_at, rolling_update_steps, parallel_scaling_steps, update_steps, update_steps_by, wait_for}
use Rattle.pod_steps.proofs.ParallelPlans.{alone, creates_exactly, from_scaled, nowhere, rest, second, stays_there, update_creates_none, was_there}
use Rattle.pod_steps.proofs.Entries.{at_head, at_tail, from_back}
use Rattle.pod_steps.proofs.Found.{found_below, last_range}
use Rattle.pod_steps.proofs.Searches.{entry_is_there, found_above, found_in, found_in_back, none_found, passes_in}
use Rattle.pod_steps.proofs.OrderedReadyPlans.{after_keep_steps, bounds, inside, not_false}

-- ---- what a plan of OrderedReady has
past_keep_steps : (ns : List ℕ) (ys : List Step) (a : Step) → is_of_pod a ≡ true → Contains (flat_map keep_steps ns ++ ys) a → Contains ys a
past_keep_steps ns ys a t h =
    let P : List Step → Type 0 = λ l. Contains l a in
    (was_there is_of_pod ys a (subst P (after_keep_steps ns ys) (stays_there is_of_pod (flat_map keep_steps ns ++ ys) a h t))).0

abbrev pub gap_of : SetParts → Pods → Option ℕ
gap_of set pods = find (lacks_healthy pods) (ordinals set)

abbrev pub highest_of : SetParts → Pods → Option (ℕ × Replica)
highest_of set pods = find (is_out_of_range set) (reverse pods)

-- the step is at a gap, or there is none and it scales down or updates
abbrev IsOrderedReadyStep : SetParts → Pods → Step → Type 0
IsOrderedReadyStep set pods a =
    ((g : ℕ) × (gap_of set pods ≡ Some g) × Contains (gap_steps set g (pod_at pods g)) a)
    ⊎ ((gap_of set pods ≡ None) × (((e : ℕ × Replica) × (highest_of set pods ≡ Some e) × Contains (scale_down_steps set pods e) a) ⊎ Contains (update_steps set pods) a))

from_ordered_ready : (set : SetParts) (pods : Pods) (a : Step) → is_of_pod a ≡ true → Contains (ordered_ready_steps set pods) a → IsOrderedReadyStep set pods a
from_ordered_ready set pods a t h =
    elim (gap_of set pods) as (λ g. gap_of set pods ≡ g → Contains (ordered_ready_steps_at set pods g) a → IsOrderedReadyStep set pods a) [
      | Some g ↦ λ e k. inl (g, e, past_keep_steps (range_with_len set.start (g - set.start)) (gap_steps set g (pod_at pods g)) a t k)
      | None ↦ λ e k.
          let later = past_keep_steps (ordinals set) (scale_down_or_update_steps set pods (highest_of set pods)) a t k in
          elim (highest_of set pods) as (λ o. highest_of set pods ≡ o → Contains (scale_down_or_update_steps set pods o) a → IsOrderedReadyStep set pods a) [
            | Some x ↦ λ f m. inr (e, inl (x, f, m))
            | None ↦ λ f m. inr (e, inr m)
          ] refl later
    ] refl h

-- ---- creates
created_at : (set : SetParts) (g i : ℕ) (revision : Revision) (here : Option Replica) → Contains (gap_steps set g here) (CreatePod i revision) → (g ≡ i) × (here ≡ None)
created_at set g i revision None h =
    let e : CreatePod g (revision_at set.strategy g) ≡ CreatePod i revision = second (MakeClaims g) (CreatePod g (revision_at set.strategy g)) (CreatePod i revision) refl refl h in
    (cc, refl)
created_at set g i revision (Some pod) h =
    elim (pod.terminating) as (λ t. Contains (if t then wait_for g pod ∷ [] else if is_failed pod.readiness then DeletePod g pod.uid ∷ [] else wait_for g pod ∷ []) (CreatePod i revision) → (g ≡ i) × (Some pod ≡ None)) [
      | true ↦ λ m. let e : wait_for g pod ≡ CreatePod i revision = alone (wait_for g pod) (CreatePod i revision) m in absurd (cc)
      | false ↦ λ m. elim (is_failed pod.readiness) as (λ f. Contains (if f then DeletePod g pod.uid ∷ [] else wait_for g pod ∷ []) (CreatePod i revision) → (g ≡ i) × (Some pod ≡ None)) [
        | true ↦ λ n. let e : DeletePod g pod.uid ≡ CreatePod i revision = alone (DeletePod g pod.uid) (CreatePod i revision) n in absurd (cc)
        | false ↦ λ n. let e : wait_for g pod ≡ CreatePod i revision = alone (wait_for g pod) (CreatePod i revision) n in absurd (cc)
      ] m
    ] h

scale_down_creates_none : (set : SetParts) (pods : Pods) (e : ℕ × Replica) (i : ℕ) (revision : Revision) → Contains (scale_down_steps set pods e) (CreatePod i revision) → ⊥
scale_down_creates_none set pods e i revision h =
    elim (e.1.terminating) as (λ t. Contains (if t then wait_for e.0 e.1 ∷ [] else removal_steps_unless e (find (is_other_unhealthy set e.0) pods)) (CreatePod i revision) → ⊥) [
      | true ↦ λ m. let f : wait_for e.0 e.1 ≡ CreatePod i revision = alone (wait_for e.0 e.1) (CreatePod i revision) m in absurd (cc)
      | false ↦ λ m. elim (find (is_other_unhealthy set e.0) pods) as (λ o. Contains (removal_steps_unless e o) (CreatePod i revision) → ⊥) [
        | None ↦ λ n. let f : DeletePod e.0 e.1.uid ≡ CreatePod i revision = second (ReleaseClaims e.0 e.1.uid) (DeletePod e.0 e.1.uid) (CreatePod i revision) refl refl n in absurd (cc)
        | Some other ↦ λ n. let f : wait_for other.0 other.1 ≡ CreatePod i revision = alone (wait_for other.0 other.1) (CreatePod i revision) n in absurd (cc)
      ] m
    ] h

-- a create is of the gap
created_gap : (set : SetParts) (pods : Pods) (i : ℕ) (revision : Revision) → Contains (ordered_ready_steps set pods) (CreatePod i revision) → (gap_of set pods ≡ Some i) × (pod_at pods i ≡ None)
created_gap set pods i revision h =
    elim (from_ordered_ready set pods (CreatePod i revision) refl h) [
      | inl m ↦
          let at = created_at set m.0 i revision (pod_at pods m.0) m.2 in
          (m.1 ∙ ap Some at.0, ap (pod_at pods) (sym at.0) ∙ at.1)
      | inr m ↦ elim (m.1) [
        | inl n ↦ absurd (scale_down_creates_none set pods n.0 i revision n.2)
        | inr n ↦ absurd (update_creates_none set pods i revision n)
      ]
    ]

pub healthy_unless : (b : Bool) → not b ≡ false → b ≡ true
healthy_unless true h = refl
healthy_unless false h = sym h

pub created_in_turn : (set : SetParts) (pods : Pods) (i j : ℕ) (revision : Revision) → set.policy ≡ OrderedReady → Contains (full_steps set pods) (CreatePod i revision) → in_range set j ≡ true → j < i → has_healthy_pod pods j ≡ true
created_in_turn set pods i j revision policy h within below =
    let P : Policy → Type 0 = λ p. Contains (full_steps_by p set pods) (CreatePod i revision) in
    let gap = (created_gap set pods i revision (subst P policy h)).0 in
    healthy_unless (has_healthy_pod pods j) (found_below (lacks_healthy pods) set.start set.replicas i j gap (bounds set j within).0 below)

pub created_is_absent : (set : SetParts) (pods : Pods) (i : ℕ) (revision : Revision) → AreInOrder pods → Contains (full_steps set pods) (CreatePod i revision) → (in_range set i ≡ true) × (pod_at pods i ≡ None)
created_is_absent set pods i revision sorted h =
    elim (set.policy) as (λ p. Contains (full_steps_by p set pods) (CreatePod i revision) → (in_range set i ≡ true) × (pod_at pods i ≡ None)) [
      | OrderedReady ↦ λ k.
          let gap = created_gap set pods i revision k in
          let at = found_in (lacks_healthy pods) set.start set.replicas i gap.0 in
          (inside set i at.0 at.1, gap.1)
      | Parallel ↦ λ k. (creates_exactly set pods i revision sorted k).0
    ] h

-- ---- one step at a time
abbrev IsAtMostOne : List Step → Type 0
IsAtMostOne xs = length (pod_steps xs) ≤ 1

one_gap : (set : SetParts) (i : ℕ) (here : Option Replica) → IsAtMostOne (gap_steps set i here)
one_gap set i None = omega arith
one_gap set i (Some pod) =
    elim (pod.terminating) as (λ t. IsAtMostOne (if t then wait_for i pod ∷ [] else if is_failed pod.readiness then DeletePod i pod.uid ∷ [] else wait_for i pod ∷ [])) [
      | true ↦ omega arith
      | false ↦ elim (is_failed pod.readiness) as (λ f. IsAtMostOne (if f then DeletePod i pod.uid ∷ [] else wait_for i pod ∷ [])) [ true ↦ omega arith | false ↦ omega arith ]
    ]

one_replacement : (i : ℕ) (here : Option Replica) → IsAtMostOne (replacement_steps i here)
one_replacement i None = omega arith
one_replacement i (Some pod) =
    elim (not pod.updated && not pod.terminating) as (λ b. IsAtMostOne (if b then DeletePod i pod.uid ∷ [] else wait_for i pod ∷ [])) [ true ↦ omega arith | false ↦ omega arith ]

pub one_update : (set : SetParts) (pods : Pods) → IsAtMostOne (update_steps set pods)
unfolding update_steps
one_update set pods =
    elim (set.strategy) as (λ s. IsAtMostOne (update_steps_by s set pods)) [
      | RollingUpdate partition ↦ elim (find (is_due partition pods) (reverse (ordinals set))) as (λ o. IsAtMostOne (rolling_update_steps pods o)) [ None ↦ omega arith | Some i ↦ one_replacement i (pod_at pods i) ]
      | OnDelete ↦ omega arith
    ]

one_scaled_down : (set : SetParts) (pods : Pods) (e : ℕ × Replica) → IsAtMostOne (scale_down_steps set pods e)
one_scaled_down set pods e =
    elim (e.1.terminating) as (λ t. IsAtMostOne (if t then wait_for e.0 e.1 ∷ [] else removal_steps_unless e (find (is_other_unhealthy set e.0) pods))) [
      | true ↦ omega arith
      | false ↦ elim (find (is_other_unhealthy set e.0) pods) as (λ o. IsAtMostOne (removal_steps_unless e o)) [ None ↦ omega arith | Some other ↦ omega arith ]
    ]

one_past : (ns : List ℕ) (ys : List Step) → IsAtMostOne ys → IsAtMostOne (flat_map keep_steps ns ++ ys)
one_past ns ys h = let P : List Step → Type 0 = λ l. length l ≤ 1 in subst P (sym (after_keep_steps ns ys)) h

one_ordered_ready : (set : SetParts) (pods : Pods) → IsAtMostOne (ordered_ready_steps set pods)
one_ordered_ready set pods =
    elim (gap_of set pods) as (λ g. IsAtMostOne (ordered_ready_steps_at set pods g)) [
      | Some i ↦ one_past (range_with_len set.start (i - set.start)) (gap_steps set i (pod_at pods i)) (one_gap set i (pod_at pods i))
      | None ↦ one_past (ordinals set) (scale_down_or_update_steps set pods (highest_of set pods)) (elim (highest_of set pods) as (λ o. IsAtMostOne (scale_down_or_update_steps set pods o)) [ None ↦ one_update set pods | Some e ↦ one_scaled_down set pods e ])
    ]

pub one_at_a_time : (set : SetParts) (pods : Pods) → set.policy ≡ OrderedReady → length (pod_steps (full_steps set pods)) ≤ 1
one_at_a_time set pods policy = let P : Policy → Type 0 = λ p. IsAtMostOne (full_steps_by p set pods) in subst P (sym policy) (one_ordered_ready set pods)

-- ---- deletes of the update
settled_unless : (partition j : ℕ) (here : Option Replica) (pod : Replica) → (nat_le partition j && option_map_or (λ x. not (is_settled x)) here false) ≡ false → nat_le partition j ≡ true → here ≡ Some pod → is_settled pod ≡ true
settled_unless partition j here pod due reached e =
    healthy_unless (is_settled pod) (sym (λ k. reached k && option_map_or (λ x. not (is_settled x)) (e k) false) ∙ due)

pub both_true : (a b : Bool) → (a && b) ≡ true → (a ≡ true) × (b ≡ true)
both_true true b h = (refl, h)
both_true false b h = absurd (cc)

le_true : (a b c : ℕ) → nat_le a b ≡ true → b < c → nat_le a c ≡ true
le_true a b c h l = grind (arith, nat_tests)

replacement_is : (i k uid : ℕ) (here : Option Replica) → Contains (replacement_steps k here) (DeletePod i uid) → (k ≡ i) × ((pod : Replica) × (here ≡ Some pod) × (pod.uid ≡ uid))
replacement_is i k uid None h = absurd (nowhere (DeletePod i uid) h)
replacement_is i k uid (Some pod) h =
    elim (not pod.updated && not pod.terminating) as (λ b. Contains (if b then DeletePod k pod.uid ∷ [] else wait_for k pod ∷ []) (DeletePod i uid) → (k ≡ i) × ((x : Replica) × (Some pod ≡ Some x) × (x.uid ≡ uid))) [
      | true ↦ λ m.
          let e : DeletePod k pod.uid ≡ DeletePod i uid = alone (DeletePod k pod.uid) (DeletePod i uid) m in
          let at : k ≡ i = cc in
          let it : pod.uid ≡ uid = cc in
          (at, (pod, refl, it))
      | false ↦ λ m. let e : wait_for k pod ≡ DeletePod i uid = alone (wait_for k pod) (DeletePod i uid) m in absurd (cc)
    ] h

rolling_update_is : (partition : ℕ) (set : SetParts) (pods : Pods) (i uid : ℕ) → Contains (update_steps_by (RollingUpdate partition) set pods) (DeletePod i uid) → (find (is_due partition pods) (reverse (ordinals set)) ≡ Some i) × ((pod : Replica) × (pod_at pods i ≡ Some pod) × (pod.uid ≡ uid))
rolling_update_is partition set pods i uid h =
    elim (find (is_due partition pods) (reverse (ordinals set))) as (λ o. Contains (rolling_update_steps pods o) (DeletePod i uid) → (o ≡ Some i) × ((pod : Replica) × (pod_at pods i ≡ Some pod) × (pod.uid ≡ uid))) [
      | None ↦ λ m. absurd (nowhere (DeletePod i uid) m)
      | Some k ↦ λ m.
          let r = replacement_is i k uid (pod_at pods k) m in
          (ap Some r.0, (r.1.0, ap (pod_at pods) (sym r.0) ∙ r.1.1, r.1.2))
    ] h

-- all above the pod that is replaced are at the update revision and healthy
pub replaced_in_turn : (set : SetParts) (pods : Pods) (partition i uid j : ℕ) (pod : Replica) → set.strategy ≡ RollingUpdate partition → Contains (update_steps set pods) (DeletePod i uid) → in_range set j ≡ true → i < j → pod_at pods j ≡ Some pod → is_settled pod ≡ true
unfolding update_steps
replaced_in_turn set pods partition i uid j pod rolling h within above here =
    let P : Strategy → Type 0 = λ s. Contains (update_steps_by s set pods) (DeletePod i uid) in
    let found = (rolling_update_is partition set pods i uid (subst P rolling h)).0 in
    let at_least : nat_le partition i ≡ true = (both_true (nat_le partition i) (option_map_or (λ x. not (is_settled x)) (pod_at pods i) false) (passes_in (is_due partition pods) (reverse (ordinals set)) i found)).0 in
    settled_unless partition j (pod_at pods j) pod (found_above (is_due partition pods) set.start set.replicas i j found above (bounds set j within).1) (le_true partition i j at_least above) here

pub replaced_from_partition : (set : SetParts) (pods : Pods) (partition i uid : ℕ) → set.strategy ≡ RollingUpdate partition → Contains (update_steps set pods) (DeletePod i uid) → nat_le partition i ≡ true
unfolding update_steps
replaced_from_partition set pods partition i uid rolling h =
    let P : Strategy → Type 0 = λ s. Contains (update_steps_by s set pods) (DeletePod i uid) in
    let found = (rolling_update_is partition set pods i uid (subst P rolling h)).0 in
    (both_true (nat_le partition i) (option_map_or (λ x. not (is_settled x)) (pod_at pods i) false) (passes_in (is_due partition pods) (reverse (ordinals set)) i found)).0

-- ---- deletes the pod is failed and in range, or condemned, or the update deletes it and, under OrderedReady, no
-- ordinal lacks a healthy pod
abbrev IsCause : SetParts → Pods → ℕ → ℕ → Replica → Type 0
IsCause set pods i uid pod = ((in_range set i ≡ true) × (is_failed pod.readiness ≡ true)) ⊎ ((in_range set i ≡ false) ⊎ (Contains (update_steps set pods) (DeletePod i uid) × (set.policy ≡ OrderedReady → gap_of set pods ≡ None)))

abbrev IsDeleted : SetParts → Pods → ℕ → ℕ → Type 0
IsDeleted set pods i uid = (pod : Replica) × (pod_at pods i ≡ Some pod) × (pod.uid ≡ uid) × IsCause set pods i uid pod

gap_deletes : (set : SetParts) (g i uid : ℕ) (here : Option Replica) → Contains (gap_steps set g here) (DeletePod i uid) → (g ≡ i) × ((pod : Replica) × (here ≡ Some pod) × (pod.uid ≡ uid) × (is_failed pod.readiness ≡ true))
gap_deletes set g i uid None h =
    let e : CreatePod g (revision_at set.strategy g) ≡ DeletePod i uid = second (MakeClaims g) (CreatePod g (revision_at set.strategy g)) (DeletePod i uid) refl refl h in
    absurd (cc)
gap_deletes set g i uid (Some pod) h =
    elim (pod.terminating) as (λ t. Contains (if t then wait_for g pod ∷ [] else if is_failed pod.readiness then DeletePod g pod.uid ∷ [] else wait_for g pod ∷ []) (DeletePod i uid) → (g ≡ i) × ((x : Replica) × (Some pod ≡ Some x) × (x.uid ≡ uid) × (is_failed x.readiness ≡ true))) [
      | true ↦ λ m. let e : wait_for g pod ≡ DeletePod i uid = alone (wait_for g pod) (DeletePod i uid) m in absurd (cc)
      | false ↦ λ m. elim (is_failed pod.readiness) as (λ f. is_failed pod.readiness ≡ f → Contains (if f then DeletePod g pod.uid ∷ [] else wait_for g pod ∷ []) (DeletePod i uid) → (g ≡ i) × ((x : Replica) × (Some pod ≡ Some x) × (x.uid ≡ uid) × (is_failed x.readiness ≡ true))) [
        | true ↦ λ failed n.
            let e : DeletePod g pod.uid ≡ DeletePod i uid = alone (DeletePod g pod.uid) (DeletePod i uid) n in
            let at : g ≡ i = cc in
            let it : pod.uid ≡ uid = cc in
            (at, (pod, refl, it, failed))
        | false ↦ λ failed n. let e : wait_for g pod ≡ DeletePod i uid = alone (wait_for g pod) (DeletePod i uid) n in absurd (cc)
      ] refl m
    ] h

scale_down_deletes : (set : SetParts) (pods : Pods) (e : ℕ × Replica) (i uid : ℕ) → Contains (scale_down_steps set pods e) (DeletePod i uid) → (e.0 ≡ i) × (e.1.uid ≡ uid)
scale_down_deletes set pods e i uid h =
    elim (e.1.terminating) as (λ t. Contains (if t then wait_for e.0 e.1 ∷ [] else removal_steps_unless e (find (is_other_unhealthy set e.0) pods)) (DeletePod i uid) → (e.0 ≡ i) × (e.1.uid ≡ uid)) [
      | true ↦ λ m. let f : wait_for e.0 e.1 ≡ DeletePod i uid = alone (wait_for e.0 e.1) (DeletePod i uid) m in absurd (cc)
      | false ↦ λ m. elim (find (is_other_unhealthy set e.0) pods) as (λ o. Contains (removal_steps_unless e o) (DeletePod i uid) → (e.0 ≡ i) × (e.1.uid ≡ uid)) [
        | None ↦ λ n. let f : DeletePod e.0 e.1.uid ≡ DeletePod i uid = second (ReleaseClaims e.0 e.1.uid) (DeletePod e.0 e.1.uid) (DeletePod i uid) refl refl n in (cc, cc)
        | Some other ↦ λ n. let f : wait_for other.0 other.1 ≡ DeletePod i uid = alone (wait_for other.0 other.1) (DeletePod i uid) n in absurd (cc)
      ] m
    ] h

update_is : (set : SetParts) (pods : Pods) (i uid : ℕ) → Contains (update_steps set pods) (DeletePod i uid) → (pod : Replica) × (pod_at pods i ≡ Some pod) × (pod.uid ≡ uid)
unfolding update_steps
update_is set pods i uid h =
    elim (set.strategy) as (λ s. Contains (update_steps_by s set pods) (DeletePod i uid) → (pod : Replica) × (pod_at pods i ≡ Some pod) × (pod.uid ≡ uid)) [
      | RollingUpdate partition ↦ λ m. (rolling_update_is partition set pods i uid m).1
      | OnDelete ↦ λ m. absurd (nowhere (DeletePod i uid) m)
    ] h

deleted_ordered_ready : (set : SetParts) (pods : Pods) (i uid : ℕ) → AreInOrder pods → Contains (ordered_ready_steps set pods) (DeletePod i uid) → IsDeleted set pods i uid
deleted_ordered_ready set pods i uid sorted h =
    elim (from_ordered_ready set pods (DeletePod i uid) refl h) [
      | inl m ↦
          let r = gap_deletes set m.0 i uid (pod_at pods m.0) m.2 in
          let at = found_in (lacks_healthy pods) set.start set.replicas i (m.1 ∙ ap Some r.0) in
          (r.1.0, ap (pod_at pods) (sym r.0) ∙ r.1.1, r.1.2, inl (inside set i at.0 at.1, r.1.3))
      | inr m ↦ elim (m.1) [
        | inl n ↦
            let r = scale_down_deletes set pods n.0 i uid n.2 in
            let out : in_range set n.0.0 ≡ false = not_false (in_range set n.0.0) (passes_in (is_out_of_range set) (reverse pods) n.0 n.1) in
            (n.0.1, ap (pod_at pods) (sym r.0) ∙ entry_is_there (is_out_of_range set) pods n.0 sorted n.1, r.1, inr (inl (ap (in_range set) (sym r.0) ∙ out)))
        | inr n ↦ let r = update_is set pods i uid n in (r.0, r.1, r.2, inr (inr (n, λ _. m.0)))
      ]
    ]

deleted_parallel : (set : SetParts) (pods : Pods) (i uid : ℕ) → set.policy ≡ Parallel → AreInOrder pods → Contains (parallel_steps set pods) (DeletePod i uid) → IsDeleted set pods i uid
deleted_parallel set pods i uid policy sorted h =
    elim (Contains-append_cases (parallel_scaling_steps set pods) (rest set pods (list_any is_of_pod (parallel_scaling_steps set pods))) (DeletePod i uid) h) [
      | inl k ↦ elim (from_scaled set pods (DeletePod i uid) sorted refl k) [
        | inl m ↦ let e : CreatePod m.0 (revision_at set.strategy m.0) ≡ DeletePod i uid = m.2 in absurd (cc)
        | inr m ↦
            let e : DeletePod m.0 m.1.0.uid ≡ DeletePod i uid = m.1.2 in
            let at : m.0 ≡ i = cc in
            let it : m.1.0.uid ≡ uid = cc in (
              m.1.0,
              ap (pod_at pods) (sym at) ∙ m.1.1.here,
              it,
              elim (in_range set i) as (λ b. in_range set i ≡ b → IsCause set pods i uid m.1.0) [
                | true ↦ λ r. inl (r, m.1.1.failed (ap (in_range set) at ∙ r))
                | false ↦ λ r. inr (inl r)
              ] refl,
            )
      ]
      | inr k ↦ elim (list_any is_of_pod (parallel_scaling_steps set pods)) as (λ b. Contains (rest set pods b) (DeletePod i uid) → IsDeleted set pods i uid) [
        | true ↦ λ m. absurd (nowhere (DeletePod i uid) m)
        | false ↦ λ m. let r = update_is set pods i uid m in (r.0, r.1, r.2, inr (inr (m, λ p. (let e : OrderedReady ≡ Parallel = sym p ∙ policy in absurd (cc)))))
      ] k
    ]

pub deleted : (set : SetParts) (pods : Pods) (i uid : ℕ) → AreInOrder pods → Contains (full_steps set pods) (DeletePod i uid) → IsDeleted set pods i uid
deleted set pods i uid sorted h =
    elim (set.policy) as (λ p. set.policy ≡ p → Contains (full_steps_by p set pods) (DeletePod i uid) → IsDeleted set pods i uid) [
      | OrderedReady ↦ λ e k. deleted_ordered_ready set pods i uid sorted k
      | Parallel ↦ λ e k. deleted_parallel set pods i uid e sorted k
    ] refl h

pub failed_is_unhealthy : (readiness : Readiness) (terminating : Bool) → is_failed readiness ≡ true → (is_ready readiness && not terminating) ≡ false
failed_is_unhealthy Ready terminating h = absurd (cc)
failed_is_unhealthy NotYetReady terminating h = refl
failed_is_unhealthy Failed terminating h = refl

-- under OnDelete no healthy pod in range is deleted
pub kept_on_delete : (set : SetParts) (pods : Pods) (i uid : ℕ) (pod : Replica) → AreInOrder pods → set.strategy ≡ OnDelete → Contains (full_steps set pods) (DeletePod i uid) → in_range set i ≡ true → pod_at pods i ≡ Some pod → is_healthy_replica pod ≡ false
unfolding update_steps
kept_on_delete set pods i uid pod sorted strategy h within here =
    let r = deleted set pods i uid sorted h in
    let both : Some r.0 ≡ Some pod = sym r.1 ∙ here in
    let same : r.0 ≡ pod = cc in
    elim (r.3) [
      | inl m ↦ ap is_healthy_replica (sym same) ∙ failed_is_unhealthy r.0.readiness r.0.terminating m.1
      | inr m ↦ elim (m) [
        | inl out ↦ absurd (cc)
        | inr n ↦
            let P : Strategy → Type 0 = λ s. Contains (update_steps_by s set pods) (DeletePod i uid) in
            absurd (nowhere (DeletePod i uid) (subst P strategy n.0))
      ]
    ]

-- under OrderedReady a pod in range that has not failed is deleted only if each ordinal has a healthy pod
pub replaced_where_all_healthy : (set : SetParts) (pods : Pods) (i uid j : ℕ) (pod : Replica) → AreInOrder pods → set.policy ≡ OrderedReady → Contains (full_steps set pods) (DeletePod i uid) → in_range set i ≡ true → pod_at pods i ≡ Some pod → is_failed pod.readiness ≡ false → in_range set j ≡ true → has_healthy_pod pods j ≡ true
replaced_where_all_healthy set pods i uid j pod sorted policy h within here staying other =
    let r = deleted set pods i uid sorted h in
    let both : Some r.0 ≡ Some pod = sym r.1 ∙ here in
    let same : r.0 ≡ pod = cc in
    elim (r.3) [
      | inl m ↦ let failed : is_failed pod.readiness ≡ true = ap (λ x. is_failed x.readiness) (sym same) ∙ m.1 in absurd (cc)
      | inr m ↦ elim (m) [
        | inl out ↦ absurd (cc)
        | inr n ↦
            let at = bounds set j other in
            healthy_unless (has_healthy_pod pods j) (none_found (lacks_healthy pods) set.start set.replicas j (n.1 policy) at.0 at.1)
      ]
    ]
