-- A plan creates each pod of the revision that its ordinal is to have.
use Rattle.std.proofs.Common.{◌≡◌, ℕ, Bool, true, false, not, if◌then◌else◌, List, [], ◌∷◌, reverse, find, Option, Some, None, refl}
use Rattle.std.specs.Prelude.{◌&&◌, ◌||◌, ◌-◌, ⊤}
use Rattle.std.specs.List.{AllByRecursion, Contains, flat_map, list_any, range_with_len}
use Rattle.set_views.specs.declared.policies.Policy.{Policy}
use Rattle.set_views.specs.declared.policies.Policy.TheVariants.{OrderedReady, Parallel}
use Rattle.set_views.specs.declared.policies.Strategy.{Strategy}
use Rattle.set_views.specs.declared.policies.Strategy.TheVariants.{OnDelete, RollingUpdate}
use Rattle.set_views.specs.Set.{SetParts}
use Rattle.set_views.specs.Predicates.{in_range, is_ready}
use Rattle.pod_steps.specs.declared.replica.Replica.{Replica}
use Rattle.pod_steps.specs.declared.step.Revision.{Revision}
use Rattle.pod_steps.specs.declared.step.Step.{Step}
use Rattle.pod_steps.specs.declared.step.Step.TheVariants.{CreatePod, DeletePod, KeepClaims, MakeClaims, ReleaseClaims, Wait}
use Rattle.pod_steps.specs.FullSteps.{all_target_steps, condemned_steps, full_steps, full_steps_by, gap_steps, is_other_unhealthy, keep_steps, ordered_ready_steps_at, parallel_scaling_steps, parallel_steps, removal_steps, removal_steps_unless, replacement_steps, revision_at, rolling_update_steps, scale_down_or_update_steps, scale_down_steps, target_steps, update_steps, update_steps_by, wait_for}
use Rattle.pod_steps.specs.Replicas.{Pods, is_due, is_failed, is_out_of_range, lacks_healthy, ordinals, pod_at}
use Rattle.pod_steps.specs.Step.{is_of_pod}
use Rattle.rounds.proofs.Lists.{among_contained}
use Rattle.controllers.proofs.PlannedActions.{among_all}
use Rattle.resting.proofs.PlanLists.{all_append, all_flat}

abbrev IsOfRevision : SetParts → Step → Type 0
IsOfRevision set (MakeClaims i) = ⊤
IsOfRevision set (KeepClaims i) = ⊤
IsOfRevision set (ReleaseClaims i uid) = ⊤
IsOfRevision set (CreatePod i revision) = revision_at set.strategy i ≡ revision
IsOfRevision set (DeletePod i uid) = ⊤
IsOfRevision set (Wait i cause) = ⊤

every : {X : Type 0} (P : X → Type 0) → ((x : X) → P x) → (xs : List X) → AllByRecursion P xs
every P each [] = tt
every P each (x ∷ xs) = (each x, every P each xs)

module _ (set : SetParts) where
  abbrev Fine : List Step → Type 0
  Fine = AllByRecursion (IsOfRevision set)

  walk : {X : Type 0} (f : X → List Step) → ((x : X) → Fine (f x)) → (xs : List X) → Fine (flat_map f xs)
  walk f each xs = all_flat (IsOfRevision set) f xs (every (λ x. Fine (f x)) each xs)

  kept : (ns : List ℕ) → Fine (flat_map keep_steps ns)
  kept ns = walk keep_steps (λ n. (tt, tt)) ns

  gap : (i : ℕ) (here : Option Replica) → Fine (gap_steps set i here)
  gap i None = (tt, (refl, tt))
  gap i (Some pod) =
      elim (pod.terminating) as (λ b. Fine (if b then wait_for i pod ∷ [] else if is_failed pod.readiness then DeletePod i pod.uid ∷ [] else wait_for i pod ∷ [])) [
        | true ↦ (tt, tt)
        | false ↦ elim (is_failed pod.readiness) as (λ b. Fine (if b then DeletePod i pod.uid ∷ [] else wait_for i pod ∷ [])) [ true ↦ (tt, tt) | false ↦ (tt, tt) ]
      ]

  replacement : (i : ℕ) (here : Option Replica) → Fine (replacement_steps i here)
  replacement i None = tt
  replacement i (Some pod) = elim (not pod.updated && not pod.terminating) as (λ b. Fine (if b then DeletePod i pod.uid ∷ [] else wait_for i pod ∷ [])) [ true ↦ (tt, tt) | false ↦ (tt, tt) ]

  rolling : (pods : Pods) (due : Option ℕ) → Fine (rolling_update_steps pods due)
  rolling pods None = tt
  rolling pods (Some i) = replacement i (pod_at pods i)

  updating : (pods : Pods) (strategy : Strategy) → Fine (update_steps_by strategy set pods)
  updating pods (RollingUpdate partition) = rolling pods (find (is_due partition pods) (reverse (ordinals set)))
  updating pods OnDelete = tt

  update : (pods : Pods) → Fine (update_steps set pods)
  unfolding update_steps
  update pods = updating pods set.strategy

  removal : (highest : ℕ × Replica) (other : Option (ℕ × Replica)) → Fine (removal_steps_unless highest other)
  removal highest None = (tt, (tt, tt))
  removal highest (Some other) = (tt, tt)

  scaled_down : (pods : Pods) (highest : ℕ × Replica) → Fine (scale_down_steps set pods highest)
  scaled_down pods highest =
      elim (highest.1.terminating) as (λ b. Fine (if b then wait_for highest.0 highest.1 ∷ [] else removal_steps_unless highest (find (is_other_unhealthy set highest.0) pods))) [
        | true ↦ (tt, tt)
        | false ↦ removal highest (find (is_other_unhealthy set highest.0) pods)
      ]

  down_or_update : (pods : Pods) (highest : Option (ℕ × Replica)) → Fine (scale_down_or_update_steps set pods highest)
  down_or_update pods None = update pods
  down_or_update pods (Some highest) = scaled_down pods highest

  in_turn : (pods : Pods) (least : Option ℕ) → Fine (ordered_ready_steps_at set pods least)
  in_turn pods (Some i) = all_append (IsOfRevision set) (flat_map keep_steps (range_with_len set.start (i - set.start))) (gap_steps set i (pod_at pods i)) (kept (range_with_len set.start (i - set.start))) (gap i (pod_at pods i))
  in_turn pods None =
      let highest = find (is_out_of_range set) (reverse pods) in
      all_append (IsOfRevision set) (flat_map keep_steps (ordinals set)) (scale_down_or_update_steps set pods highest) (kept (ordinals set)) (down_or_update pods highest)

  target : (i : ℕ) (here : Option Replica) → Fine (target_steps set i here)
  target i None = (tt, (refl, tt))
  target i (Some pod) =
      elim (pod.terminating) as (λ b. Fine (if b then [] else if is_failed pod.readiness then DeletePod i pod.uid ∷ [] else if is_ready pod.readiness then keep_steps i else [])) [
        | true ↦ tt
        | false ↦ elim (is_failed pod.readiness) as (λ b. Fine (if b then DeletePod i pod.uid ∷ [] else if is_ready pod.readiness then keep_steps i else [])) [
          | true ↦ (tt, tt)
          | false ↦ elim (is_ready pod.readiness) as (λ b. Fine (if b then keep_steps i else [])) [ true ↦ (tt, tt) | false ↦ tt ]
        ]
      ]

  condemned : (e : ℕ × Replica) → Fine (condemned_steps set e)
  condemned e = elim (in_range set e.0 || e.1.terminating) as (λ b. Fine (if b then [] else removal_steps e.0 e.1)) [ true ↦ tt | false ↦ (tt, (tt, tt)) ]

  scaling : (pods : Pods) → Fine (parallel_scaling_steps set pods)
  unfolding parallel_scaling_steps
  scaling pods =
      all_append (IsOfRevision set) (all_target_steps set pods) (flat_map (condemned_steps set) (reverse pods))
      (walk (λ i. target_steps set i (pod_at pods i)) (λ i. target i (pod_at pods i)) (ordinals set)) (walk (condemned_steps set) condemned (reverse pods))

  at_once : (pods : Pods) → Fine (parallel_steps set pods)
  at_once pods =
      let more : (b : Bool) → Fine (if b then [] else update_steps set pods) = λ b. elim b as (λ x. Fine (if x then [] else update_steps set pods)) [ true ↦ tt | false ↦ update pods ] in
      let b = list_any is_of_pod (parallel_scaling_steps set pods) in
      all_append (IsOfRevision set) (parallel_scaling_steps set pods) (if b then [] else update_steps set pods) (scaling pods) (more b)

  by_policy : (pods : Pods) (policy : Policy) → Fine (full_steps_by policy set pods)
  by_policy pods OrderedReady = in_turn pods (find (lacks_healthy pods) (ordinals set))
  by_policy pods Parallel = at_once pods

  pub created_revision : (pods : Pods) (i : ℕ) (revision : Revision) → Contains (full_steps set pods) (CreatePod i revision) → revision_at set.strategy i ≡ revision
  created_revision pods i revision at =
      among_all (IsOfRevision set) (full_steps set pods) (CreatePod i revision) (by_policy pods set.policy) (among_contained (full_steps set pods) (CreatePod i revision) at)
