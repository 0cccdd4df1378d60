-- A plan of OrderedReady does nothing to pods exactly where these stand as the spec says.
use Rattle.std.proofs.Common.{◌≡◌, ◌↔◌, ◌&&◌, ℕ, Bool, true, false, not, if◌then◌else◌, [], ◌∷◌, ◌++◌, nat_le, Option, Some, None, find, refl, sym, ap, ◌∙◌}
use Rattle.std.specs.List.{flat_map}
use Rattle.std.specs.Option.{option_map_or}
use Rattle.set_views.specs.declared.policies.Policy.TheVariants.{OrderedReady}
use Rattle.set_views.specs.declared.policies.Strategy.{Strategy}
use Rattle.set_views.specs.declared.policies.Strategy.TheVariants.{RollingUpdate, OnDelete}
use Rattle.set_views.specs.Set.{SetParts}
use Rattle.set_views.specs.Predicates.{in_range}
use Rattle.pod_steps.specs.declared.replica.Replica.{Replica}
use Rattle.pod_steps.specs.declared.step.Step.TheVariants.{DeletePod}
use Rattle.pod_steps.specs.Replicas.{AreInOrder, Pods, is_due, is_failed, is_healthy_replica, is_out_of_range, is_settled, lacks_healthy, ordinals, pod_at}
use Rattle.pod_steps.specs.Step.{pod_steps}
use Rattle.pod_steps.specs.FullSteps.{full_steps, full_steps_by, gap_steps, keep_steps, ordered_ready_steps_at, is_other_unhealthy, removal_steps_unless, rolling_update_steps, scale_down_or_update_steps, scale_down_steps, update_steps, update_steps_by, wait_for}
use Rattle.pod_steps.proofs.Entries.{none_back, none_passes}
use Rattle.pod_steps.proofs.Found.{find_none, find_none_back}
use Rattle.pod_steps.proofs.OrderedReadyPlans.{inside}
use Rattle.pod_steps.proofs.Causes.{gap_of, highest_of}
use Rattle.convergence.specs.Standing.{Stands, is_reached}
use Rattle.convergence.proofs.Moves.{Move, at_gap, past_gaps, steps_on, update, creating, replacing, removing, resting}

-- ---- where there is something to do, it is done or waited for
loud_gap : (set : SetParts) (i : ℕ) (here : Option Replica) → pod_steps (gap_steps set i here) ≡ [] → ⊥
loud_gap set i None e = absurd (cc)
loud_gap set i (Some pod) e =
    elim (pod.terminating) as (λ t. pod_steps (if t then wait_for i pod ∷ [] else if is_failed pod.readiness then DeletePod i pod.uid ∷ [] else wait_for i pod ∷ []) ≡ [] → ⊥) [
      | true ↦ λ h. absurd (cc)
      | false ↦ λ h. elim (is_failed pod.readiness) as (λ f. pod_steps (if f then DeletePod i pod.uid ∷ [] else wait_for i pod ∷ []) ≡ [] → ⊥) [ true ↦ λ k. absurd (cc) | false ↦ λ k. absurd (cc) ] h
    ] e

loud_removal : (set : SetParts) (pods : Pods) (e : ℕ × Replica) → pod_steps (scale_down_steps set pods e) ≡ [] → ⊥
loud_removal set pods e h =
    elim (e.1.terminating) as (λ t. pod_steps (if t then wait_for e.0 e.1 ∷ [] else removal_steps_unless e (find (is_other_unhealthy set e.0) pods)) ≡ [] → ⊥) [
      | true ↦ λ k. absurd (cc)
      | false ↦ λ k. elim (find (is_other_unhealthy set e.0) pods) as (λ o. pod_steps (removal_steps_unless e o) ≡ [] → ⊥) [ None ↦ λ m. absurd (cc) | Some other ↦ λ m. absurd (cc) ] k
    ] h

pub silent_move : (set : SetParts) (pods : Pods) → Move set pods → steps_on set pods ≡ [] → Stands set pods
silent_move set pods (creating i within here steps) none = absurd (cc)
silent_move set pods (replacing i pod within here two steps) none = absurd (cc)
silent_move set pods (removing i pod out here steps) none = absurd (cc)
silent_move set pods (resting stands steps) none = stands

stands_where_silent : (set : SetParts) (pods : Pods) → set.policy ≡ OrderedReady → steps_on set pods ≡ [] → Stands set pods
unfolding update_steps
stands_where_silent set pods policy silent =
    elim (gap_of set pods) as (λ g. gap_of set pods ≡ g → Stands set pods) [
      | Some i ↦ λ gap. absurd (loud_gap set i (pod_at pods i) (sym (at_gap set pods i policy gap) ∙ silent))
      | None ↦ λ none.
          elim (highest_of set pods) as (λ o. highest_of set pods ≡ o → steps_on set pods ≡ pod_steps (scale_down_or_update_steps set pods o) → Stands set pods) [
            | Some e ↦ λ found steps. absurd (loud_removal set pods e (sym steps ∙ silent))
            | None ↦ λ empty steps. silent_move set pods (update set pods set.strategy refl none empty steps) silent
          ] refl (past_gaps set pods policy none)
    ] refl

-- ---- where the set stands, there is nothing to do
nothing_due : (reached : Bool) (here : Option Replica) → option_map_or is_healthy_replica here false ≡ true → ((pod : Replica) → reached ≡ true → here ≡ Some pod → pod.updated ≡ true)
    → (reached && option_map_or (λ pod. not (is_settled pod)) here false) ≡ false
nothing_due false here healthy updated = refl
nothing_due true None healthy updated = refl
nothing_due true (Some pod) healthy updated =
    let new : pod.updated ≡ true = updated pod refl refl in
    (λ k. not (new k && healthy k))

pub nothing_to_update : (set : SetParts) (pods : Pods) (strategy : Strategy) → set.strategy ≡ strategy → Stands set pods → pod_steps (update_steps_by strategy set pods) ≡ []
nothing_to_update set pods OnDelete is stands = refl
nothing_to_update set pods (RollingUpdate partition) is stands =
    ap (λ o. pod_steps (rolling_update_steps pods o)) (find_none_back (is_due partition pods) set.start set.replicas (λ j from to.
    let within : in_range set j ≡ true = inside set j from to in
    nothing_due (nat_le partition j) (pod_at pods j) (stands.healthy j within) (λ pod r here. stands.updated j pod within (ap (λ s. is_reached s j) is ∙ r) here)))

silent_where_standing : (set : SetParts) (pods : Pods) → AreInOrder pods → set.policy ≡ OrderedReady → Stands set pods → steps_on set pods ≡ []
unfolding update_steps
silent_where_standing set pods sorted policy stands =
    let none : gap_of set pods ≡ None = find_none (lacks_healthy pods) set.start set.replicas (λ j from to. ap not (stands.healthy j (inside set j from to))) in
    let empty : highest_of set pods ≡ None = none_back (is_out_of_range set) pods (none_passes (is_out_of_range set) pods sorted (λ j y here.
    elim (in_range set j) as (λ b. in_range set j ≡ b → not b ≡ false) [
      | true ↦ λ h. refl
      | false ↦ λ h. let gone : pod_at pods j ≡ None = stands.alone j h in absurd (cc)
    ] refl)) in
    past_gaps set pods policy none ∙ (ap (λ o. pod_steps (scale_down_or_update_steps set pods o)) empty ∙ nothing_to_update set pods set.strategy refl stands)

pub silent_is_standing : (set : SetParts) (pods : Pods) → AreInOrder pods → set.policy ≡ OrderedReady → (steps_on set pods ≡ []) ↔ Stands set pods
silent_is_standing set pods sorted policy = (stands_where_silent set pods policy, silent_where_standing set pods sorted policy)

-- what is left to do then is to keep claims
pub no_update : (set : SetParts) (pods : Pods) (strategy : Strategy) → set.strategy ≡ strategy → Stands set pods → update_steps_by strategy set pods ≡ []
no_update set pods OnDelete is stands = refl
no_update set pods (RollingUpdate partition) is stands =
    ap (rolling_update_steps pods) (find_none_back (is_due partition pods) set.start set.replicas (λ j from to.
    let within : in_range set j ≡ true = inside set j from to in
    nothing_due (nat_le partition j) (pod_at pods j) (stands.healthy j within) (λ pod r here. stands.updated j pod within (ap (λ s. is_reached s j) is ∙ r) here)))

no_gap : (set : SetParts) (pods : Pods) → Stands set pods → gap_of set pods ≡ None
no_gap set pods stands = find_none (lacks_healthy pods) set.start set.replicas (λ j from to. ap not (stands.healthy j (inside set j from to)))

nobody_beyond : (set : SetParts) (pods : Pods) → AreInOrder pods → Stands set pods → highest_of set pods ≡ None
nobody_beyond set pods sorted stands =
    none_back (is_out_of_range set) pods (none_passes (is_out_of_range set) pods sorted (λ j y here.
    elim (in_range set j) as (λ b. in_range set j ≡ b → not b ≡ false) [
      | true ↦ λ h. refl
      | false ↦ λ h. let gone : pod_at pods j ≡ None = stands.alone j h in absurd (cc)
    ] refl))

pub standing_steps : (set : SetParts) (pods : Pods) → AreInOrder pods → set.policy ≡ OrderedReady → Stands set pods → full_steps set pods ≡ flat_map keep_steps (ordinals set) ++ []
unfolding update_steps
standing_steps set pods sorted policy stands =
    ap (λ p. full_steps_by p set pods) policy
    ∙ (ap (ordered_ready_steps_at set pods) (no_gap set pods stands)
    ∙ (ap (λ o. flat_map keep_steps (ordinals set) ++ scale_down_or_update_steps set pods o) (nobody_beyond set pods sorted stands)
    ∙ ap (λ l. flat_map keep_steps (ordinals set) ++ l) (no_update set pods set.strategy refl stands)))
