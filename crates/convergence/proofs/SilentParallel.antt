-- A plan of Parallel does nothing to pods of which each is ready or has ended exactly where these stand as the spec says.
use Rattle.std.proofs.Common.{◌≡◌, ◌↔◌, ℕ, Bool, true, false, List, [], Option, Some, None, reverse, refl, sym, ap, ◌∙◌, inl, inr}
use Rattle.std.specs.List.{list_any}
use Rattle.std.specs.Option.{option_map_or}
use Rattle.set_views.specs.declared.policies.Policy.{Policy}
use Rattle.set_views.specs.declared.policies.Policy.TheVariants.{OrderedReady, Parallel}
use Rattle.set_views.specs.Set.{SetParts}
use Rattle.set_views.specs.Predicates.{in_range}
use Rattle.pod_steps.specs.declared.replica.Replica.{Replica}
use Rattle.pod_steps.specs.declared.step.Step.{Step}
use Rattle.pod_steps.specs.Replicas.{AreInOrder, Pods, has_healthy_pod, is_healthy_replica, is_out_of_range, lacks_healthy, ordinals, pod_at}
use Rattle.pod_steps.specs.Scaling.{CallsForScaling, IsDismissed}
use Rattle.pod_steps.specs.Step.{pod_steps}
use Rattle.pod_steps.specs.FullSteps.{update_steps, update_steps_by}
use Rattle.pod_steps.proofs.OrderedReadyPlans.{inside, not_false}
use Rattle.pod_steps.proofs.ParallelPlans.{uncalled_updates}
use Rattle.pod_steps.proofs.Searches.{found_in, passes_in, entry_is_there}
use Rattle.pod_steps.proofs.Causes.{gap_of, highest_of}
use Rattle.convergence.specs.Rounds.{creates, deletes}
use Rattle.convergence.specs.Standing.{AreTended, Stands}
use Rattle.convergence.proofs.Moves.{steps_on, update}
use Rattle.convergence.proofs.Parallel.{created_where_absent, deleted_where_dismissed, failed_at_gap, healthy_after_all, parallel_is, uncalled}
use Rattle.convergence.proofs.Silent.{nothing_to_update, silent_is_standing, silent_move}

no_step : (p : Step → Bool) (steps : List Step) → steps ≡ [] → list_any p steps ≡ true → ⊥
no_step p steps none some = let clash : false ≡ true = sym (ap (list_any p) none) ∙ some in absurd (cc)

dismissed_is_loud : (set : SetParts) (pods : Pods) (i : ℕ) (pod : Replica) → AreInOrder pods → set.policy ≡ Parallel → IsDismissed set pods i pod → steps_on set pods ≡ [] → ⊥
dismissed_is_loud set pods i pod sorted policy gone silent =
    no_step (deletes i) (steps_on set pods) silent (deleted_where_dismissed set pods i pod sorted policy (inr (i, (pod, gone))) gone)

loud_gap : (set : SetParts) (pods : Pods) (i : ℕ) (here : Option Replica) → pod_at pods i ≡ here → AreInOrder pods → set.policy ≡ Parallel → AreTended pods → in_range set i ≡ true
    → option_map_or is_healthy_replica here false ≡ false → steps_on set pods ≡ [] → ⊥
loud_gap set pods i None at sorted policy are within gap silent = no_step (creates i) (steps_on set pods) silent (created_where_absent set pods i sorted policy (within, at))
loud_gap set pods i (Some pod) at sorted policy are within gap silent =
    dismissed_is_loud set pods i pod sorted policy (record { here = at; staying = (are i pod at).staying; failed = λ _. failed_at_gap pod (are i pod at) gap }) silent

stands_where_silent : (set : SetParts) (pods : Pods) → AreInOrder pods → set.policy ≡ Parallel → AreTended pods → steps_on set pods ≡ [] → Stands set pods
unfolding update_steps
stands_where_silent set pods sorted policy are silent =
    elim (gap_of set pods) as (λ g. gap_of set pods ≡ g → Stands set pods) [
      | Some i ↦ λ gap.
          let at_i = found_in (lacks_healthy pods) set.start set.replicas i gap in
          absurd (loud_gap set pods i (pod_at pods i) refl sorted policy are (inside set i at_i.0 at_i.1) (not_false (has_healthy_pod pods i) (passes_in (lacks_healthy pods) (ordinals set) i gap)) silent)
      | None ↦ λ none.
          elim (highest_of set pods) as (λ o. highest_of set pods ≡ o → Stands set pods) [
            | Some e ↦ λ found.
                let out : in_range set e.0 ≡ false = not_false (in_range set e.0) (passes_in (is_out_of_range set) (reverse pods) e found) in
                let here : pod_at pods e.0 ≡ Some e.1 = entry_is_there (is_out_of_range set) pods e sorted found in
                absurd (dismissed_is_loud set pods e.0 e.1 sorted policy (record { here = here; staying = (are e.0 e.1 here).staying; failed = λ within. absurd (cc) }) silent)
            | None ↦ λ empty.
                let steps : steps_on set pods ≡ pod_steps (update_steps_by set.strategy set pods) = parallel_is set pods policy ∙ uncalled_updates set pods sorted (uncalled set pods none empty) in
                silent_move set pods (update set pods set.strategy refl none empty steps) silent
          ] refl
    ] refl

uncalled_standing : (set : SetParts) (pods : Pods) → Stands set pods → ¬ CallsForScaling set pods
uncalled_standing set pods stands (inl (i, absent)) =
    let clash : false ≡ true = sym (ap (λ o. option_map_or is_healthy_replica o false) absent.1) ∙ stands.healthy i absent.0 in
    absurd (cc)
uncalled_standing set pods stands (inr (i, (pod, gone))) =
    elim (in_range set i) as (λ b. in_range set i ≡ b → ⊥) [
      | true ↦ λ within. healthy_after_all pod (gone.failed within) (sym (ap (λ o. option_map_or is_healthy_replica o false) gone.here) ∙ stands.healthy i within)
      | false ↦ λ out. let clash : None ≡ Some pod = sym (stands.alone i out) ∙ gone.here in absurd (cc)
    ] refl

silent_where_standing : (set : SetParts) (pods : Pods) → AreInOrder pods → set.policy ≡ Parallel → Stands set pods → steps_on set pods ≡ []
unfolding update_steps
silent_where_standing set pods sorted policy stands =
    parallel_is set pods policy ∙ (uncalled_updates set pods sorted (uncalled_standing set pods stands) ∙ nothing_to_update set pods set.strategy refl stands)

silent_is_standing_parallel : (set : SetParts) (pods : Pods) → AreInOrder pods → set.policy ≡ Parallel → AreTended pods → (steps_on set pods ≡ []) ↔ Stands set pods
silent_is_standing_parallel set pods sorted policy are = (stands_where_silent set pods sorted policy are, silent_where_standing set pods sorted policy)

-- ---- both policies
pub silent_is_standing_either : (set : SetParts) (pods : Pods) → AreInOrder pods → (set.policy ≡ Parallel → AreTended pods) → (steps_on set pods ≡ []) ↔ Stands set pods
silent_is_standing_either set pods sorted are =
    elim (set.policy) as (λ (p : Policy). set.policy ≡ p → (steps_on set pods ≡ []) ↔ Stands set pods) [
      | OrderedReady ↦ λ policy. silent_is_standing set pods sorted policy
      | Parallel ↦ λ policy. silent_is_standing_parallel set pods sorted policy (are policy)
    ] refl
