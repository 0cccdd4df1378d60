-- What a plan does to the pods of a set that stands: it keeps their claims.
use Rattle.std.proofs.Common.{◌≡◌, ◌||◌, ℕ, zero, suc, ◌+◌, ◌≤◌, ◌<◌, true, false, not, if◌then◌else◌, List, [], ◌∷◌, ◌++◌, Option, Some, None, reverse, arith, refl, sym, ap, ◌∙◌}
use Rattle.std.proofs.lemmas.List.{append-nil, reverse-append}
use Rattle.std.proofs.lemmas.List.Concat.{flat_map-append}
use Rattle.std.proofs.lemmas.Map.Keys.{sorted_tail}
use Rattle.std.specs.List.{flat_map, list_any, range_with_len}
use Rattle.std.specs.Map.{keys_of}
use Rattle.std.specs.Option.{option_map_or}
use Rattle.std.specs.Ordering.{nat_cmp}
use Rattle.set_views.specs.declared.policies.Policy.{Policy}
use Rattle.set_views.specs.declared.policies.Policy.TheVariants.{OrderedReady, Parallel}
use Rattle.set_views.specs.Set.{SetParts}
use Rattle.set_views.specs.Predicates.{in_range, is_ready}
use Rattle.pod_steps.specs.declared.replica.Replica.{Replica}
use Rattle.pod_steps.specs.declared.step.Step.{Step}
use Rattle.pod_steps.specs.declared.step.Step.TheVariants.{DeletePod}
use Rattle.pod_steps.specs.Replicas.{AreInOrder, Pods, is_failed, is_healthy_replica, ordinals, pod_at}
use Rattle.pod_steps.specs.Step.{is_of_pod}
use Rattle.pod_steps.specs.FullSteps.{all_target_steps, condemned_steps, full_steps, full_steps_by, keep_steps, parallel_scaling_steps, removal_steps, target_steps, update_steps}
use Rattle.pod_steps.proofs.Entries.{at_head, at_tail}
use Rattle.pod_steps.proofs.OrderedReadyPlans.{inside, not_false}
use Rattle.pod_steps.proofs.Causes.{both_true}
use Rattle.convergence.specs.Standing.{Stands}
use Rattle.convergence.proofs.Falls.{ready_is_not_failed}
use Rattle.convergence.proofs.Silent.{no_update, standing_steps}

keeps_at : (set : SetParts) (i : ℕ) (here : Option Replica) → option_map_or is_healthy_replica here false ≡ true → target_steps set i here ≡ keep_steps i
keeps_at set i None healthy = absurd (cc)
keeps_at set i (Some pod) healthy =
    let two = both_true (is_ready pod.readiness) (not pod.terminating) healthy in
    let stays : pod.terminating ≡ false = not_false pod.terminating two.1 in
    let failed : is_failed pod.readiness ≡ false = ready_is_not_failed pod.readiness two.0 in
    let ready : is_ready pod.readiness ≡ true = two.0 in
    (λ k. if stays k then [] else if failed k then DeletePod i pod.uid ∷ [] else if ready k then keep_steps i else [])

same_walk : (f g : ℕ → List Step) (a n : ℕ) → ((i : ℕ) → a ≤ i → i < a + n → f i ≡ g i) → flat_map f (range_with_len a n) ≡ flat_map g (range_with_len a n)
same_walk f g a zero same = refl
same_walk f g a (suc n) same =
    let here : f a ≡ g a = same a (omega arith) (omega arith) in
    let later : flat_map f (range_with_len (a + 1) n) ≡ flat_map g (range_with_len (a + 1) n) = same_walk f g (a + 1) n (λ i from to. same i (omega arith) (omega arith)) in
    (λ k. here k ++ later k)

none_goes : (set : SetParts) (es : Pods) → AreInOrder es → ((j : ℕ) (y : Replica) → pod_at es j ≡ Some y → in_range set j ≡ true) → flat_map (condemned_steps set) (reverse es) ≡ []
none_goes set [] sorted within = refl
none_goes set (e ∷ es) sorted within =
    let here : condemned_steps set e ≡ [] = ap (λ b. if b || e.1.terminating then [] else removal_steps e.0 e.1) (within e.0 e.1 (at_head e es)) in
    let later : flat_map (condemned_steps set) (reverse es) ≡ [] = none_goes set es (sorted_tail nat_cmp e.0 (keys_of es) sorted) (λ j y h. within j y (at_tail e es j y sorted h)) in
    ap (flat_map (condemned_steps set)) (reverse-append (e ∷ []) es)
    ∙ (flat_map-append (condemned_steps set) (reverse es) (e ∷ []) ∙ (λ k. later k ++ (here k ++ [])))

all_within : (set : SetParts) (pods : Pods) → Stands set pods → (j : ℕ) (y : Replica) → pod_at pods j ≡ Some y → in_range set j ≡ true
all_within set pods stands j y here =
    elim (in_range set j) as (λ b. in_range set j ≡ b → b ≡ true) [
      | true ↦ λ h. refl
      | false ↦ λ h. let clash : None ≡ Some y = sym (stands.alone j h) ∙ here in absurd (cc)
    ] refl

quiet_walk : (ns : List ℕ) → list_any is_of_pod (flat_map keep_steps ns ++ []) ≡ false
quiet_walk [] = refl
quiet_walk (n ∷ ns) = quiet_walk ns

abbrev kept : SetParts → List Step
kept set = flat_map keep_steps (ordinals set) ++ []

standing_parallel : (set : SetParts) (pods : Pods) → AreInOrder pods → set.policy ≡ Parallel → Stands set pods → full_steps set pods ≡ flat_map keep_steps (ordinals set) ++ []
unfolding update_steps parallel_scaling_steps
standing_parallel set pods sorted policy stands =
    let targets : all_target_steps set pods ≡ flat_map keep_steps (ordinals set) = same_walk (λ i. target_steps set i (pod_at pods i)) keep_steps set.start set.replicas (λ i from to. keeps_at set i (pod_at pods i) (stands.healthy i (inside set i from to))) in
    let scaling : parallel_scaling_steps set pods ≡ kept set = (λ k. targets k ++ none_goes set pods sorted (all_within set pods stands) k) in
    ap (λ (p : Policy). full_steps_by p set pods) policy
    ∙ (ap (λ l. l ++ (if list_any is_of_pod l then [] else update_steps set pods)) scaling
    ∙ (ap (λ b. kept set ++ (if b then [] else update_steps set pods)) (quiet_walk (ordinals set))
    ∙ (ap (λ l. kept set ++ l) (no_update set pods set.strategy refl stands)
    ∙ ap (λ l. l ++ []) (append-nil (flat_map keep_steps (ordinals set))))))

pub standing : (set : SetParts) (pods : Pods) → AreInOrder pods → Stands set pods → full_steps set pods ≡ flat_map keep_steps (ordinals set) ++ []
standing set pods sorted stands =
    elim (set.policy) as (λ (p : Policy). set.policy ≡ p → full_steps set pods ≡ flat_map keep_steps (ordinals set) ++ []) [
      | OrderedReady ↦ λ policy. standing_steps set pods sorted policy stands
      | Parallel ↦ λ policy. standing_parallel set pods sorted policy stands
    ] refl
