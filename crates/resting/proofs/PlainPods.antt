-- The steps on pods do not depend on which of them are of the current revision, nor on more of the set than its spec.
use Rattle.std.proofs.Common.{◌≡◌, ℕ, suc, Bool, true, false, cond, not, if◌then◌else◌, List, [], ◌∷◌, ◌++◌, map, filter, find, length, reverse, option_map, Option, Some, None, refl, sym, ap, ◌∙◌, subst}
use Rattle.std.specs.Prelude.{◌&&◌, ◌-◌, nat_le}
use Rattle.std.proofs.lemmas.List.{reverse-append}
use Rattle.std.specs.BTreeMap.{is_at}
use Rattle.std.specs.List.{flat_map, list_any, range_with_len}
use Rattle.std.specs.List.Sorted.{IsStrictlySortedBy}
use Rattle.std.specs.Map.{keys_of}
use Rattle.std.specs.Option.{option_map_or}
use Rattle.std.specs.Ordering.{nat_cmp}
use Rattle.set_views.specs.declared.policies.Policy.{Policy}
use Rattle.set_views.specs.declared.policies.Policy.TheVariants.{OrderedReady, Parallel}
use Rattle.set_views.specs.declared.policies.Strategy.{Strategy}
use Rattle.set_views.specs.declared.policies.Strategy.TheVariants.{OnDelete, RollingUpdate}
use Rattle.set_views.specs.Set.{SetParts}
use Rattle.set_views.specs.Predicates.{is_healthy}
use Rattle.pod_steps.specs.declared.replica.Replica.{Replica}
use Rattle.pod_steps.specs.declared.step.Step.{Step}
use Rattle.pod_steps.specs.FullSteps.{condemned_steps, full_steps, full_steps_by, gap_steps, is_other_unhealthy, keep_steps, ordered_ready_steps_at, parallel_scaling_steps, removal_steps_unless, replacement_steps, rolling_update_steps, scale_down_or_update_steps, scale_down_steps, target_steps, update_steps, update_steps_by, wait_for}
use Rattle.pod_steps.specs.Replicas.{AreInOrder, Pods, has_healthy_pod, is_due, is_out_of_range, is_settled, lacks_healthy, ordinals, pod_at}
use Rattle.pod_steps.specs.Step.{is_of_pod}
use Rattle.resting.specs.RoundsOver.{IsAlike}

-- a pod, with no word on the current revision
abbrev pub plain : Replica → Replica
plain pod = record pod { current = false }

abbrev pub plain_entry : ℕ × Replica → ℕ × Replica
plain_entry e = (e.0, plain e.1)

abbrev pub all_plain : Pods → Pods
all_plain pods = map plain_entry pods

pub at_plain : (es : Pods) (i : ℕ) → pod_at (all_plain es) i ≡ option_map plain (pod_at es i)
at_plain [] i = refl
at_plain (e ∷ es) i =
    elim (is_at (nat_cmp i) e.0) as (λ b. cond b (Some (plain e.1)) (pod_at (all_plain es) i) ≡ option_map plain (cond b (Some e.1) (pod_at es i))) [ true ↦ refl | false ↦ at_plain es i ]

same_keys : (es : Pods) → keys_of (all_plain es) ≡ keys_of es
same_keys [] = refl
same_keys (e ∷ es) = ap (λ ks. e.0 ∷ ks) (same_keys es)

pub plain_in_order : (es : Pods) → AreInOrder es → AreInOrder (all_plain es)
plain_in_order es sorted = subst (IsStrictlySortedBy nat_cmp) (sym (same_keys es)) sorted

pub as_many : (q : ℕ × Replica → Bool) (es : Pods) → ((e : ℕ × Replica) → q (plain_entry e) ≡ q e) → length (filter q (all_plain es)) ≡ length (filter q es)
as_many q [] each = refl
as_many q (e ∷ es) each =
    ap (λ b. length (cond b (plain_entry e ∷ filter q (all_plain es)) (filter q (all_plain es)))) (each e)
    ∙ elim (q e) as (λ b. length (cond b (plain_entry e ∷ filter q (all_plain es)) (filter q (all_plain es))) ≡ length (cond b (e ∷ filter q es) (filter q es))) [
      | true ↦ ap suc (as_many q es each)
      | false ↦ as_many q es each
    ]

found_plain : (q : ℕ × Replica → Bool) (es : Pods) → ((e : ℕ × Replica) → q (plain_entry e) ≡ q e) → find q (all_plain es) ≡ option_map plain_entry (find q es)
found_plain q [] each = refl
found_plain q (e ∷ es) each =
    ap (λ b. cond b (Some (plain_entry e)) (find q (all_plain es))) (each e)
    ∙ elim (q e) as (λ b. cond b (Some (plain_entry e)) (find q (all_plain es)) ≡ option_map plain_entry (cond b (Some e) (find q es))) [ true ↦ refl | false ↦ found_plain q es each ]

plain_append : (es fs : Pods) → all_plain (es ++ fs) ≡ all_plain es ++ all_plain fs
plain_append [] fs = refl
plain_append (e ∷ es) fs = ap (λ rest. plain_entry e ∷ rest) (plain_append es fs)

plain_reverse : (es : Pods) → reverse (all_plain es) ≡ all_plain (reverse es)
plain_reverse [] = refl
plain_reverse (e ∷ es) =
    reverse-append (plain_entry e ∷ []) (all_plain es)
    ∙ (ap (λ rest. rest ++ plain_entry e ∷ []) (plain_reverse es)
    ∙ (sym (plain_append (reverse es) (e ∷ [])) ∙ sym (ap all_plain (reverse-append (e ∷ []) es))))

flat_plain : (g : ℕ × Replica → List Step) (es : Pods) → ((e : ℕ × Replica) → g (plain_entry e) ≡ g e) → flat_map g (all_plain es) ≡ flat_map g es
flat_plain g [] each = refl
flat_plain g (e ∷ es) each = λ j. each e j ++ flat_plain g es each j

pub none_plain : (here : Option Replica) → option_map plain here ≡ None → here ≡ None
none_plain None is = refl
none_plain (Some pod) is = absurd (cc)

pub some_plain : (here : Option Replica) (y : Replica) → option_map plain here ≡ Some y → (pod : Replica) × (here ≡ Some pod) × (plain pod ≡ y)
some_plain None y is = absurd (cc)
some_plain (Some pod) y is = (pod, refl, (cc))

pub asked_plain : (g : Replica → Bool) (here : Option Replica) → ((pod : Replica) → g (plain pod) ≡ g pod) → option_map_or g (option_map plain here) false ≡ option_map_or g here false
asked_plain g None each = refl
asked_plain g (Some pod) each = each pod

module _ (set : SetParts) where
  gap_plain : (i : ℕ) (here : Option Replica) → gap_steps set i (option_map plain here) ≡ gap_steps set i here
  gap_plain i None = refl
  gap_plain i (Some pod) = refl

  replacement_plain : (i : ℕ) (here : Option Replica) → replacement_steps i (option_map plain here) ≡ replacement_steps i here
  replacement_plain i None = refl
  replacement_plain i (Some pod) = refl

  target_plain : (i : ℕ) (here : Option Replica) → target_steps set i (option_map plain here) ≡ target_steps set i here
  target_plain i None = refl
  target_plain i (Some pod) = refl

  removal_plain : (highest : ℕ × Replica) (other : Option (ℕ × Replica)) → removal_steps_unless (plain_entry highest) (option_map plain_entry other) ≡ removal_steps_unless highest other
  removal_plain highest None = refl
  removal_plain highest (Some other) = refl

  pub healthy_plain : (pods : Pods) (i : ℕ) → has_healthy_pod (all_plain pods) i ≡ has_healthy_pod pods i
  healthy_plain pods i =
      let g : Replica → Bool = λ pod. is_healthy pod.readiness pod.terminating in
      ap (λ here. option_map_or g here false) (at_plain pods i) ∙ asked_plain g (pod_at pods i) (λ pod. refl)

  lacks_plain : (pods : Pods) → lacks_healthy (all_plain pods) ≡ lacks_healthy pods
  lacks_plain pods = λ j i. not (healthy_plain pods i j)

  due_plain : (partition : ℕ) (pods : Pods) → is_due partition (all_plain pods) ≡ is_due partition pods
  due_plain partition pods =
      let g : Replica → Bool = λ pod. not (is_settled pod) in
      λ j i. nat_le partition i && (ap (λ here. option_map_or g here false) (at_plain pods i) ∙ asked_plain g (pod_at pods i) (λ pod. refl)) j

  rolling_plain : (pods : Pods) (due : Option ℕ) → rolling_update_steps (all_plain pods) due ≡ rolling_update_steps pods due
  rolling_plain pods None = refl
  rolling_plain pods (Some i) = ap (replacement_steps i) (at_plain pods i) ∙ replacement_plain i (pod_at pods i)

  updates_plain : (pods : Pods) (strategy : Strategy) → update_steps_by strategy set (all_plain pods) ≡ update_steps_by strategy set pods
  updates_plain pods (RollingUpdate partition) =
      ap (λ q. rolling_update_steps (all_plain pods) (find q (reverse (ordinals set)))) (due_plain partition pods) ∙ rolling_plain pods (find (is_due partition pods) (reverse (ordinals set)))
  updates_plain pods OnDelete = refl

  update_plain : (pods : Pods) → update_steps set (all_plain pods) ≡ update_steps set pods
  unfolding update_steps
  update_plain pods = updates_plain pods set.strategy

  scaled_plain : (pods : Pods) (highest : ℕ × Replica) → scale_down_steps set (all_plain pods) (plain_entry highest) ≡ scale_down_steps set pods highest
  scaled_plain pods highest =
      ap (λ other. if highest.1.terminating then wait_for highest.0 highest.1 ∷ [] else removal_steps_unless (plain_entry highest) other) (found_plain (is_other_unhealthy set highest.0) pods (λ e. refl))
      ∙ ap (λ steps. if highest.1.terminating then wait_for highest.0 highest.1 ∷ [] else steps) (removal_plain highest (find (is_other_unhealthy set highest.0) pods))

  down_plain : (pods : Pods) (highest : Option (ℕ × Replica)) → scale_down_or_update_steps set (all_plain pods) (option_map plain_entry highest) ≡ scale_down_or_update_steps set pods highest
  down_plain pods None = update_plain pods
  down_plain pods (Some highest) = scaled_plain pods highest

  highest_plain : (pods : Pods) → find (is_out_of_range set) (reverse (all_plain pods)) ≡ option_map plain_entry (find (is_out_of_range set) (reverse pods))
  highest_plain pods = ap (find (is_out_of_range set)) (plain_reverse pods) ∙ found_plain (is_out_of_range set) (reverse pods) (λ e. refl)

  in_turn_plain : (pods : Pods) (least : Option ℕ) → ordered_ready_steps_at set (all_plain pods) least ≡ ordered_ready_steps_at set pods least
  in_turn_plain pods (Some i) = ap (λ steps. flat_map keep_steps (range_with_len set.start (i - set.start)) ++ steps) (ap (gap_steps set i) (at_plain pods i) ∙ gap_plain i (pod_at pods i))
  in_turn_plain pods None =
      ap (λ steps. flat_map keep_steps (ordinals set) ++ steps)
      (ap (scale_down_or_update_steps set (all_plain pods)) (highest_plain pods) ∙ down_plain pods (find (is_out_of_range set) (reverse pods)))

  scaling_plain : (pods : Pods) → parallel_scaling_steps set (all_plain pods) ≡ parallel_scaling_steps set pods
  unfolding parallel_scaling_steps
  scaling_plain pods =
      let targets : (λ (i : ℕ). target_steps set i (pod_at (all_plain pods) i)) ≡ (λ (i : ℕ). target_steps set i (pod_at pods i)) =
      λ j i. (ap (target_steps set i) (at_plain pods i) ∙ target_plain i (pod_at pods i)) j in
      let gone : flat_map (condemned_steps set) (reverse (all_plain pods)) ≡ flat_map (condemned_steps set) (reverse pods) =
      ap (flat_map (condemned_steps set)) (plain_reverse pods) ∙ flat_plain (condemned_steps set) (reverse pods) (λ e. refl) in
      λ j. flat_map (targets j) (ordinals set) ++ gone j

  by_policy : (pods : Pods) (policy : Policy) → full_steps_by policy set (all_plain pods) ≡ full_steps_by policy set pods
  by_policy pods OrderedReady =
      ap (λ q. ordered_ready_steps_at set (all_plain pods) (find q (ordinals set))) (lacks_plain pods) ∙ in_turn_plain pods (find (lacks_healthy pods) (ordinals set))
  by_policy pods Parallel = λ j. scaling_plain pods j ++ (if list_any is_of_pod (scaling_plain pods j) then [] else update_plain pods j)

  pub steps_plain : (pods : Pods) → full_steps set (all_plain pods) ≡ full_steps set pods
  steps_plain pods = by_policy pods set.policy

-- ---- the spec alone
module _ (set now : SetParts) where
  abbrev respecified : SetParts
  respecified = record now { start = set.start; replicas = set.replicas; policy = set.policy; strategy = set.strategy }

  same_gap : (i : ℕ) (here : Option Replica) → gap_steps respecified i here ≡ gap_steps set i here
  same_gap i None = refl
  same_gap i (Some pod) = refl

  same_target : (i : ℕ) (here : Option Replica) → target_steps respecified i here ≡ target_steps set i here
  same_target i None = refl
  same_target i (Some pod) = refl

  same_updates : (pods : Pods) (strategy : Strategy) → update_steps_by strategy respecified pods ≡ update_steps_by strategy set pods
  same_updates pods (RollingUpdate partition) = refl
  same_updates pods OnDelete = refl

  same_update : (pods : Pods) → update_steps respecified pods ≡ update_steps set pods
  unfolding update_steps
  same_update pods = same_updates pods set.strategy

  same_down : (pods : Pods) (highest : Option (ℕ × Replica)) → scale_down_or_update_steps respecified pods highest ≡ scale_down_or_update_steps set pods highest
  same_down pods None = same_update pods
  same_down pods (Some highest) = refl

  same_in_turn : (pods : Pods) (least : Option ℕ) → ordered_ready_steps_at respecified pods least ≡ ordered_ready_steps_at set pods least
  same_in_turn pods (Some i) = ap (λ steps. flat_map keep_steps (range_with_len set.start (i - set.start)) ++ steps) (same_gap i (pod_at pods i))
  same_in_turn pods None = ap (λ steps. flat_map keep_steps (ordinals set) ++ steps) (same_down pods (find (is_out_of_range set) (reverse pods)))

  same_scaling : (pods : Pods) → parallel_scaling_steps respecified pods ≡ parallel_scaling_steps set pods
  unfolding parallel_scaling_steps
  same_scaling pods = λ j. flat_map (λ i. same_target i (pod_at pods i) j) (ordinals set) ++ flat_map (condemned_steps set) (reverse pods)

  same_by : (pods : Pods) (policy : Policy) → full_steps_by policy respecified pods ≡ full_steps_by policy set pods
  same_by pods OrderedReady = same_in_turn pods (find (lacks_healthy pods) (ordinals set))
  same_by pods Parallel = λ j. same_scaling pods j ++ (if list_any is_of_pod (same_scaling pods j) then [] else same_update pods j)

  pub steps_alike : (pods : Pods) → IsAlike set now → full_steps now pods ≡ full_steps set pods
  steps_alike pods a =
      (λ j. full_steps (record now { start = a.start j; replicas = a.replicas j; policy = a.policy j; strategy = a.strategy j }) pods) ∙ same_by pods set.policy
