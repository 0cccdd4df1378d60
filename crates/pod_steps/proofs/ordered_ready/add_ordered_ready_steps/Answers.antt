use Rattle.std.proofs.Common.{◌≡◌, ℕ, ◌+◌, ◌-◌, Option, Some, None, List, find, reverse, sym, subst, arith}
use Rattle.std.proofs.lemmas.Result.{on_ok_weaker}
use Rattle.std.specs.List.{flat_map, range_with_len}
use Rattle.pod_steps.specs.declared.step.Step.{Step}
use Rattle.pod_steps.specs.declared.replica.Replica.{Replica}
use Rattle.set_views.specs.Set.{SetParts, set_parts}
use Rattle.pod_steps.specs.Step.{Adds}
use Rattle.pod_steps.specs.FullSteps.{keep_steps, ordered_ready_steps_at, gap_steps, scale_down_or_update_steps}
use Rattle.pod_steps.specs.Replicas.{Pods, is_out_of_range, lacks_healthy, pod_at}
use Rattle.pod_steps.proofs.Truncation.{adds_more}
use Rattle.pod_steps.proofs.Found.{found_from}
use Rattle.pod_steps.proofs.ordered_ready.add_ordered_ready_steps.Goals as goal

pub keep_below-requires : goal.keep_below-requires
keep_below-requires c = found_from (lacks_healthy c.args.pods.now.entries) (set_parts c.args.set.now).start (set_parts c.args.set.now).replicas c.in-Some.ordinal (sym c.in-Some.ensures)

-- the walk ends at a gap
at_gap : (set : SetParts) (pods : Pods) (i : ℕ) (gap : Option ℕ) (xs ys zs : List Step) → Some i ≡ gap → Adds xs ys (flat_map keep_steps (range_with_len set.start (i - set.start))) → Adds ys zs (gap_steps set i (pod_at pods i)) → Adds xs zs (ordered_ready_steps_at set pods gap)
at_gap set pods i gap xs ys zs found claims last =
    let P : Option ℕ → Type 0 = λ g. Adds xs zs (ordered_ready_steps_at set pods g) in
    subst P found (adds_more xs ys zs _ _ claims last)

-- or there is none, and it continues with the highest condemned pod or the update
past_all : (set : SetParts) (pods : Pods) (end : ℕ) (gap : Option ℕ) (highest : Option (ℕ × Replica)) (xs ys zs : List Step) → None ≡ gap → end ≡ set.start + set.replicas → highest ≡ find (is_out_of_range set) (reverse pods) → Adds xs ys (flat_map keep_steps (range_with_len set.start (end - set.start))) → Adds ys zs (scale_down_or_update_steps set pods highest) → Adds xs zs (ordered_ready_steps_at set pods gap)
past_all set pods end gap highest xs ys zs none at_end same claims last =
    let all : end - set.start ≡ set.replicas = omega arith in
    let P : Option ℕ → Type 0 = λ g. Adds xs zs (ordered_ready_steps_at set pods g) in
    let C : ℕ → Type 0 = λ n. Adds xs ys (flat_map keep_steps (range_with_len set.start n)) in
    let L : Option (ℕ × Replica) → Type 0 = λ h. Adds ys zs (scale_down_or_update_steps set pods h) in
    subst P none (adds_more xs ys zs _ _ (subst C all claims) (subst L same last))

pub returns-in_ok-keep_below-in-Some : goal.returns-in_ok-keep_below-in-Some
returns-in_ok-keep_below-in-Some c =
    on_ok_weaker c.close_gap.result (at_gap (set_parts c.args.set.now) c.args.pods.now.entries c.in-Some.ordinal _ _ _ _ c.in-Some.ensures c.in_ok-keep_below-in-Some.ensures) c.close_gap.ensures

pub returns-in-Some-highest_condemned : goal.returns-in-Some-highest_condemned
returns-in-Some-highest_condemned c =
    on_ok_weaker c.scale_down.result (past_all (set_parts c.args.set.now) c.args.pods.now.entries c.end_of.result _ (Some (c.in-Some-highest_condemned.ordinal.now, c.in-Some-highest_condemned.pod.now)) _ _ _ c.in-None.ensures c.end_of.ensures c.in-Some-highest_condemned.ensures c.in_ok-keep_below-in-None.ensures) c.scale_down.ensures

pub returns-in-None-highest_condemned : goal.returns-in-None-highest_condemned
returns-in-None-highest_condemned c =
    on_ok_weaker c.update.result (past_all (set_parts c.args.set.now) c.args.pods.now.entries c.end_of.result _ None _ _ _ c.in-None.ensures c.end_of.ensures c.in-None-highest_condemned.ensures c.in_ok-keep_below-in-None.ensures) c.update.ensures
