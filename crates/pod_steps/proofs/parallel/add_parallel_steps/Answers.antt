use Rattle.std.proofs.Common.{◌≡◌, ◌+◌, ◌≤◌, true, false, List, [], ◌++◌, length, if◌then◌else◌, sym, ap, ◌∙◌, subst}
use Rattle.std.proofs.lemmas.List.{append-nil}
use Rattle.std.proofs.lemmas.Result.{on_ok_weaker}
use Rattle.std.specs.List.{list_any}
use Rattle.pod_steps.specs.declared.step.Step.{Step}
use Rattle.set_views.specs.Set.{SetParts, set_parts}
use Rattle.pod_steps.specs.Step.{Adds, is_of_pod, pod_steps}
use Rattle.pod_steps.specs.FullSteps.{parallel_steps, parallel_scaling_steps, update_steps}
use Rattle.pod_steps.specs.Replicas.{Pods}
use Rattle.pod_steps.proofs.Truncation.{adds_more, adds_past, room_left, nothing_truncated}
use Rattle.pod_steps.proofs.parallel.add_parallel_steps.Goals as goal

-- nothing was truncated, and a pod is created or deleted
touched : (set : SetParts) (pods : Pods) (xs ys : List Step) → xs ≡ [] → Adds xs ys (parallel_scaling_steps set pods) → length (pod_steps ys) + 1 ≤ 1024 → list_any is_of_pod ys ≡ true → Adds xs ys (parallel_steps set pods)
touched set pods xs ys none adds room touches =
    let whole : ys ≡ parallel_scaling_steps set pods = nothing_truncated ys _ (subst (λ (l : List Step). Adds l ys (parallel_scaling_steps set pods)) none adds) room in
    let test : list_any is_of_pod (parallel_scaling_steps set pods) ≡ true = ap (list_any is_of_pod) (sym whole) ∙ touches in
    let P : List Step → Type 0 = λ l. Adds xs ys l in
    subst P (sym (ap (λ b. parallel_scaling_steps set pods ++ (if b then [] else update_steps set pods)) test ∙ append-nil (parallel_scaling_steps set pods))) adds

-- or none is
untouched : (set : SetParts) (pods : Pods) (xs ys zs : List Step) → xs ≡ [] → Adds xs ys (parallel_scaling_steps set pods) → length (pod_steps ys) + 1 ≤ 1024 → list_any is_of_pod ys ≡ false → Adds ys zs (update_steps set pods) → Adds xs zs (parallel_steps set pods)
untouched set pods xs ys zs none adds room touches updates =
    let whole : ys ≡ parallel_scaling_steps set pods = nothing_truncated ys _ (subst (λ (l : List Step). Adds l ys (parallel_scaling_steps set pods)) none adds) room in
    let test : list_any is_of_pod (parallel_scaling_steps set pods) ≡ false = ap (list_any is_of_pod) (sym whole) ∙ touches in
    let P : List Step → Type 0 = λ l. Adds xs zs l in
    subst P (sym (ap (λ b. parallel_scaling_steps set pods ++ (if b then [] else update_steps set pods)) test)) (adds_more xs ys zs _ _ adds updates)

pub returns-then-is_full : goal.returns-then-is_full
returns-then-is_full c = adds_past c.args.steps.now.list.items c.scale.new.steps.list.items (parallel_scaling_steps (set_parts c.args.set.now) c.args.pods.now.entries) (if list_any is_of_pod (parallel_scaling_steps (set_parts c.args.set.now) c.args.pods.now.entries) then [] else update_steps (set_parts c.args.set.now) c.args.pods.now.entries) c.in_ok-scale.ensures (c.is_full.ensures.0 c.if-is_full.true)

pub returns-then-has_pod_step : goal.returns-then-has_pod_step
returns-then-has_pod_step c = touched (set_parts c.args.set.now) c.args.pods.now.entries _ _ c.requires c.in_ok-scale.ensures (room_left _ _ c.is_full.ensures c.if-is_full.false) (sym c.has_pod_step.ensures ∙ c.if-has_pod_step.true)

pub returns : goal.returns
returns c = on_ok_weaker c.update.result (untouched (set_parts c.args.set.now) c.args.pods.now.entries _ _ _ c.requires c.in_ok-scale.ensures (room_left _ _ c.is_full.ensures c.if-is_full.false) (sym c.has_pod_step.ensures ∙ c.if-has_pod_step.false)) c.update.ensures
