use Rattle.std.proofs.Common.{◌<◌, false, length, ap, ◌∙◌, arith}
use Rattle.std.specs.Prelude.{◌&&◌, ◌||◌, bytes_eq}
use Rattle.std.specs.Option.{option_map_or}
use Rattle.set_views.specs.Pod.{pod_parts}
use Rattle.set_views.specs.Set.{set_parts}
use Rattle.set_views.specs.Predicates.{owns_pod}
use Rattle.revisions.proofs.Histories.{any_more, two_names}
use Rattle.revisions.proofs.history.live_names.Goals as goal

pub loop-pod-init : goal.loop-pod-init
loop-pod-init c = λ q. two_names q c.args.current c.args.update _ _ _ c.new-names.ensures.empty c.in_ok-insert.ensures.keys c.in_ok-insert-2.ensures.keys

pub loop-pod-preserved : goal.loop-pod-preserved
loop-pod-preserved c = λ q.
    let inside : c.loop-pod.pod-index < length c.args.pods.now = omega arith in
    let set = set_parts c.args.set.now in
    let pod = c.pod-item.result in
    let rest = bytes_eq q c.args.update.now || bytes_eq q c.args.current.now in
    c.in_ok-take_name.ensures q ∙ (ap (λ b. (owns_pod set (pod_parts pod) && option_map_or (bytes_eq q) (pod_parts pod).revision false) || b) (c.loop-pod.invariant q)
    ∙ any_more (λ p. owns_pod set p && option_map_or (bytes_eq q) p.revision false) c.args.pods.now c.loop-pod.pod-index pod rest inside c.pod-item.is)
