use Rattle.std.proofs.Common.{[], map, ap, ◌∙◌}
use Rattle.set_views.specs.Pod.{pod_parts}
use Rattle.set_views.specs.Set.{set_parts}
use Rattle.pod_steps.specs.Listed.{by_ordinal}
use Rattle.reasons.proofs.Grounds.{same_pods}
use Rattle.reasons.proofs.why.pods_in.Goals as goal

pub returns : goal.returns
returns c =
    let set = set_parts c.args.set.now in
    same_pods set c.args.update.now c.args.pods.now c.in_ok-views.views.items c.in_ok-found.found.entries c.in_ok-views.ensures
    (c.in_ok-found.ensures ∙ ap (λ l. by_ordinal set c.args.update.now [] (map pod_parts l)) c.deref.ensures.value)
