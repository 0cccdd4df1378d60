use Rattle.std.proofs.Common.{◌≡◌, List, ◌++◌, map}
use Rattle.std.specs.Iterator.Adapters.{rev_source}
use Rattle.std.specs.Slice.Iter.{iter_rest}
use Rattle.set_views.specs.declared.pod.PodView.{PodView}
use Rattle.set_views.specs.Pod.{pod_parts}
use Rattle.set_views.specs.Set.{set_parts}
use Rattle.pod_steps.specs.Listed.{by_ordinal}
use Rattle.pod_steps.proofs.listing.by_ordinal.Given as goal

abbrev pub invariant-loop-pod : goal.invariant-loop-pod
invariant-loop-pod l = (done : List PodView) × (iter_rest (rev_source l.pod-iterator) ++ done ≡ l.listed) × (l.pods.entries ≡ by_ordinal (set_parts l.set) l.update l.current (map pod_parts done))
