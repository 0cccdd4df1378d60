use Rattle.std.proofs.Common.{◌≡◌, ℕ, List, map, take}
use Rattle.set_views.specs.Pod.{pod_parts}
use Rattle.set_views.specs.Set.{set_parts}
use Rattle.revisions.specs.History.{is_live}
use Rattle.revisions.specs.Listing.{has_name}
use Rattle.revisions.proofs.history.live_names.Given as goal

abbrev pub invariant-loop-pod : goal.invariant-loop-pod
invariant-loop-pod l = (q : List ℕ) → has_name q l.names.keys ≡ is_live (set_parts l.set) (map pod_parts (take l.pod-index l.pods)) l.current l.update q
