use Rattle.std.proofs.Common.{◌≡◌, map, filter, take, not}
use Rattle.objects.specs.Tree.{data_of}
use Rattle.set_views.specs.Set.{set_parts}
use Rattle.manifests.specs.Volumes.{is_replaced}
use Rattle.manifests.proofs.volumes.volumes_not_replaced.Given as goal

abbrev pub invariant-loop-volume : goal.invariant-loop-volume
invariant-loop-volume l = map data_of l.others.items ≡ filter (λ d. not (is_replaced (set_parts l.set) d)) (map data_of (take l.volume-index l.given))
