use Rattle.std.proofs.Common.{◌≡◌, ◌++◌, map, take}
use Rattle.objects.specs.Tree.{data_of}
use Rattle.set_views.specs.Set.{set_parts}
use Rattle.manifests.specs.Volumes.{volume_of}
use Rattle.manifests.proofs.volumes.volumes_with.Given as goal

abbrev pub invariant-loop-volume : goal.invariant-loop-volume
invariant-loop-volume l = map data_of l.volumes.items ≡ map (volume_of (set_parts l.set) l.ordinal) l.set.claims.items ++ map data_of (take l.volume-index l.others)
