use Rattle.std.proofs.Common.{◌≡◌, map, take}
use Rattle.objects.specs.Tree.{data_of}
use Rattle.set_views.specs.Set.{set_parts}
use Rattle.manifests.specs.Volumes.{volume_of}
use Rattle.manifests.proofs.volumes.claim_volumes.Given as goal

abbrev pub invariant-loop-name : goal.invariant-loop-name
invariant-loop-name l = map data_of l.volumes.items ≡ map (volume_of (set_parts l.set) l.ordinal) (take l.name-index l.set.claims.items)
