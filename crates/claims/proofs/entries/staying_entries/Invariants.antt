use Rattle.std.proofs.Common.{◌≡◌, map, filter, take}
use Rattle.objects.specs.Tree.{data_of}
use Rattle.set_views.specs.Set.{set_parts}
use Rattle.claims.specs.Owners.{stays}
use Rattle.claims.proofs.entries.staying_entries.Given as goal

abbrev pub invariant-loop-entry : goal.invariant-loop-entry
invariant-loop-entry l = map data_of l.kept.items ≡ filter (stays (set_parts l.set) l.pod l.owner) (map data_of (take l.entry-index l.entries))
