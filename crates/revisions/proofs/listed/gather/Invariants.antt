use Rattle.std.proofs.Common.{◌≡◌, take}
use Rattle.set_views.specs.Set.{set_parts}
use Rattle.revisions.specs.Listing.{HoldsNames}
use Rattle.revisions.specs.Plan.{objects_of}
use Rattle.revisions.specs.Revision.{listed, owned_among}
use Rattle.revisions.proofs.listed.gather.Given as goal

abbrev pub invariant-loop-object : goal.invariant-loop-object
invariant-loop-object l =
    HoldsNames l.found.names.keys (listed (set_parts l.set) (take l.object-index l.objects))
    × (objects_of l.found.owned.items ≡ owned_among (set_parts l.set) (take l.object-index l.objects))
