use Rattle.std.proofs.Common.{◌≡◌, ◌++◌, drop, not}
use Rattle.std.specs.List.{filter}
use Rattle.revisions.specs.Listing.{has_name}
use Rattle.revisions.specs.Plan.{objects_of}
use Rattle.revisions.proofs.history.others.Given as goal

abbrev pub invariant-loop-revision : goal.invariant-loop-revision
invariant-loop-revision l =
    filter (λ o. not (has_name o.key.name l.names.keys)) (objects_of l.owned)
    ≡ objects_of l.others.items ++ filter (λ o. not (has_name o.key.name l.names.keys)) (objects_of (drop l.revision-index l.owned))
