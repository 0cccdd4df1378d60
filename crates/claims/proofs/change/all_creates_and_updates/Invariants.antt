use Rattle.std.proofs.Common.{◌≡◌, ◌≤◌, length, take}
use Rattle.set_views.specs.Set.{set_parts}
use Rattle.claims.specs.Changes.{all_creates_and_updates}
use Rattle.claims.specs.Listed.{claim_named}
use Rattle.claims.proofs.change.all_creates_and_updates.Given as goal

abbrev pub invariant-loop-template : goal.invariant-loop-template
invariant-loop-template l =
    (l.changes.items ≡ all_creates_and_updates (set_parts l.set) (claim_named l.listed) l.ordinal (take l.template-index l.set.claims.items)) × (length l.changes.items ≤ l.most)
