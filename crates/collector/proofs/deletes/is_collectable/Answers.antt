use Rattle.std.proofs.Common.{◌≡◌, ◌∙◌, true, ap, sym}
use Rattle.collector.specs.Collectable.{has_items}
use Rattle.collector.proofs.Gone.{has_items-some}
use Rattle.collector.proofs.deletes.is_collectable.Goals as goal

pub returns-then-not-is_empty : goal.returns-then-not-is_empty
returns-then-not-is_empty c =
    let some : has_items _ ≡ true = ap has_items (sym c.owners-owners.ensures.items) ∙ has_items-some _ (sym c.is_empty.ensures ∙ c.if-not-is_empty.true) in
    rw some (rw (← c.owners-owners.ensures.items) c.are_gone.ensures)
