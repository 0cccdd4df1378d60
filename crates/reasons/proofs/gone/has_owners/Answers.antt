use Rattle.std.proofs.Common.{ap, ◌∙◌}
use Rattle.collector.specs.Collectable.{has_items}
use Rattle.reasons.proofs.Losses.{has_items-is}
use Rattle.reasons.proofs.gone.has_owners.Goals as goal

pub returns : goal.returns
returns c = has_items-is c.owners-owners.result.now c.is_empty.result c.is_empty.ensures ∙ ap has_items c.owners-owners.ensures.items
