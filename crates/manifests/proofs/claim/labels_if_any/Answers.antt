use Rattle.std.proofs.Common.{sym, ◌∙◌}
use Rattle.manifests.proofs.ItemLists.{labels_stand}
use Rattle.manifests.proofs.claim.labels_if_any.Goals as goal

pub returns : goal.returns
returns c = labels_stand c.entries.result.now c.args.labels c.entries.ensures.all (sym c.is_empty.ensures ∙ c.if-is_empty.false)
