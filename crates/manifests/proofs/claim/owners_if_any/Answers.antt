use Rattle.std.proofs.Common.{sym, ◌∙◌}
use Rattle.manifests.proofs.ItemLists.{owners_stand}
use Rattle.manifests.proofs.claim.owners_if_any.Goals as goal

pub returns : goal.returns
returns c = owners_stand c.as_slice.result.now c.args.owners c.as_slice.ensures (sym c.is_empty.ensures ∙ c.if-is_empty.false)
