use Rattle.std.proofs.Common.{sym, ◌∙◌}
use Rattle.plain_store.proofs.Denials.{readable}
use Rattle.order_check.proofs.recorded.is_listed_at.Goals as goal

pub list_at-requires : goal.list_at-requires
list_at-requires c = readable c.args.store.now.floor c.args.store.now.counter c.args.number (sym c.denied.ensures ∙ c.in-None.is)
