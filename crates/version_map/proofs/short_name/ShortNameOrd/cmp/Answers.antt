use Rattle.std.proofs.Common.{sym, ◌∙◌}
use Rattle.version_map.proofs.ShortNames.{order_of}
use Rattle.version_map.proofs.short_name.ShortNameOrd.cmp.Goals as goal

pub returns : goal.returns
returns c = c.order.ensures
    ∙ sym (order_of c.self.inside.bytes c.other.inside.bytes c.args.self.now c.args.other.now (sym c.self.view_is) (sym c.other.view_is) c.self.invariant c.other.invariant)
