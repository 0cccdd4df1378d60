use Rattle.std.proofs.Common.{refl}
use Rattle.std.specs.Option.{option_copied}
use Rattle.version_map.proofs.Collections.{names_read}
use Rattle.version_map.proofs.key_slots.KeySlots.names.Goals as goal

pub returns : goal.returns
returns c = names_read c.self.inside.kinds _ c.index_of.result c.index-self-index_of.result c.self.view_is c.self.invariant c.index_of.ensures.within
    c.args.kind c.args.namespace.now _ c.index_of.ensures.index refl (option_copied c.get.result) c.get.ensures.value
