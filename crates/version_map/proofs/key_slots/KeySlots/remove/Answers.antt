use Rattle.std.proofs.Common.{None, refl}
use Rattle.version_map.proofs.NewNames.{slotted_now}
use Rattle.version_map.proofs.key_slots.KeySlots.remove.Goals as goal

pub returns : goal.returns
returns c = slotted_now c.self.inside.kinds _ c.index_of.result c.index-self-index_of.result c.remove_name.new.namespaces c.self.view_is c.self.invariant c.index_of.ensures.within
    _ c.key.inside.kind c.key.inside.namespace c.key.inside.name _ _ None c.key.view_is c.index_of.ensures.index refl refl c.remove_name.ensures
