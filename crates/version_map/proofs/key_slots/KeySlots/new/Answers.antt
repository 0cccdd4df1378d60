use Rattle.version_map.proofs.Named.{none_slotted}
use Rattle.version_map.proofs.key_slots.KeySlots.new.Goals as goal

pub returns : goal.returns
returns c = none_slotted c.new.result c.new-2.result c.new-3.result c.new-4.result c.new.ensures.empty c.new-2.ensures.empty c.new-3.ensures.empty c.new-4.ensures.empty
