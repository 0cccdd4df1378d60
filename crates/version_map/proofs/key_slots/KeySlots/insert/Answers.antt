use Rattle.std.proofs.Common.{Some, refl}
use Rattle.version_map.proofs.NewNames.{on_error, on_ok, slotted_as_before, slotted_now}
use Rattle.version_map.proofs.key_slots.KeySlots.insert.Goals as goal

pub returns-clause-ok : goal.returns-clause-ok
returns-clause-ok c = on_ok c.insert_name.result (slotted_now c.self.inside.kinds _ c.index_of.result c.index-self-index_of.result c.insert_name.new.namespaces c.self.view_is c.self.invariant c.index_of.ensures.within
    _ c.key.inside.kind c.key.inside.namespace c.key.inside.name _ _ (Some c.args.slot) c.key.view_is c.index_of.ensures.index refl refl) c.insert_name.ensures.ok

pub returns-clause-err : goal.returns-clause-err
returns-clause-err c = on_error c.insert_name.result (slotted_as_before c.self.inside.kinds _ c.index_of.result c.index-self-index_of.result c.insert_name.new.namespaces c.self.view_is c.self.invariant c.index_of.ensures.within) c.insert_name.ensures.err
