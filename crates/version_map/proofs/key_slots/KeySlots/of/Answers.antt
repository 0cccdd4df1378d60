use Rattle.std.proofs.Common.{sym, ◌∙◌}
use Rattle.std.proofs.lemmas.Result.{IfOk-weaker}
use Rattle.version_map.proofs.Collections.{collection_of, none_collected}
use Rattle.version_map.proofs.key_slots.KeySlots.of.Goals as goal

pub returns-in-Some : goal.returns-in-Some
returns-in-Some c = IfOk-weaker c.slots.result _ _ (λ v are.
    sym (collection_of c.args.self.now c.args.kind c.args.namespace.now c.in-Some.names.now v.items c.in-Some.ensures are)) c.slots.ensures

pub returns-in-None : goal.returns-in-None
returns-in-None c = c.new.ensures.items ∙ sym (none_collected c.args.self.now c.args.kind c.args.namespace.now c.in-None.ensures)
