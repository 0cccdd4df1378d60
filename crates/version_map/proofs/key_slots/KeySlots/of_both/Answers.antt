use Rattle.std.proofs.Common.{sym, ◌∙◌}
use Rattle.std.proofs.lemmas.Result.{IfOk-weaker}
use Rattle.version_map.proofs.Collections.{both_collected, first_alone, second_alone}
use Rattle.version_map.proofs.key_slots.KeySlots.of_both.Goals as goal

pub returns-in_default : goal.returns-in_default
returns-in_default c = IfOk-weaker c.of.result _ _ (λ v are. are ∙ first_alone c.args.self.now c.args.kind c.args.namespace.now c.args.others.now c.in_default.ensures) c.of.ensures

pub returns-in-Some-names : goal.returns-in-Some-names
returns-in-Some-names c = IfOk-weaker c.slots_with.result _ _ (λ v are.
    sym (both_collected c.args.self.now c.args.kind c.args.namespace.now c.args.others.now c.in-Some-names.names.now c.in-Some.more.now v.items c.in-Some-names.ensures c.in-Some.ensures are)) c.slots_with.ensures

pub returns-in-None : goal.returns-in-None
returns-in-None c = IfOk-weaker c.slots.result _ _ (λ v are.
    sym (second_alone c.args.self.now c.args.kind c.args.namespace.now c.args.others.now c.in-Some.more.now v.items c.in-None.ensures c.in-Some.ensures are)) c.slots.ensures
