use Rattle.std.proofs.Common.{ap, ◌∙◌}
use Rattle.std.specs.Option.{option_or}
use Rattle.std.proofs.lemmas.Result.{IfOk-weaker}
use Rattle.version_map.specs.Named.{at_name}
use Rattle.version_map.proofs.Added.{nothing, or_none, values_by, values_texts}
use Rattle.version_map.proofs.names.Names.slots.Goals as goal

pub returns : goal.returns
returns c =
    let all = c.add_to.new.all in
    IfOk-weaker c.slots_in-2.result _ _ (λ v are. values_by v.items _ _ (λ word.
    c.in_ok-add_to.ensures word ∙ ap (option_or (at_name c.args.self.now word)) (nothing c.new-all.result c.new-all.ensures.empty word) ∙ or_none (at_name c.args.self.now word))
    (values_texts all v.items c.slots_in-2.ensures.ordered are)) c.slots_in-2.ensures.slots
