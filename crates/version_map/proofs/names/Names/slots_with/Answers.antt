use Rattle.std.proofs.Common.{ap, ◌∙◌}
use Rattle.std.specs.Option.{option_or}
use Rattle.std.proofs.lemmas.Result.{IfOk-weaker}
use Rattle.version_map.specs.Named.{at_name}
use Rattle.version_map.proofs.Added.{nothing, or_none, values_by, values_texts}
use Rattle.version_map.proofs.names.Names.slots_with.Goals as goal

pub returns : goal.returns
returns c =
    let own = at_name c.args.self.now in
    let more = at_name c.args.more.now in
    IfOk-weaker c.slots_in.result _ _ (λ v are. values_by v.items _ _ (λ word.
    c.in_ok-add_to-2.ensures word ∙ ap (option_or (own word)) (c.in_ok-add_to.ensures word ∙ ap (option_or (more word)) (nothing c.new-all.result c.new-all.ensures.empty word) ∙ or_none (more word)))
    (values_texts c.add_to-2.new.all v.items c.slots_in.ensures.ordered are)) c.slots_in.ensures.slots
