use Rattle.std.proofs.Common.{ap, ◌∙◌}
use Rattle.std.specs.Option.{option_or}
use Rattle.version_map.specs.Named.{at_text, slot_at_text}
use Rattle.version_map.proofs.Apart.{beside}
use Rattle.version_map.proofs.NewNames.{on_ok}
use Rattle.version_map.proofs.names.Names.add_to.Goals as goal

pub returns : goal.returns
returns c = on_ok c.add_short.result (λ added word.
    added word ∙ ap (option_or (at_text c.self.inside.short word)) (c.in_ok-add_long.ensures word)
    ∙ beside c.self.inside.short c.self.inside.long c.args.self.now c.self.view_is word (slot_at_text c.args.all.now word)) c.add_short.ensures
