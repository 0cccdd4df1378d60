use Rattle.std.specs.Prelude.{pos}
use Rattle.commands.proofs.Ranges.{narrowed_to}
use Rattle.commands.proofs.options.from_1_to_1000000.Goals as goal

pub returns : goal.returns
returns c = narrowed_to _ _ _ _ (pos 1) (pos 1000000) c.value_parser.ensures c.new.ensures.start c.new.ensures.end c.range.ensures
