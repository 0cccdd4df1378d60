use Rattle.std.proofs.Common.{ap, ◌∙◌}
use Rattle.std.specs.FinMap.{empty}
use Rattle.version_map.specs.Index.{index_with}
use Rattle.version_map.proofs.Tombstones.{index_at, none_both}
use Rattle.version_map.proofs.index.Index.new.Goals as goal

pub returns : goal.returns
returns c =
    ap (λ l. index_with l c.new-2.result) c.new.ensures ∙ ap (index_with empty) c.new-2.ensures ∙ ap (λ all. index_at all empty) none_both
