use Rattle.std.proofs.Common.{ap, ◌∙◌}
use Rattle.version_map.specs.Index.{index_with, with_key}
use Rattle.version_map.proofs.Tombstones.{index_put}
use Rattle.version_map.proofs.NewNames.{on_ok}
use Rattle.version_map.proofs.index.Index.insert.Goals as goal

pub returns-clause-ok : goal.returns-clause-ok
returns-clause-ok c = on_ok c.insert.result (λ is.
    ap (λ l. index_with l c.self.inside.tombstones) is ∙ index_put c.self.inside.listed c.self.inside.tombstones c.args.key.now c.args.slot
    ∙ ap (λ i. with_key i c.args.key.now c.args.slot) c.self.view_is) c.insert.ensures.ok
