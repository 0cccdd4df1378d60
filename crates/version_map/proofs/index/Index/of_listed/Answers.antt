use Rattle.std.proofs.Common.{ap, sym, ◌∙◌}
use Rattle.std.specs.FinMap.{get}
use Rattle.version_map.proofs.Tombstones.{both_within}
use Rattle.version_map.proofs.index.Index.of_listed.Goals as goal

pub returns-clause-within : goal.returns-clause-within
returns-clause-within c k p there =
    ap (λ i. get i.all k) (sym c.self.view_is) ∙ both_within c.self.inside.listed c.self.inside.tombstones k p (ap (λ i. get i.listed k) c.self.view_is ∙ there)
