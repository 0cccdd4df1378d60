use Rattle.std.proofs.Common.{ap, ◌∙◌}
use Rattle.std.specs.FinMap.{get, remove}
use Rattle.version_map.specs.Named.{both}
use Rattle.version_map.proofs.Tombstones.{removed_others}
use Rattle.version_map.proofs.Forgotten.{both_removed}
use Rattle.version_map.proofs.index.Index.forget.Goals as goal

pub returns-clause-all : goal.returns-clause-all
returns-clause-all c =
    ap (λ l. both l c.remove-2.new.self) c.remove.ensures ∙ ap (both (remove c.self.inside.listed c.args.key.now)) c.remove-2.ensures
    ∙ both_removed c.self.inside.listed c.self.inside.tombstones c.args.key.now ∙ ap (λ i. remove i.all c.args.key.now) c.self.view_is

pub returns-clause-others : goal.returns-clause-others
returns-clause-others c k other =
    ap (λ l. get l k) c.remove.ensures ∙ removed_others c.self.inside.listed c.self.inside.tombstones c.args.key.now 0 k other ∙ ap (λ i. get i.listed k) c.self.view_is
