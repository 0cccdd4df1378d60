use Rattle.std.proofs.Common.{sym, ap, ◌∙◌}
use Rattle.std.specs.FinMap.{get, remove}
use Rattle.version_map.specs.Named.{both}
use Rattle.version_map.proofs.Tombstones.{both_with_tombstone, removed_others}
use Rattle.version_map.proofs.index.Index.set_tombstone.Goals as goal

pub returns-in-Ok-clause-all : goal.returns-in-Ok-clause-all
returns-in-Ok-clause-all c =
    ap (λ l. both l c.insert.new.self) c.remove.ensures ∙ ap (both (remove c.self.inside.listed c.args.key.now)) c.in-Ok.ensures.ok
    ∙ both_with_tombstone c.self.inside.listed c.self.inside.tombstones c.args.key.now c.in-Some.slot (sym c.in-Some.is ∙ c.place.ensures.0 ∙ ap (λ i. get i.listed c.args.key.now) (sym c.self.view_is))
    ∙ ap (λ i. i.all) c.self.view_is

pub returns-in-Ok-clause-others : goal.returns-in-Ok-clause-others
returns-in-Ok-clause-others c k other =
    ap (λ l. get l k) c.remove.ensures ∙ removed_others c.self.inside.listed c.self.inside.tombstones c.args.key.now c.in-Some.slot k other ∙ ap (λ i. get i.listed k) c.self.view_is
