use Rattle.std.proofs.Common.{ap, ◌∙◌}
use Rattle.std.specs.FinMap.{get}
use Rattle.version_map.proofs.Tombstones.{got_tombstone, got_listed}
use Rattle.version_map.proofs.index.Index.search.Goals as goal

pub returns-in-Some : goal.returns-in-Some
returns-in-Some c = (
  c.in-Some.ensures ∙ ap (λ i. get i.listed c.args.key.now) c.self.view_is,
  got_listed c.self.inside.listed c.self.inside.tombstones c.args.key.now c.in-Some.slot c.in-Some.ensures ∙ ap (λ i. get i.all c.args.key.now) c.self.view_is,
)

pub returns-in-None : goal.returns-in-None
returns-in-None c = (
  c.in-None.ensures ∙ ap (λ i. get i.listed c.args.key.now) c.self.view_is,
  c.get-in-None.ensures ∙ got_tombstone c.self.inside.listed c.self.inside.tombstones c.args.key.now c.in-None.ensures ∙ ap (λ i. get i.all c.args.key.now) c.self.view_is,
)
