use Rattle.std.proofs.Common.{◌∙◌}
use Rattle.plain_store.proofs.Held.{found_is}
use Rattle.plain_store.proofs.tree_store.Trees.find.Goals as goal

pub returns : goal.returns
returns c = c.at.ensures ∙ found_is c.self.inside.versions c.self.inside.counter c.self.inside.capacity c.args.self.now c.args.key.now c.self.view_is
