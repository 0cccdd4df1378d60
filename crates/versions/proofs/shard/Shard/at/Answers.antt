use Rattle.std.proofs.Common.{sym, ap, ◌∙◌}
use Rattle.versions.specs.Records.{value}
use Rattle.versions.proofs.Held.{value_is}
use Rattle.versions.proofs.shard.Shard.at.Goals as goal

pub returns : goal.returns
returns c = c.at.ensures ∙ sym (value_is c.self.inside.versions.rows _ c.args.number c.args.key.now c.self.invariant.0) ∙ ap (λ s. value s.records c.args.number c.args.key.now) c.self.view_is
