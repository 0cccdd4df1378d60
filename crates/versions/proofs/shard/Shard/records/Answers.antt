use Rattle.std.proofs.Common.{ap, ◌∙◌}
use Rattle.std.specs.FinMap as map
use Rattle.versions.proofs.Counted.{count_is}
use Rattle.versions.proofs.shard.Shard.records.Goals as goal

pub returns : goal.returns
returns c = c.records.ensures ∙ count_is c.self.inside.versions.rows _ c.self.invariant.0 ∙ ap (λ s. map.len s.records) c.self.view_is
