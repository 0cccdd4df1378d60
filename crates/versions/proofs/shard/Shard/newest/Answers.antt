use Rattle.std.proofs.Common.{sym, ap, ◌∙◌}
use Rattle.versions.specs.Records.{newest}
use Rattle.versions.proofs.Held.{newest_is}
use Rattle.versions.proofs.shard.Shard.newest.Goals as goal

pub returns : goal.returns
returns c = c.newest.ensures ∙ sym (newest_is c.self.inside.versions.rows _ c.args.key.now c.self.invariant.0) ∙ ap (λ s. newest s.records c.args.key.now) c.self.view_is
