use Rattle.std.proofs.Common.{◌+◌, refl, add-one, ap, ◌∙◌}
use Rattle.versions.specs.Shard as versions
use Rattle.versions.specs.Shard.{pushed}
use Rattle.history.proofs.Pieces.{get_any}
use Rattle.history.proofs.WritesDone.{fills_by}
use Rattle.history.proofs.machine.Machine.fill.Goals as goal

pub returns-clause-fills : goal.returns-clause-fills
returns-clause-fills c = fills_by c.args.self.now _ c.args.shard c.args.index (c.args.index + 1) c.args.place c.args.version c.push.new.self c.requires.shard c.requires.seat c.requires.index (add-one c.args.index) c.requires.above (c.push.ensures ∙ ap (λ s. pushed s (c.args.index + 1) c.args.version) (get_any c.args.self.now.shards.items c.args.shard _ versions.opening c.requires.shard c.index_mut.ensures.value)) refl refl refl refl
