use Rattle.std.proofs.Common.{is_some, sym, ap, ◌∙◌, true≢false}
use Rattle.objects.specs.declared.object.Object.{Object}
use Rattle.version_map.specs.Versions.{Versions}
use Rattle.versions.proofs.Held.{opening_are, opening_is}
use Rattle.versions.proofs.shard.Shard.new.Goals as goal

pub invariant_of-result : goal.invariant_of-result
invariant_of-result c = (opening_are c.new.result c.new.ensures, λ some. absurd (true≢false (sym some ∙ ap (λ (v : Versions Object). is_some v.room) c.new.ensures)))

pub returns : goal.returns
returns c = opening_is c.new.result c.new.ensures
