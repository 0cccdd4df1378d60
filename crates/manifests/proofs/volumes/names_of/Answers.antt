use Rattle.std.proofs.Common.{◌<◌, length, get_or, ap, ◌∙◌, arith}
use Rattle.manifests.proofs.VolumeNames.{name_more}
use Rattle.manifests.proofs.volumes.names_of.Goals as goal

pub loop-name-preserved : goal.loop-name-preserved
loop-name-preserved c =
    let claims = c.args.set.now.claims.items in
    let template = c.loop-name-item.result in
    let inside : c.loop-name.name-index < length claims = omega (arith, ap length c.deref-name-items.ensures.value) in
    λ q. name_more q claims c.loop-name.name-index template c.as_str.result c.loop-name.names.keys c.insert.new.self.keys inside
    (c.loop-name-item.is ∙ ap (λ l. get_or l c.loop-name.name-index template) c.deref-name-items.ensures.value) c.as_str.ensures c.in_ok-insert.ensures.keys (c.loop-name.invariant q)
