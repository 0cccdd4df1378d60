use Rattle.std.proofs.Common.{◌<◌, length, get_or, ap, ◌∙◌, arith}
use Rattle.objects.specs.Tree.{data_of}
use Rattle.set_views.specs.Set.{set_parts}
use Rattle.manifests.specs.Volumes.{volume_of}
use Rattle.manifests.proofs.ItemLists.{mapped_more}
use Rattle.manifests.proofs.volumes.claim_volumes.Goals as goal

pub loop-name-preserved : goal.loop-name-preserved
loop-name-preserved c =
    let claims = c.args.set.now.claims.items in
    let template = c.loop-name-item.result in
    let inside : c.loop-name.name-index < length claims = omega (arith, ap length c.deref-name-items.ensures.value) in
    mapped_more data_of (volume_of (set_parts c.args.set.now) c.args.ordinal) c.loop-name.volumes.items c.push.new.self.items c.in_ok-volume_of.field-0 claims c.loop-name.name-index template inside
    (c.loop-name-item.is ∙ ap (λ l. get_or l c.loop-name.name-index template) c.deref-name-items.ensures.value) c.loop-name.invariant c.in_ok-push.ensures.items (c.in_ok-volume_of.ensures template.1 ∙ ap (λ n. volume_of (set_parts c.args.set.now) c.args.ordinal (n, template.1)) c.as_str.ensures)
