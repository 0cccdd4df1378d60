use Rattle.std.proofs.Common.{◌≡◌, ◌<◌, length, get_or, ap, ◌∙◌, arith}
use Rattle.objects.specs.Names.{is_dns_label}
use Rattle.objects.specs.PodNames.{claim_name}
use Rattle.set_views.specs.Claims.{Claim}
use Rattle.set_views.specs.Set.{set_parts}
use Rattle.claims.specs.Changes.{create_or_update}
use Rattle.claims.specs.Listed.{claim_named}
use Rattle.claims.proofs.ChangeLists.{change_more, enough, has_room, passes_at}
use Rattle.claims.proofs.change.all_creates_and_updates.Goals as goal

pub create_or_update-requires-clause-label : goal.create_or_update-requires-clause-label
create_or_update-requires-clause-label c =
    let claims = c.args.set.now.claims.items in
    let template = c.template-item.result in
    let inside : c.loop-template.template-index < length claims = omega (arith, ap length c.deref-template-items.ensures.value) in
    passes_at (λ (x : Claim). is_dns_label x.0) claims c.loop-template.template-index template c.args.set.now.labelled inside
    (c.template-item.is ∙ ap (λ l. get_or l c.loop-template.template-index template) c.deref-template-items.ensures.value)

pub returns-then-len-most : goal.returns-then-len-most
returns-then-len-most c =
    let set = set_parts c.args.set.now in
    let full : length c.loop-template.changes.items ≡ c.args.most = omega (arith, c.if-len-most.true, c.len.ensures, c.loop-template.changes.ok) in
    enough (λ (x : Claim). create_or_update set c.args.ordinal x (claim_named c.args.listed.now (claim_name x.0 set.object.key.name c.args.ordinal))) c.args.set.now.claims.items c.loop-template.template-index c.args.most
    c.loop-template.changes.items c.loop-template.invariant.0 full

pub loop-template-preserved : goal.loop-template-preserved
loop-template-preserved c =
    let set = set_parts c.args.set.now in
    let claims = c.args.set.now.claims.items in
    let template = c.template-item.result in
    let inside : c.loop-template.template-index < length claims = omega (arith, ap length c.deref-template-items.ensures.value) in
    let found = c.in_ok-found.ensures ∙ ap (λ n. claim_named c.args.listed.now (claim_name n set.object.key.name c.args.ordinal)) c.as_str.ensures in (
      change_more (λ (x : Claim). create_or_update set c.args.ordinal x (claim_named c.args.listed.now (claim_name x.0 set.object.key.name c.args.ordinal))) claims c.loop-template.template-index template
          c.in_ok-change.change c.loop-template.changes.items c.push_some.new.changes.items inside
          (c.template-item.is ∙ ap (λ l. get_or l c.loop-template.template-index template) c.deref-template-items.ensures.value) c.loop-template.invariant.0 c.in_ok-push_some.ensures
          (c.in_ok-change.ensures ∙ ap (create_or_update set c.args.ordinal template) found),
      has_room c.loop-template.changes.items c.push_some.new.changes.items c.in_ok-change.change c.args.most c.in_ok-push_some.ensures c.loop-template.invariant.1
          (λ full. c.if-len-most.false (omega (arith, full, c.len.ensures, c.loop-template.changes.ok))),
    )
