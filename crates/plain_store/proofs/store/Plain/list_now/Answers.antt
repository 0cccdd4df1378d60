use Rattle.std.proofs.Common.{ap, ◌∙◌}
use Rattle.requests.specs.declared.reply.Reply.TheVariants.{Listed}
use Rattle.version_map.specs.Keyed.{collection}
use Rattle.plain_store.specs.Store.{Store}
use Rattle.plain_store.proofs.store.Plain.list_now.Goals as goal

pub returns : goal.returns
returns c =
    let s = c.args.self.now in
    ap (λ os. Listed os c.self.inside.counter) (c.in_ok-objects.ensures ∙ ap (λ (t : Store). collection t.objects c.args.kind c.args.namespace.now) c.self.view_is)
    ∙ ap (λ (t : Store). Listed (collection s.objects c.args.kind c.args.namespace.now) t.counter) c.self.view_is
