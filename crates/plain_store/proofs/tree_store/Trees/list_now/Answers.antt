use Rattle.std.proofs.Common.{ap, ◌∙◌}
use Rattle.std.proofs.lemmas.Result.{IfOk-weaker}
use Rattle.version_map.specs.Keyed.{collection}
use Rattle.plain_store.specs.Store.{Store}
use Rattle.plain_store.proofs.tree_store.Trees.list_now.Goals as goal

pub returns : goal.returns
returns c = IfOk-weaker c.list_at.result _ _ (λ objects is. is ∙ ap (λ (t : Store). collection t.objects c.args.kind c.args.namespace.now) c.self.view_is) c.list_at.ensures
