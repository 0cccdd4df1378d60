use Rattle.std.proofs.Common.{refl}
use Rattle.std.proofs.lemmas.Result.{IfOk-weaker}
use Rattle.requests.specs.declared.request.Request.TheVariants as request
use Rattle.racing.proofs.Giving.{answered_to_read}
use Rattle.racing.proofs.running.StoreSharedStore.list.Goals as goal

pub returns : goal.returns
returns g c =
    IfOk-weaker c.list.result _ _
    (λ reply is.
    answered_to_read g.H.Sharding.shards g.N.Naming.capacity (request.List c.args.kind c.args.namespace.now 0) reply c.args.caller.now c.list.new.caller
    c.list.ensures.read refl (λ _. is)) c.list.ensures.reply
