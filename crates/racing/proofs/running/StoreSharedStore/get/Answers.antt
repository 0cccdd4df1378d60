use Rattle.std.proofs.Common.{refl}
use Rattle.std.proofs.lemmas.Result.{IfOk-weaker}
use Rattle.requests.specs.declared.request.Request.TheVariants.{Get}
use Rattle.racing.proofs.Giving.{answered_to_read}
use Rattle.racing.proofs.running.StoreSharedStore.get.Goals as goal

pub returns : goal.returns
returns g c =
    IfOk-weaker c.get.result _ _
    (λ reply is. answered_to_read g.H.Sharding.shards g.N.Naming.capacity (Get c.args.key.now) reply c.args.caller.now c.get.new.caller c.get.ensures.read refl (λ _. is))
    c.get.ensures.reply
