use Rattle.racing.proofs.Giving.{answered_of_past}
use Rattle.racing.proofs.running.StoreSharedStore.list_at.Goals as goal

pub returns : goal.returns
returns g c =
    answered_of_past g.H.Sharding.shards g.N.Naming.capacity c.args.kind c.args.namespace.now c.args.exact c.list_at.result c.args.caller.now c.list_at.new.caller
    c.list_at.ensures.read c.requires
