use Rattle.std.proofs.Common.{◌≡◌, false, true, refl}
use Rattle.requests.specs.declared.request.Request.TheVariants.{Compact}
use Rattle.racing.specs.Answered.{reads_now}
use Rattle.racing.proofs.Giving.{answered_to_read}
use Rattle.racing.proofs.running.StoreSharedStore.compact.Goals as goal

pub returns : goal.returns
returns g c =
    answered_to_read g.H.Sharding.shards g.N.Naming.capacity (Compact c.args.to) c.compact.result c.args.caller.now c.compact.new.caller c.compact.ensures.read refl
    (λ (now : reads_now (Compact c.args.to) ≡ true). absurd cc)
