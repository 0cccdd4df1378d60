use Rattle.std.proofs.Common.{◌∙◌}
use Rattle.store.proofs.Visits.{named_view}
use Rattle.store.proofs.caller.Caller.new.Goals as goal

pub invariant_of-result : goal.invariant_of-result
invariant_of-result g c = (c.name.ensures.line ∙ c.requires.seat.0, named_view g.H.Sharding.shards 0 c.args.seat.view c.name.new.seat.view c.name.ensures.named)
