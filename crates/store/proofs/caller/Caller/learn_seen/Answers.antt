use Rattle.std.proofs.Common.{◌∙◌, subst}
use Rattle.store.specs.Views.{IsCaller}
use Rattle.store.proofs.Visits.{told_view}
use Rattle.store.proofs.caller.Caller.learn_seen.Goals as goal

pub invariant_of-self : goal.invariant_of-self
invariant_of-self g c =
    let own = subst (IsCaller g.N.Naming.line g.H.Sharding.shards) c.in-Some.is c.self.invariant in
    (c.tell.ensures.line ∙ own.0, told_view g.H.Sharding.shards 0 c.in-Some.seat.view c.in-Some-seat.from.view c.tell.new.seat.view c.tell.ensures.told own.1)
