use Rattle.std.proofs.Common.{rules, ◌∙◌, ap, sym, subst, refl}
use mathlib.Core.List.{IsPrefix}
use Rattle.store.specs.Callers.{Caller}
use Rattle.store.specs.Views.{HasLoaded, IsCaller, caller_by, view_or}
use Rattle.line.proofs.Fronts.{prefix_self}
use Rattle.store.proofs.Visits.{raised_and_loaded}
use Rattle.store.proofs.caller.Caller.frontier.Goals as goal

pub returns-clause-loaded : goal.returns-clause-loaded
returns-clause-loaded g c =
    let own = subst (IsCaller g.N.Naming.line g.H.Sharding.shards) c.in-Some.is c.self.invariant in
    subst (λ x. HasLoaded g.H.Sharding.shards g.N.Naming.capacity x c.frontier.result (caller_by c.frontier.new.seat.view)) (ap (λ o. caller_by (view_or o)) (sym c.in-Some.is) ∙ c.self.view_is)
    (raised_and_loaded g.H.Sharding.shards g.N.Naming.capacity c.in-Some.seat.view c.in-Some.seat.view c.frontier.new.seat.view c.frontier.result (prefix_self c.in-Some.seat.view.seen) (refl, refl, refl, refl, refl) refl c.frontier.ensures.looked c.frontier.ensures.sees (search rules) own.1)

pub returns-clause-reported : goal.returns-clause-reported
returns-clause-reported g c = subst (λ (x : Caller). IsPrefix x.reported c.frontier.new.seat.view.seen) (ap (λ o. caller_by (view_or o)) (sym c.in-Some.is) ∙ c.self.view_is) c.frontier.ensures.sees.reported
