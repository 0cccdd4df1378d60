use Rattle.std.proofs.Common.{rules, ◌∙◌, length, ap, sym, subst, arith}
use Rattle.line.specs.declared.view.NotedView.{NotedView}
use Rattle.store.specs.declared.writing.Writing.{Writing}
use Rattle.store.specs.Callers.{Caller}
use Rattle.store.specs.Views.{HasLoaded, IsCaller, caller_by, view_or}
use Rattle.store.proofs.Visits.{raised_and_loaded, raised_once}
use Rattle.store.proofs.caller.Caller.try_raise.Goals as goal

pub returns-clause-loaded : goal.returns-clause-loaded
returns-clause-loaded g c =
    let own = subst (IsCaller g.N.Naming.line g.H.Sharding.shards) c.in-Some.is c.self.invariant in
    let once = raised_once c.in-Some.seat c.raise.new.seat c.args.line.now.capacity c.raise.result c.raise.ensures.tried c.raise.ensures.whole (let low = c.raise.ensures.risen.1 in let high = c.raise.ensures.risen.2 in omega arith) in
    subst (λ x. HasLoaded g.H.Sharding.shards g.N.Naming.capacity x c.frontier.result (caller_by c.frontier.new.seat.view)) (ap (λ o. caller_by (view_or o)) (sym c.in-Some.is) ∙ c.self.view_is)
    (raised_and_loaded g.H.Sharding.shards g.N.Naming.capacity c.in-Some.seat.view c.raise.new.seat.view c.frontier.new.seat.view c.frontier.result c.raise.ensures.begins c.raise.ensures.kept once.0 c.frontier.ensures.looked c.frontier.ensures.sees (search rules) own.1)

pub returns-clause-tried : goal.returns-clause-tried
returns-clause-tried g c =
    let own = subst (IsCaller g.N.Naming.line g.H.Sharding.shards) c.in-Some.is c.self.invariant in
    let once = raised_once c.in-Some.seat c.raise.new.seat c.args.line.now.capacity c.raise.result c.raise.ensures.tried c.raise.ensures.whole (let low = c.raise.ensures.risen.1 in let high = c.raise.ensures.risen.2 in omega arith) in
    let is = ap (λ o. caller_by (view_or o)) (sym c.in-Some.is) ∙ c.self.view_is in
    let seen = ap (λ (x : Caller). length x.seen) is in
    let tries = ap (λ (x : Caller). x.tries) is in
    let after = ap (λ (n : NotedView Writing). length n.plain.tries) c.frontier.ensures.looked in
    let long = own.1.long in
    let size = c.requires.1 in
    (λ less. let t = once.1 (omega arith) in omega arith, λ all. let t = once.2 (omega arith) in omega arith)
