use Rattle.std.proofs.Common.{◌∙◌, length, Some, ap, sym, subst, arith}
use Rattle.requests.specs.Verdict.{verdict}
use Rattle.requests.specs.declared.verdict.Verdict.TheVariants.{Write}
use Rattle.line.specs.declared.view.NotedView.{NotedView}
use Rattle.store.specs.declared.writing.Writing.{Writing}
use Rattle.store.specs.Tickets.{IsTicketOf, WritesOwn}
use Rattle.store.specs.Views.{IsOutcome, WritesNotes, caller_by}
use Rattle.store.proofs.Agreeing.{agrees_as}
use Rattle.store.proofs.Readings.{current_is}
use Rattle.store.proofs.Outcomes.{pushed_floor, pushed_outcome}
use Rattle.store.proofs.Writes.{Pushes, may_write, own_key, pushed_due, pushed_keeps, pushed_own, pushed_view, pushed_wrote, some_key}
use Rattle.store.proofs.write_steps.publish.Goals as goal

pub push_drawn-published-requires : goal.push_drawn-published-requires
push_drawn-published-requires g c =
    let S = g.H.Sharding.shards in
    let v = c.args.seat.now.view in
    let h = c.requires.holds in
    let k = some_key c.args.request.value c.requires.write in
    let q = c.requires.key k.0 k.1 in
    let judged = ap (verdict c.args.request.value) (sym (current_is c.args.shard.now.records v.notes h.agrees.latest k.0)) ∙ q.1 in
    record {
      line = (c.requires.line.0, c.requires.line.1.1);
      pending = h.pending;
      note = may_write S 0 v c.args.request.value c.args.change k.0 c.requires.write k.1 q.0 judged;
      room = q.2 ∙ ap Some (sym (own_key S 0 v c.args.request.value c.args.change k.0 c.requires.write k.1 q.0 judged));
      agrees = h.agrees;
      long = h.caller.long;
    }

pub returns-clause-holds : goal.returns-clause-holds
returns-clause-holds g c =
    let S = g.H.Sharding.shards in
    let C = g.N.Naming.capacity in
    let h = c.requires.holds in
    let pushes : Pushes S C c.args.seat.now.view c.args.request.value c.args.change c.push_drawn-published.result c.push_drawn-published.new.seat.view = (c.push_drawn-published.ensures.some, c.push_drawn-published.ensures.none) in
    let keeps = pushed_keeps S C c.args.seat.now.view c.push_drawn-published.new.seat.view c.args.request.value c.args.change c.push_drawn-published.result pushes in
    let notes = c.observe.ensures.observed in
    let low = c.push_drawn-published.ensures.agrees.floor in
    let same = ap (λ (n : NotedView Writing). length n.seen) notes.4 in
    record {
      shard = ap (λ (n : NotedView Writing). n.shard) notes.4 ∙ keeps.shard;
      seen = ap (λ (n : NotedView Writing). n.seen) notes.4 ∙ keeps.seen;
      frontier = ap (λ (n : NotedView Writing). n.plain.seen) notes.4 ∙ keeps.frontier;
      loads = ap (λ (n : NotedView Writing). n.plain.loads) notes.4 ∙ keeps.loads;
      pending = ap (λ (n : NotedView Writing). n.plain.pending) notes.4 ∙ keeps.pending h.pending;
      agrees = agrees_as _ _ _ _ _ _ _ c.push_drawn-published.ensures.agrees (ap (λ (n : NotedView Writing). n.notes) notes.4) (ap (λ (n : NotedView Writing). n.plain.filled) notes.4) (omega arith);
      caller = pushed_view S C _ c.args.seat.now.view c.push_drawn-published.new.seat.view c.observe.new.seat.view c.args.request.value c.args.change c.push_drawn-published.result pushes h.caller notes;
    }

pub returns-clause-ticket : goal.returns-clause-ticket
returns-clause-ticket g c =
    let S = g.H.Sharding.shards in
    let C = g.N.Naming.capacity in
    let v = c.args.seat.now.view in
    let h = c.requires.holds in
    let pushes : Pushes S C v c.args.request.value c.args.change c.push_drawn-published.result c.push_drawn-published.new.seat.view = (c.push_drawn-published.ensures.some, c.push_drawn-published.ensures.none) in
    let k = some_key c.args.request.value c.requires.write in
    let q = c.requires.key k.0 k.1 in
    let judged = ap (verdict c.args.request.value) (sym (current_is c.args.shard.now.records v.notes h.agrees.latest k.0)) ∙ q.1 in
    subst (λ t. IsTicketOf S C t (caller_by c.observe.new.seat.view)) (sym c.ticket_of.ensures)
    (pushed_due S C _ v c.push_drawn-published.new.seat.view c.observe.new.seat.view c.observe.ensures.observed (c.observe.ensures.capacity ∙ c.requires.line.1.1)
    c.args.request.value c.args.change k.0 c.args.since c.requires.write k.1 q.0 judged h.caller c.requires.seen.0 c.requires.seen.1 c.push_drawn-published.result pushes)

pub returns-clause-own : goal.returns-clause-own
returns-clause-own g c =
    let S = g.H.Sharding.shards in
    let C = g.N.Naming.capacity in
    let v = c.args.seat.now.view in
    let pushes : Pushes S C v c.args.request.value c.args.change c.push_drawn-published.result c.push_drawn-published.new.seat.view = (c.push_drawn-published.ensures.some, c.push_drawn-published.ensures.none) in
    subst (λ t. WritesOwn (caller_by v) t (caller_by c.observe.new.seat.view)) (sym c.ticket_of.ensures)
    (pushed_own S C _ v c.push_drawn-published.new.seat.view c.observe.new.seat.view c.observe.ensures.observed c.args.request.value c.args.change c.args.since c.push_drawn-published.result pushes)

pub returns-clause-wrote : goal.returns-clause-wrote
returns-clause-wrote g c =
    let S = g.H.Sharding.shards in
    let C = g.N.Naming.capacity in
    let v = c.args.seat.now.view in
    let pushes : Pushes S C v c.args.request.value c.args.change c.push_drawn-published.result c.push_drawn-published.new.seat.view = (c.push_drawn-published.ensures.some, c.push_drawn-published.ensures.none) in
    subst (λ t. WritesNotes v.notes t c.observe.new.seat.view.notes) (sym c.ticket_of.ensures)
    (pushed_wrote S C v c.push_drawn-published.new.seat.view c.observe.new.seat.view.notes (ap (λ (n : NotedView Writing). n.notes) c.observe.ensures.observed.4) c.args.request.value c.args.change c.args.since c.push_drawn-published.result pushes)

pub returns-clause-outcome : goal.returns-clause-outcome
returns-clause-outcome g c =
    let S = g.H.Sharding.shards in
    let C = g.N.Naming.capacity in
    let v = c.args.seat.now.view in
    let pushes : Pushes S C v c.args.request.value c.args.change c.push_drawn-published.result c.push_drawn-published.new.seat.view = (c.push_drawn-published.ensures.some, c.push_drawn-published.ensures.none) in
    subst (λ t. IsOutcome C c.args.shard.now.records 0 (Write c.args.change) t c.push_drawn-published.new.shard.records) (sym c.ticket_of.ensures)
    (pushed_outcome S C v c.push_drawn-published.new.seat.view c.args.shard.now c.push_drawn-published.new.shard c.args.request.value c.args.change c.args.since c.push_drawn-published.result pushes c.push_drawn-published.ensures.pushed c.push_drawn-published.ensures.kept)

pub returns-clause-floor : goal.returns-clause-floor
returns-clause-floor g c =
    pushed_floor g.H.Sharding.shards g.N.Naming.capacity c.args.shard.now c.push_drawn-published.new.shard c.args.change c.push_drawn-published.result c.push_drawn-published.ensures.pushed c.push_drawn-published.ensures.kept
