use Rattle.std.proofs.Common.{ℕ, List, length, ◌∙◌, Some, refl, ap, sym, subst, arith}
use Rattle.objects.specs.ShardOf.{shard_of}
use Rattle.requests.specs.Verdict.{verdict}
use Rattle.versions.specs.Records.{current, newest}
use Rattle.line.specs.declared.view.NotedView.{NotedView}
use Rattle.std.specs.List.{Contains}
use Rattle.store.specs.declared.writing.Writing.{Writing}
use Rattle.store.specs.Tickets.{IsTicketOf}
use Rattle.store.specs.Views.{Unwritten, caller_by, number_in}
use Rattle.store.proofs.Agreeing.{agrees_as}
use Rattle.store.proofs.Readings.{current_is, number_is}
use Rattle.store.proofs.Tickets.{unwritten_due}
use Rattle.store.proofs.Visits.{noted, noted_view}
use Rattle.store.proofs.Outcomes.{unwritten_outcome}
use Rattle.store.proofs.Writes.{noted_own, some_key, unwritten_wrote}
use Rattle.store.proofs.write_steps.answer_unwritten.Goals as goal

pub returns-clause-holds : goal.returns-clause-holds
returns-clause-holds g c =
    let k = some_key c.args.request.value c.requires.write in
    let q = c.requires.key k.0 k.1 in
    let h = c.requires.holds in
    let notes = c.observe.ensures.observed in
    let low = h.agrees.floor in
    let same = ap (λ (n : NotedView Writing). length n.seen) notes.4 in
    record {
      shard = ap (λ (n : NotedView Writing). n.shard) notes.4;
      seen = ap (λ (n : NotedView Writing). n.seen) notes.4;
      frontier = ap (λ (n : NotedView Writing). n.plain.seen) notes.4;
      loads = ap (λ (n : NotedView Writing). n.plain.loads) notes.4;
      pending = ap (λ (n : NotedView Writing). n.plain.pending) notes.4 ∙ h.pending;
      agrees = agrees_as _ _ _ _ _ _ _ h.agrees (ap (λ (n : NotedView Writing). n.notes) notes.4) (ap (λ (n : NotedView Writing). n.plain.filled) notes.4) (omega arith);
      caller = noted_view g.H.Sharding.shards 0 _ c.args.seat.now.view c.observe.new.seat.view (shard_of k.0 g.H.Sharding.shards) q.0 notes h.caller;
    }

pub returns-clause-ticket : goal.returns-clause-ticket
returns-clause-ticket g c =
    let S = g.H.Sharding.shards in
    let C = g.N.Naming.capacity in
    let k = some_key c.args.request.value c.requires.write in
    let q = c.requires.key k.0 k.1 in
    let h = c.requires.holds in
    let b = c.args.seat.now.view in
    let n = noted S C _ b c.observe.new.seat.view (shard_of k.0 S) q.0 c.observe.ensures.observed (c.observe.ensures.capacity ∙ c.requires.line.1.1) in
    subst (λ p. IsTicketOf S C (record { request = c.args.request.value; since = c.args.since; saw = c.args.saw; place = p; reply = Some c.args.reply }) (caller_by c.observe.new.seat.view)) (sym c.max.ensures)
    (unwritten_due S C _ c.args.request.value k.0 c.args.since c.args.saw c.args.loaded (shard_of k.0 S) n.0 c.args.reply b.notes (caller_by b) (caller_by c.observe.new.seat.view) n.1 c.requires.write k.1
    refl (q.1 ∙ number_is c.args.shard.now.records b.notes h.agrees.latest k.0) (subst (λ o. Unwritten (verdict c.args.request.value o) c.args.reply) (current_is c.args.shard.now.records b.notes h.agrees.latest k.0) q.2) c.requires.seen.0 c.requires.seen.1
    (λ m there. h.agrees.positive m (subst (λ (xs : List ℕ). Contains xs m) h.agrees.noted there)))

pub returns-clause-own : goal.returns-clause-own
returns-clause-own g c =
    let S = g.H.Sharding.shards in
    let C = g.N.Naming.capacity in
    let k = some_key c.args.request.value c.requires.write in
    let q = c.requires.key k.0 k.1 in
    let b = c.args.seat.now.view in
    let n = noted S C _ b c.observe.new.seat.view (shard_of k.0 S) q.0 c.observe.ensures.observed (c.observe.ensures.capacity ∙ c.requires.line.1.1) in
    noted_own S C _ (shard_of k.0 S) n.0 b.notes (caller_by b) (caller_by c.observe.new.seat.view) (record { request = c.args.request.value; since = c.args.since; saw = c.args.saw; place = c.max.result; reply = Some c.args.reply })
    (verdict c.args.request.value (current c.args.shard.now.records k.0)) c.args.reply n.1 refl q.2

pub returns-clause-wrote : goal.returns-clause-wrote
returns-clause-wrote g c =
    let k = some_key c.args.request.value c.requires.write in
    let q = c.requires.key k.0 k.1 in
    unwritten_wrote g.H.Sharding.shards g.N.Naming.capacity _ _ (record { request = c.args.request.value; since = c.args.since; saw = c.args.saw; place = c.max.result; reply = Some c.args.reply })
    (verdict c.args.request.value (current c.args.shard.now.records k.0)) c.args.reply (ap (λ (n : NotedView Writing). n.notes) c.observe.ensures.observed.4) refl q.2

pub returns-clause-outcome : goal.returns-clause-outcome
returns-clause-outcome g c = λ k named.
    let q = c.requires.key k named in
    unwritten_outcome g.H.Sharding.shards g.N.Naming.capacity c.args.shard.now.records (number_in (newest c.args.shard.now.records k)) (verdict c.args.request.value (current c.args.shard.now.records k))
    (record { request = c.args.request.value; since = c.args.since; saw = c.args.saw; place = c.max.result; reply = Some c.args.reply }) c.args.reply refl q.1 q.2
