use Rattle.std.proofs.Common.{◌≡◌, ◌∙◌, length, Some, IfOk, IsSome, refl, ap, sym, subst, arith}
use Rattle.objects.specs.declared.key.Key.{Key}
use Rattle.requests.specs.Keys.{key_named}
use Rattle.requests.specs.Verdict.{verdict}
use Rattle.versions.specs.Records.{current, newest}
use Rattle.line.specs.declared.view.NotedView.{NotedView}
use Rattle.line.proofs.Fronts.{prefix_length}
use Rattle.store.specs.declared.writing.Writing.{Writing}
use Rattle.store.specs.Callers.{Caller}
use Rattle.store.specs.Tickets.{IsTicketOf, WritesOwn}
use Rattle.store.specs.Rule.{Locked}
use Rattle.store.specs.Views.{IsCaller, IsOutcome, WritesNotes, caller_by, number_in, view_or}
use Rattle.store.proofs.Agreeing.{agrees_as, left_as}
use Rattle.store.proofs.Going.{if_ok, on_err}
use Rattle.store.proofs.Visits.{left_caller, left_view, looked_past, looked_there, looked_view}
use Rattle.store.proofs.Writes.{handed_back, handed_begins, handed_once, handed_own}
use Rattle.store.proofs.locked.Locked.write.Goals as goal

pub write_locked-handed-requires : goal.write_locked-handed-requires
write_locked-handed-requires g c =
    let S = g.H.Sharding.shards in
    let C = g.N.Naming.capacity in
    let own = subst (IsCaller g.N.Naming.line S) (sym c.take.ensures.value ∙ c.in-Some.is) c.caller.invariant in
    let v = c.self.inside.seat.view in
    let w = c.in-Some.seat.view in
    let b = c.enter.new.seat.view in
    let y = c.look-loaded.new.seat.view in
    let both = c.enter.ensures.both in
    let looked = c.look-loaded.ensures.looked in
    let sees = c.look-loaded.ensures.sees in
    let mine = ap (λ (x : Caller). length x.seen) (ap (λ o. caller_by (view_or o)) (sym c.in-Some.is ∙ c.take.ensures.value) ∙ c.caller.view_is) in
    let risen = c.look-loaded.ensures.risen in
    let size = c.requires.line.1 in
    let long = sees.long in
    let more = prefix_length w.seen y.seen (looked_there S C v w b y c.look-loaded.result both looked sees own.1 (omega arith)).begins in
    let past = looked_past S C v w b y c.look-loaded.result both looked sees own.1 in
    let low = c.self.invariant.4.floor in
    let since = c.seen-since.ensures in
    record {
      line = (c.look-loaded.ensures.line ∙ c.enter.ensures.line ∙ c.self.invariant.0 ∙ sym c.requires.line.0, c.requires.line);
      holds = record {
        shard = refl;
        seen = refl;
        frontier = refl;
        loads = refl;
        pending = ap (λ (n : NotedView Writing). n.plain.pending) looked ∙ ap (λ (n : NotedView Writing). n.plain.pending) both ∙ c.self.invariant.3;
        agrees = agrees_as _ _ _ _ _ _ _ c.self.invariant.4 (ap (λ (n : NotedView Writing). n.notes) looked ∙ ap (λ (n : NotedView Writing). n.notes) both)
            (ap (λ (n : NotedView Writing). n.plain.filled) looked ∙ ap (λ (n : NotedView Writing). n.plain.filled) both) (omega arith);
        caller = looked_view S C v w b y c.look-loaded.result both looked sees own.1;
      };
      write = c.requires.write;
      key = λ k named. ap (λ (n : NotedView Writing). n.shard) looked ∙ ap (λ (n : NotedView Writing). n.shard) both ∙ c.self.invariant.1 ∙ ap (λ (l : Locked). Some l.index) c.self.view_is ∙ ap Some (sym (c.requires.key k named));
      seen = (sym long, omega arith, omega arith);
    }

pub invariant_of-self : goal.invariant_of-self
invariant_of-self g c =
    let both = c.enter.ensures.both in
    let looked = c.look-loaded.ensures.looked in
    let holds = c.write_locked-handed.ensures.holds in
    let stays = c.leave.ensures.stayed in
    let low = holds.agrees.floor in
    let same = ap (λ (n : NotedView Writing). length n.seen) stays in (
      c.leave.ensures.line.0 ∙ c.write_locked-handed.ensures.line ∙ c.look-loaded.ensures.line ∙ c.enter.ensures.line ∙ c.self.invariant.0,
      ap (λ (n : NotedView Writing). n.shard) stays ∙ holds.shard ∙ ap (λ (n : NotedView Writing). n.shard) looked ∙ ap (λ (n : NotedView Writing). n.shard) both ∙ c.self.invariant.1,
      ap (λ (n : NotedView Writing). n.caller) stays,
      ap (λ (n : NotedView Writing). n.plain.pending) stays ∙ holds.pending,
      agrees_as _ _ _ _ _ _ _ holds.agrees (ap (λ (n : NotedView Writing). n.notes) stays) (ap (λ (n : NotedView Writing). n.plain.filled) stays) (omega arith),
    )

pub invariant_of-caller : goal.invariant_of-caller
invariant_of-caller g c = (
  c.leave.ensures.line.1 ∙ c.write_locked-handed.ensures.line ∙ c.look-loaded.ensures.line ∙ c.enter.ensures.line ∙ c.self.invariant.0,
  left_view g.H.Sharding.shards 0 c.write_locked-handed.new.seat.view c.leave.result.view c.leave.ensures.left c.write_locked-handed.ensures.holds.caller,
)

pub returns-clause-begins : goal.returns-clause-begins
returns-clause-begins g c =
    let own = subst (IsCaller g.N.Naming.line g.H.Sharding.shards) (sym c.take.ensures.value ∙ c.in-Some.is) c.caller.invariant in
    let within = c.look-loaded.ensures.risen.1 in
    let size = c.requires.line.1 in
    handed_begins g.H.Sharding.shards g.N.Naming.capacity c.args.caller.now c.self.inside.seat.view c.in-Some.seat.view c.enter.new.seat.view c.look-loaded.new.seat.view c.write_locked-handed.new.seat.view c.leave.result.view c.write_locked-handed.new.shard c.look-loaded.result
    (ap (λ o. caller_by (view_or o)) (sym c.in-Some.is ∙ c.take.ensures.value) ∙ c.caller.view_is) c.enter.ensures.both c.look-loaded.ensures.looked c.look-loaded.ensures.sees own.1 (omega arith) c.write_locked-handed.ensures.holds c.leave.ensures.left

pub returns-clause-loaded : goal.returns-clause-loaded
returns-clause-loaded g c =
    let own = subst (IsCaller g.N.Naming.line g.H.Sharding.shards) (sym c.take.ensures.value ∙ c.in-Some.is) c.caller.invariant in
    let within = c.look-loaded.ensures.risen.1 in
    let size = c.requires.line.1 in
    handed_once g.H.Sharding.shards g.N.Naming.capacity c.args.caller.now c.self.inside.seat.view c.in-Some.seat.view c.enter.new.seat.view c.look-loaded.new.seat.view c.write_locked-handed.new.seat.view c.leave.result.view c.write_locked-handed.new.shard c.look-loaded.result
    (ap (λ o. caller_by (view_or o)) (sym c.in-Some.is ∙ c.take.ensures.value) ∙ c.caller.view_is) c.enter.ensures.both c.look-loaded.ensures.looked c.look-loaded.ensures.sees own.1 (omega arith) c.write_locked-handed.ensures.holds c.leave.ensures.left

pub returns-clause-ticket : goal.returns-clause-ticket
returns-clause-ticket g c =
    let S = g.H.Sharding.shards in
    let C = g.N.Naming.capacity in
    subst (λ (x : Caller). IfOk c.write_locked-handed.result (λ t. IsTicketOf S C t x × (t.request ≡ c.args.request) × (t.since ≡ length c.args.caller.now.seen) × IsSome t.reply)) (sym (left_caller S 0 c.write_locked-handed.new.seat.view c.leave.result.view c.leave.ensures.left))
    (subst (λ n. IfOk c.write_locked-handed.result (λ t. IsTicketOf S C t (caller_by c.write_locked-handed.new.seat.view) × (t.request ≡ c.args.request) × (t.since ≡ n) × IsSome t.reply)) c.seen-since.ensures c.write_locked-handed.ensures.ticket)

pub returns-clause-own : goal.returns-clause-own
returns-clause-own g c =
    let own = subst (IsCaller g.N.Naming.line g.H.Sharding.shards) (sym c.take.ensures.value ∙ c.in-Some.is) c.caller.invariant in
    let within = c.look-loaded.ensures.risen.1 in
    let size = c.requires.line.1 in
    if_ok (λ t. WritesOwn (caller_by c.look-loaded.new.seat.view) t (caller_by c.write_locked-handed.new.seat.view)) (λ t. WritesOwn c.args.caller.now t (caller_by c.leave.result.view)) c.write_locked-handed.result
    (handed_own g.H.Sharding.shards g.N.Naming.capacity c.args.caller.now c.self.inside.seat.view c.in-Some.seat.view c.enter.new.seat.view c.look-loaded.new.seat.view c.write_locked-handed.new.seat.view c.leave.result.view c.write_locked-handed.new.shard c.look-loaded.result
    (ap (λ o. caller_by (view_or o)) (sym c.in-Some.is ∙ c.take.ensures.value) ∙ c.caller.view_is) c.enter.ensures.both c.look-loaded.ensures.looked c.look-loaded.ensures.sees own.1 (omega arith) c.write_locked-handed.ensures.holds c.leave.ensures.left)
    c.write_locked-handed.ensures.own

pub returns-clause-wrote : goal.returns-clause-wrote
returns-clause-wrote g c =
    let before = ap (λ (n : NotedView Writing). n.notes) c.look-loaded.ensures.looked ∙ ap (λ (n : NotedView Writing). n.notes) c.enter.ensures.both ∙ ap (λ (l : Locked). l.notes) c.self.view_is in
    let after = ap (λ (n : NotedView Writing). n.notes) c.leave.ensures.stayed in
    subst (λ l. IfOk c.write_locked-handed.result (λ t. WritesNotes c.args.self.now.notes t l)) (sym after)
    (subst (λ l. IfOk c.write_locked-handed.result (λ t. WritesNotes l t c.write_locked-handed.new.seat.view.notes)) before c.write_locked-handed.ensures.wrote)

pub returns-clause-outcome : goal.returns-clause-outcome
returns-clause-outcome g c =
    subst (λ (l : Locked). IfOk c.write_locked-handed.result (λ t. (k : Key) → key_named c.args.request ≡ Some k → IsOutcome g.N.Naming.capacity l.shard.records (number_in (newest l.shard.records k)) (verdict c.args.request (current l.shard.records k)) t c.write_locked-handed.new.shard.records))
    c.self.view_is c.write_locked-handed.ensures.outcome

pub returns-clause-floor : goal.returns-clause-floor
returns-clause-floor g c = c.write_locked-handed.ensures.floor ∙ ap (λ (l : Locked). l.shard.floor) c.self.view_is

pub returns-clause-memory : goal.returns-clause-memory
returns-clause-memory g c =
    let own = subst (IsCaller g.N.Naming.line g.H.Sharding.shards) (sym c.take.ensures.value ∙ c.in-Some.is) c.caller.invariant in
    let within = c.look-loaded.ensures.risen.1 in
    let size = c.requires.line.1 in
    let notes = λ (e : c.write_locked-handed.new.seat.view ≡ c.look-loaded.new.seat.view). ap (λ (n : NotedView Writing). n.notes) c.leave.ensures.stayed ∙ ap (λ (n : NotedView Writing). n.notes) e ∙ ap (λ (n : NotedView Writing). n.notes) c.look-loaded.ensures.looked ∙ ap (λ (n : NotedView Writing). n.notes) c.enter.ensures.both in
    on_err c.write_locked-handed.result
    (λ (e : (c.write_locked-handed.new.seat.view ≡ c.look-loaded.new.seat.view) × (c.write_locked-handed.new.shard ≡ c.self.inside.shard)).
    let back = handed_back g.H.Sharding.shards g.N.Naming.capacity c.args.caller.now c.self.inside.seat.view c.in-Some.seat.view c.enter.new.seat.view c.look-loaded.new.seat.view c.write_locked-handed.new.seat.view c.leave.result.view c.write_locked-handed.new.shard c.look-loaded.result
    (ap (λ o. caller_by (view_or o)) (sym c.in-Some.is ∙ c.take.ensures.value) ∙ c.caller.view_is) c.enter.ensures.both c.look-loaded.ensures.looked c.look-loaded.ensures.sees own.1 (omega arith) c.write_locked-handed.ensures.holds c.leave.ensures.left e.0 in
    (left_as c.self.inside.index _ _ _ _ (notes e.0) e.1 ∙ c.self.view_is, back))
    c.write_locked-handed.ensures.memory
