use Rattle.std.proofs.Common.{◌∙◌, Ok, Some, ap, sym, subst}
use Rattle.requests.specs.Verdict.{verdict}
use Rattle.requests.specs.declared.verdict.Verdict.TheVariants.{Write}
use Rattle.versions.specs.Records.{current, newest}
use Rattle.versions.specs.Shard.{Shard}
use Rattle.store.specs.Views.{IsOutcome, number_in}
use Rattle.store.proofs.Readings.{current_is}
use Rattle.store.proofs.Outcomes.{outcome_of}
use Rattle.store.proofs.Writes.{holds_room, own_key}
use Rattle.store.proofs.write_steps.carry_out.Goals as goal

pub publish-requires-clause-holds : goal.publish-requires-clause-holds
publish-requires-clause-holds g c =
    holds_room g.H.Sharding.shards 0 (Ok tt) c.args.shard.now c.make_room.new.self c.args.seat.now.view c.key.result.now c.requires.holds c.in-Ok.ensures.made tt

pub publish-requires-clause-key : goal.publish-requires-clause-key
publish-requires-clause-key g c = λ k named.
    let q = c.requires.key k named in
    let v = c.args.seat.now.view in
    let h = c.requires.holds in
    let made = c.in-Ok.ensures.made in
    let judged = ap (verdict c.args.request.value) (sym (current_is c.args.shard.now.records v.notes h.agrees.latest k)) ∙ q.1 in
    let own = own_key g.H.Sharding.shards 0 v c.args.request.value c.args.change k c.requires.write named q.0 judged in
    (q.0, ap (λ (s : Shard). verdict c.args.request.value (current s.records k)) made ∙ q.1, ap (λ (s : Shard). s.room) made ∙ ap Some (c.key.ensures ∙ own))

pub returns-clause-outcome : goal.returns-clause-outcome
returns-clause-outcome g c = λ k named.
    let C = g.N.Naming.capacity in
    let old = c.args.shard.now.records in
    outcome_of g.H.Sharding.shards C old c.publish.new.shard.records (number_in (newest old k)) (Write c.args.change) (verdict c.args.request.value (current old k)) c.publish.result (sym (c.requires.key k named).1)
    (subst (λ (s : Shard). IsOutcome C s.records 0 (Write c.args.change) c.publish.result c.publish.new.shard.records) c.in-Ok.ensures.made c.publish.ensures.outcome)

pub returns-clause-floor : goal.returns-clause-floor
returns-clause-floor g c = c.publish.ensures.floor ∙ ap (λ (s : Shard). s.floor) c.in-Ok.ensures.made
