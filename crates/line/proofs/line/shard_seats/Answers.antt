use Rattle.std.proofs.Common.{rules, ap, ◌∙◌, sym, subst}
use Rattle.line.specs.Seat.{AreShards}
use Rattle.line.proofs.Shards.{cut_more, seat_is, more_shards}
use Rattle.line.proofs.line.shard_seats.Goals as goal

pub loop-preserved : goal.loop-preserved
loop-preserved g c =
    let cut = c.loop.invariant.2 in
    let seat = seat_is c.next_shard_seat.result c.args.first.now.table_id c.args.first.now.me.0 c.loop.first.me.0 c.loop.counter (c.next_shard_seat.ensures.seat.0 ∙ c.loop.invariant.0) c.next_shard_seat.ensures.seat.1 cut (ap (λ p. p.0) c.requires.shards.0) in
    let more = more_shards c.args.first.now.table_id c.args.first.now.me.0.plain.capacity c.loop.seats.items c.next_shard_seat.result c.loop.counter c.loop.invariant.3 c.loop.invariant.4 seat in (
      search rules,
      search rules,
      cut_more c.loop.counter c.args.first.now.me.0 c.loop.first.me.0 c.next_shard_seat.new.first.me.0 cut (ap (λ p. p.0) c.next_shard_seat.ensures.first.1),
      search rules,
      subst (λ l. AreShards c.args.first.now.table_id c.args.first.now.me.0.plain.capacity l) (sym c.in_ok-push.ensures.items) more,
    )

pub returns-in_err-push-clause-first : goal.returns-in_err-push-clause-first
returns-in_err-push-clause-first g c = (
  search rules,
  search rules,
  (_, cut_more c.loop.counter c.args.first.now.me.0 c.loop.first.me.0 c.next_shard_seat.new.first.me.0 c.loop.invariant.2 (ap (λ p. p.0) c.next_shard_seat.ensures.first.1)),
)
