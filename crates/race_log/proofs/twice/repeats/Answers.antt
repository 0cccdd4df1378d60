use Rattle.std.proofs.Common.{false, get_or, arith}
use Rattle.race_log.specs.declared.stamp.Stamp.{Stamp}
use Rattle.race_log.specs.Twice.{reply_at, with_next}
use Rattle.race_log.proofs.Walks.{replies_in_order-next}
use Rattle.race_log.proofs.twice.repeats.Goals as goal

pub loop-stamp-preserved : goal.loop-stamp-preserved
loop-stamp-preserved c =
    let d : Stamp = record { number = 0; follows = false; call = 0; reply = 0 } in
    let inv = c.loop-stamp.invariant in
    record {
      earlier = with_next (reply_at c.args.items.now (get_or c.args.order.now c.loop-stamp.stamp-index d).reply) inv.earlier;
      known = c.in_ok-on_reply_at.ensures.known inv.earlier inv.known;
      whole = replies_in_order-next c.args.items.now c.args.order.now c.loop-stamp.stamp-index d inv.earlier _ c.loop-stamp-test.true inv.whole;
      counted = omega (arith, c.in_ok-on_reply_at.ensures.counted);
    }
