use Rattle.std.proofs.Common.{◌++◌, take, inr, refl, arith}
use Rattle.plain.proofs.LineSplits.{NoFeed-none, NoFeed-end, LeadsTo-next, LeadsTo-end, shorter-next, count-next}
use Rattle.plain.proofs.lines.splitter.answer_piece.Goals as goal

pub returns-then-len-ge-ENOUGH-clause-reaches : goal.returns-then-len-ge-ENOUGH-clause-reaches
returns-then-len-ge-ENOUGH-clause-reaches c =
    LeadsTo-next _ c.loop-at.plain _ c.loop-at.splitter.pending.items _ c.loop-at.rest.now _ c.loop-at.splitter.replies.items _ c.loop-at.splitter.lines _ c.in-Some.at
    c.loop-at.invariant.reaches c.loop-at.invariant.begun c.in-Some.ensures.0 c.in-Some.ensures.1 c.in_ok-splitter.ensures.text c.in_ok-splitter.ensures.store
    c.in_ok-splitter.ensures.pending c.in_ok-splitter.ensures.count refl

pub returns-then-len-ge-ENOUGH-clause-shorter : goal.returns-then-len-ge-ENOUGH-clause-shorter
returns-then-len-ge-ENOUGH-clause-shorter c =
    let less = shorter-next c.loop-at.rest.now _ c.in-Some.at c.in-Some.ensures.0.high refl in
    λ _. omega (arith, less, c.loop-at.invariant.shorter)

pub returns-then-len-ge-ENOUGH-clause-few : goal.returns-then-len-ge-ENOUGH-clause-few
returns-then-len-ge-ENOUGH-clause-few c =
    (c.loop-at.splitter.replies.items, c.loop-at.invariant.few, inr (c.loop-at.plain, c.loop-at.splitter.pending.items ++ take c.in-Some.at c.loop-at.rest.now, c.in_ok-splitter.ensures.text))

pub loop-at-preserved : goal.loop-at-preserved
loop-at-preserved c =
    let less = shorter-next c.loop-at.rest.now _ c.in-Some.at c.in-Some.ensures.0.high refl in
    record {
      begun = NoFeed-none _ c.in_ok-splitter.ensures.pending;
      reaches =
          LeadsTo-next _ c.loop-at.plain _ c.loop-at.splitter.pending.items _ c.loop-at.rest.now _ c.loop-at.splitter.replies.items _ c.loop-at.splitter.lines _ c.in-Some.at
          c.loop-at.invariant.reaches c.loop-at.invariant.begun c.in-Some.ensures.0 c.in-Some.ensures.1 c.in_ok-splitter.ensures.text c.in_ok-splitter.ensures.store
          c.in_ok-splitter.ensures.pending c.in_ok-splitter.ensures.count refl;
      count =
          count-next c.loop-at.splitter.pending.items _ c.loop-at.rest.now _ c.loop-at.splitter.lines _ c.in-Some.at _ c.in-Some.ensures.0.high c.in_ok-splitter.ensures.pending
          c.in_ok-splitter.ensures.count refl c.loop-at.invariant.count;
      shorter = omega (arith, less, c.loop-at.invariant.shorter);
      few = omega (arith, c.if-len-ge-ENOUGH.false);
    }

pub returns-clause-reaches : goal.returns-clause-reaches
returns-clause-reaches c =
    LeadsTo-end _ _ c.loop-at.splitter.pending.items _ c.loop-at.rest.now _ _ c.loop-at.invariant.reaches c.loop-at.invariant.begun c.in_default.ensures
    c.in_ok-pending.ensures

pub returns-clause-begun : goal.returns-clause-begun
returns-clause-begun c =
    NoFeed-end c.loop-at.splitter.pending.items _ c.loop-at.rest.now c.loop-at.invariant.begun c.in_default.ensures c.in_ok-pending.ensures
