use Rattle.std.proofs.Common.{◌+◌, ◌<◌, ◌≤◌, ◌++◌, length}
use Rattle.plain.specs.Splits.{NoFeed, LeadsTo}
use Rattle.plain.proofs.lines.splitter.answer_piece.Given as goal

abbrev pub invariant-loop-at : goal.invariant-loop-at
invariant-loop-at l = record {
  begun : NoFeed l.splitter.pending.items;
  reaches : LeadsTo
      (record { store = l.fn.plain; waiting = l.fn.splitter.pending.items ++ l.fn.piece; text = l.fn.splitter.replies.items; count = l.fn.splitter.lines })
      (record { store = l.plain; waiting = l.splitter.pending.items ++ l.rest; text = l.splitter.replies.items; count = l.splitter.lines });
  count : l.splitter.lines + length l.splitter.pending.items + length l.rest ≤ l.fn.splitter.lines + length l.fn.splitter.pending.items + length l.fn.piece;
  shorter : length l.rest ≤ length l.fn.piece;
  few : length l.splitter.replies.items < 65536;
}

abbrev pub decreases-loop-at : goal.decreases-loop-at
decreases-loop-at l = length l.rest
