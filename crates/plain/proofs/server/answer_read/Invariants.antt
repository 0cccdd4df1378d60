use Rattle.std.proofs.Common.{◌≡◌, ◌+◌, ◌≤◌, [], ◌++◌, length}
use Rattle.plain.specs.Splits.{NoFeed}
use Rattle.plain.specs.Serving.{Answered}
use Rattle.plain.proofs.server.answer_read.Given as goal

abbrev pub invariant-loop-rest : goal.invariant-loop-rest
invariant-loop-rest g l = record {
  answered : Answered l.fn.plain (l.fn.splitter.pending.items ++ l.fn.piece) l.fn.splitter.lines (g.W.Sink.written l.fn.writer) l.plain (l.splitter.pending.items ++ l.rest)
      l.splitter.lines (g.W.Sink.written l.writer);
  begun : NoFeed l.splitter.pending.items;
  written : l.splitter.replies.items ≡ [];
  count : l.splitter.lines + length l.splitter.pending.items + length l.rest ≤ l.fn.splitter.lines + length l.fn.splitter.pending.items + length l.fn.piece;
  writes : g.W.Sink.failures l.writer ≡ g.W.Sink.failures l.fn.writer;
}

abbrev pub decreases-loop-rest : goal.decreases-loop-rest
decreases-loop-rest g l = length l.rest
