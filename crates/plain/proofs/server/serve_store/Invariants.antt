use Rattle.std.proofs.Common.{◌≡◌, ◌+◌, ◌≤◌, [], length}
use Rattle.plain.specs.Splits.{NoFeed}
use Rattle.plain.specs.Serving.{Serving}
use Rattle.plain.proofs.server.serve_store.Given as goal

abbrev pub invariant-reads : goal.invariant-reads
invariant-reads g l = record {
  serving : Serving l.fn.plain (g.R.Source.remaining l.fn.reader) (g.R.Source.remaining l.reader) (g.W.Sink.written l.fn.writer) (g.W.Sink.written l.writer) l.plain
      l.splitter.pending.items l.splitter.lines;
  begun : NoFeed l.splitter.pending.items;
  written : l.splitter.replies.items ≡ [];
  room : l.splitter.lines + length l.splitter.pending.items + g.R.Source.most l.reader ≤ g.R.Source.most l.fn.reader;
  reads : g.R.Source.failures l.reader ≡ g.R.Source.failures l.fn.reader;
  writes : g.W.Sink.failures l.writer ≡ g.W.Sink.failures l.fn.writer;
}

abbrev pub decreases-reads : goal.decreases-reads
decreases-reads g l = g.R.Source.most l.reader
