use Rattle.std.proofs.Common.{◌≡◌}
use Rattle.plain.specs.Streams.{Takes}
use Rattle.plain.proofs.devices.input.read_by.Given as goal

abbrev pub invariant-reads : goal.invariant-reads
invariant-reads g l = record {
  taken : Takes (g.R.Source.remaining l.fn.reader) l.bytes.items (g.R.Source.remaining l.reader);
  reads : g.R.Source.failures l.reader ≡ g.R.Source.failures l.fn.reader;
}

abbrev pub decreases-reads : goal.decreases-reads
decreases-reads g l = g.R.Source.most l.reader
