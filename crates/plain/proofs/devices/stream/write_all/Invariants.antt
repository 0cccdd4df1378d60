use Rattle.std.proofs.Common.{◌≡◌, length}
use Rattle.plain.proofs.Flows.{PutsBefore, RoomBefore}
use Rattle.plain.proofs.devices.stream.write_all.Given as goal

abbrev pub invariant-loop-rest : goal.invariant-loop-rest
invariant-loop-rest g l = record {
  put : PutsBefore (g.W.Sink.written l.fn.writer) l.bytes l.rest (g.W.Sink.written l.writer);
  room : RoomBefore (g.W.Sink.room l.fn.writer) l.bytes l.rest (g.W.Sink.room l.writer);
  well : g.W.Sink.failures l.writer ≡ g.W.Sink.failures l.fn.writer;
}

abbrev pub decreases-loop-rest : goal.decreases-loop-rest
decreases-loop-rest g l = length l.rest
