use Rattle.std.proofs.Common.{refl, ◌∙◌}
use Rattle.plain.proofs.Flows.{PutsBefore-next, RoomBefore-next}
use Rattle.plain.proofs.devices.stream.write_all.Goals as goal

pub loop-rest-preserved : goal.loop-rest-preserved
loop-rest-preserved g c = record {
  put =
      PutsBefore-next (g.W.Sink.written c.args.writer.now) (g.W.Sink.written c.loop-rest.writer) _ c.args.bytes.now c.loop-rest.rest.now _ c.in_ok-count.count
      c.loop-rest.invariant.put c.in_ok-count.ensures.put refl;
  room =
      RoomBefore-next (g.W.Sink.room c.args.writer.now) (g.W.Sink.room c.loop-rest.writer) _ c.args.bytes.now c.loop-rest.rest.now _ c.in_ok-count.count
      c.loop-rest.invariant.room c.in_ok-count.ensures.used c.in_ok-count.ensures.fits refl;
  well = c.in_ok-count.ensures.well ∙ c.loop-rest.invariant.well;
}
