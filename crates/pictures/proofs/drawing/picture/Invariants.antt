use Rattle.std.proofs.Common.{◌≡◌, [], string_bytes, take}
use Rattle.history.specs.After.{IsAfter}
use Rattle.interleavings.specs.World.{Size, opening}
use Rattle.pictures.specs.Picture.{lines_of, participants}
use Rattle.pictures.proofs.drawing.picture.Given as goal

abbrev pub invariant-loop-event : goal.invariant-loop-event
invariant-loop-event g l =
    let z : Size = record { capacity = l.capacity; shards = l.shards } in
    record {
      after : IsAfter z (take l.event-index l.events) l.replay;
      named : l.callers.keys ≡ participants l.shown z [] opening (take l.event-index l.events);
      lines : string_bytes l.lines ≡ lines_of l.shown z 0 opening (take l.event-index l.events);
    }
