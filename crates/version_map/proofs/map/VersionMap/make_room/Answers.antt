use Rattle.std.proofs.Common.{arith}
use Rattle.version_map.proofs.Tombstones.{listed_still, room_listed}
use Rattle.version_map.proofs.Steps.{on_err, room_view, same_view, still_room, still_consistent}
use Rattle.version_map.proofs.map.VersionMap.make_room.Goals as goal

pub invariant_of-self-in_err-slot : goal.invariant_of-self-in_err-slot
invariant_of-self-in_err-slot g c =
    let len = c.reserve.ensures.len in
    let capacity = c.reserve.ensures.capacity in (
      still_consistent _ _ _ _ _ _ _ c.reserve_for.ensures.still c.reserve_for.ensures.slotted c.reserve.ensures.items c.self.invariant.0,
      still_room _ _ _ _ c.self.inside.room c.reserve_for.ensures.still c.self.invariant.1,
      listed_still _ _ _ _ _ c.reserve_for.ensures.still.by_key c.reserve_for.ensures.kept c.self.invariant.2,
      room_listed _ _ c.self.inside.room c.reserve_for.ensures.still.keys c.reserve_for.ensures.kept c.self.invariant.3,
      λ some. (let held = (c.self.invariant.4 some).0 in omega (arith, len, capacity, held), (c.self.invariant.4 some).1),
      c.reserve_for.ensures.free,
    )

pub returns-in_err-slot-clause-memory : goal.returns-in_err-slot-clause-memory
returns-in_err-slot-clause-memory g c =
    on_err c.from_residual-in_err-slot.result (same_view c.self.inside.index.all c.self.inside.chains.items c.reserve_for.new.index.all c.reserve_for.new.chains.items _ _ c.self.inside.room c.self.view_is
    c.reserve_for.ensures.still c.self.invariant.0.slotted c.reserve_for.ensures.slotted c.self.invariant.1)

pub invariant_of-self-2 : goal.invariant_of-self-2
invariant_of-self-2 g c =
    let more = c.in_ok-reserve.ensures.ok in
    let largest = c.if-self.false in
    let fits = c.self.ranges.1 in (
      still_consistent _ _ _ _ _ _ _ c.reserve_for.ensures.still c.reserve_for.ensures.slotted c.reserve.ensures.items c.self.invariant.0,
      ((c.args.key.now, c.in_ok-slot.ensures.room.0), c.in_ok-slot.ensures.room.1),
      listed_still _ _ _ _ _ c.reserve_for.ensures.still.by_key c.reserve_for.ensures.kept c.self.invariant.2,
      (c.args.key.now, c.in_ok-slot.ensures.room.0, c.in_ok-slot.ensures.listed),
      λ some. (omega (arith, more), omega (arith, largest, fits)),
      c.reserve_for.ensures.free,
    )

pub returns-clause-made : goal.returns-clause-made
returns-clause-made g c =
    room_view c.self.inside.index.all c.self.inside.chains.items c.reserve_for.new.index.all c.reserve_for.new.chains.items c.args.key.now _ _ c.in_ok-slot.slot _ c.self.view_is c.reserve_for.ensures.still
    c.reserve_for.ensures.slotted c.in_ok-slot.ensures.room.0
