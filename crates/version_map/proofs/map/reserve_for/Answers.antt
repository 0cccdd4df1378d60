use Rattle.version_map.proofs.Forgotten.{same_free}
use Rattle.version_map.proofs.SlotChains.{slotted_read, room_read, still_all, still_read}
use Rattle.version_map.proofs.map.reserve_for.Goals as goal

pub returns : goal.returns
returns g c =
    let ps = c.slot_of.new.index.all in
    let cs = c.slot_of.new.chains.items in record {
      slotted = slotted_read ps cs c.args.key.now c.in_ok-slot.slot c.index_mut-chain.result.now c.reserve.new.self c.slot_of.ensures.slotted c.in_ok-slot.ensures.slot c.index_mut-chain.ensures.value
          c.reserve.ensures.rows c.reserve.ensures.kept;
      free = same_free ps cs c.in_ok-slot.slot c.reserve.new.self c.slot_of.new.free.items c.slot_of.ensures.free;
      still = still_all c.slot_of.ensures.still (still_read ps cs c.args.key.now c.in_ok-slot.slot c.index_mut-chain.result.now c.reserve.new.self c.slot_of.ensures.slotted c.in_ok-slot.ensures.slot
          c.index_mut-chain.ensures.value c.reserve.ensures.rows c.reserve.ensures.kept);
      kept = c.slot_of.ensures.kept;
      listed = c.in_ok-slot.ensures.listed;
      room = (
        c.in_ok-slot.ensures.slot,
        room_read ps cs c.args.key.now c.in_ok-slot.slot c.index_mut-chain.result.now c.reserve.new.self c.slot_of.ensures.slotted c.in_ok-slot.ensures.slot
            c.index_mut-chain.ensures.value c.reserve.ensures.rows c.reserve.ensures.kept c.in_ok-reserve.ensures.room,
      );
    }
