use Rattle.std.proofs.Common.{IfSome, length, sym, ap, subst, arith}
use Rattle.version_map.specs.Forgotten.{AreFree}
use Rattle.version_map.specs.Consistent.{HasRoom, IsConsistent}
use Rattle.version_map.proofs.Tombstones.{listed_with_tombstone, room_beside}
use Rattle.version_map.proofs.Forgotten.{removal_there, removal_value}
use Rattle.version_map.proofs.map.VersionMap.hide.Goals as goal

pub index-requires : goal.index-requires
index-requires g c = let within = c.self.invariant.0.slotted.within c.args.key.now c.in-Some.slot (sym c.in-Some.ensures) in omega arith

pub invariant_of-self : goal.invariant_of-self
invariant_of-self g c =
    let all = sym c.set_tombstone.ensures.all in
    let ps = c.self.inside.index.all in
    let cs = c.self.inside.chains.items in
    let there = sym c.in-Some.ensures in
    let since = c.self.inside.gone_since in
    let removal = removal_there ps cs c.args.key.now c.in-Some.slot c.index.result.now c.self.invariant.0.slotted there c.index.ensures (c.is_removal.ensures c.if-not-is_removal.false) in (
      subst (λ qs. IsConsistent qs cs c.self.inside.superseding.items c.self.inside.count) all c.self.invariant.0,
      subst (λ qs. IfSome c.self.inside.room (HasRoom qs cs)) all c.self.invariant.1,
      listed_with_tombstone since since c.self.inside.index c.set_tombstone.new.self cs _ c.args.key.now (omega arith) c.set_tombstone.ensures.all (ap (λ v. v.rows) c.self.view_is)
          (λ n from. removal_value ps cs _ c.args.key.now c.in-Some.slot (ap (λ v. v.rows) c.self.view_is) there removal n) c.set_tombstone.ensures.others c.self.invariant.2,
      room_beside c.self.inside.index c.set_tombstone.new.self c.self.inside.room c.args.key.now c.in-Some.slot c.set_tombstone.ensures.all there (c.has_room.ensures c.if-has_room.false)
          c.set_tombstone.ensures.others c.self.invariant.3,
      c.self.invariant.4,
      subst (λ qs. AreFree qs (length cs) c.self.inside.free.items) all c.self.invariant.5,
    )
