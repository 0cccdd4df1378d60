use Rattle.std.proofs.Common.{◌≡◌, ap, sym, ◌∙◌, ◌++◌, ◌∷◌, [], length, arith}
use Rattle.std.specs.FinMap as map
use Rattle.version_map.proofs.Tombstones.{put_here, put_keeps}
use Rattle.version_map.proofs.SlotChains.{slotted_new, still_new}
use Rattle.version_map.proofs.map.add_slot.Goals as goal

pub returns-clause-slotted : goal.returns-clause-slotted
returns-clause-slotted g c =
    let size : c.len-slot.result ≡ length c.args.chains.now.items = omega arith in
    slotted_new c.args.index.now.all c.insert.new.self.all c.args.chains.now.items c.push_reserved.new.self.items c.args.key.now c.new.result c.requires.slotted (sym c.requires.new.0) c.new.ensures.rows
    (c.push_reserved.ensures.items ∙ ap (λ cs. cs ++ c.new.result ∷ []) c.reserve.ensures.items)
    (ap (λ i. i.all) c.in_ok-insert.ensures.ok ∙ ap (map.insert c.args.index.now.all c.args.key.now) size)

pub returns-clause-still : goal.returns-clause-still
returns-clause-still g c =
    let size : c.len-slot.result ≡ length c.args.chains.now.items = omega arith in
    still_new c.args.index.now.all c.insert.new.self.all c.args.chains.now.items c.push_reserved.new.self.items c.args.key.now c.new.result c.requires.slotted (sym c.requires.new.0) c.new.ensures.rows
    (c.push_reserved.ensures.items ∙ ap (λ cs. cs ++ c.new.result ∷ []) c.reserve.ensures.items)
    (ap (λ i. i.all) c.in_ok-insert.ensures.ok ∙ ap (map.insert c.args.index.now.all c.args.key.now) size)

pub returns-clause-kept : goal.returns-clause-kept
returns-clause-kept g c k p there =
    let l = c.args.index.now.listed in
    ap (λ i. map.get i.listed k) c.in_ok-insert.ensures.ok
    ∙ put_keeps l l c.args.key.now c.len-slot.result (sym c.requires.new.1) k p there

pub returns-clause-listed : goal.returns-clause-listed
returns-clause-listed g c =
    let l = c.args.index.now.listed in
    ap (λ i. map.get i.listed c.args.key.now) c.in_ok-insert.ensures.ok ∙ put_here l l c.args.key.now c.len-slot.result

pub returns-clause-slot : goal.returns-clause-slot
returns-clause-slot g c =
    ap (λ i. map.get i.all c.args.key.now) c.in_ok-insert.ensures.ok ∙ put_here c.args.index.now.all c.args.index.now.all c.args.key.now c.len-slot.result
