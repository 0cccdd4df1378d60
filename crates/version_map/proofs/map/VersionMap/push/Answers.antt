use Rattle.std.proofs.Common.{if◌then◌else◌, ◌++◌, ◌∷◌, [], IfSome, is_some, sym, ap, subst, ◌∙◌, true≢false}
use Rattle.std.proofs.Math.ListN.{set}
use Rattle.version_map.specs.Consistent.{HasRoom, IsListed}
use Rattle.version_map.proofs.Tombstones.{listed_pushed}
use Rattle.version_map.proofs.Forgotten.{same_free}
use Rattle.version_map.proofs.Lists.{written_view}
use Rattle.version_map.proofs.SlotChains.{key_of}
use Rattle.version_map.proofs.Steps.{below_read, its_room, pushed_view, roomy_read, rows_pushed, consistent_pushed}
use Rattle.version_map.proofs.map.VersionMap.push.Goals as goal

pub push-requires-clause-above : goal.push-requires-clause-above
push-requires-clause-above g c =
    below_read c.self.inside.index.all c.self.inside.chains.items c.in-Some.slot c.args.number c.args.state c.index_mut-chain.result.now c.index_mut-chain.result.now c.self.invariant.0.slotted
    (its_room c.self.inside.index.all c.self.inside.chains.items c.in-Some.slot c.self.inside.room c.in-Some.ensures.value c.self.invariant.1) c.index_mut-chain.ensures.value _ (ap (λ v. v.rows) c.self.view_is) c.requires.above

pub push-requires-clause-room : goal.push-requires-clause-room
push-requires-clause-room g c =
    roomy_read c.self.inside.index.all c.self.inside.chains.items c.in-Some.slot c.args.number c.args.state c.index_mut-chain.result.now c.index_mut-chain.result.now c.self.invariant.0.slotted
    (its_room c.self.inside.index.all c.self.inside.chains.items c.in-Some.slot c.self.inside.room c.in-Some.ensures.value c.self.invariant.1) c.index_mut-chain.ensures.value

pub invariant_of-self : goal.invariant_of-self
invariant_of-self g c = (
  consistent_pushed c.self.inside.index.all c.self.inside.chains.items c.in-Some.slot c.args.number c.args.state c.index_mut-chain.result.now c.push.new.self c.self.invariant.0.slotted
      (its_room c.self.inside.index.all c.self.inside.chains.items c.in-Some.slot c.self.inside.room c.in-Some.ensures.value c.self.invariant.1) c.index_mut-chain.ensures.value
      c.self.inside.superseding.items c.enqueue.new.superseding.items c.self.inside.count _ (ap (λ v. v.rows) c.self.view_is) c.self.invariant.0 c.requires.above c.push.ensures
      (c.enqueue.ensures ∙ ap (λ b. if b then c.self.inside.superseding.items else c.self.inside.superseding.items ++ (record { number = c.args.number; slot = c.in-Some.slot }) ∷ []) c.is_empty-is_first.ensures),
  subst (λ r. IfSome r (HasRoom c.self.inside.index.all (set c.self.inside.chains.items c.in-Some.slot c.push.new.self))) (sym c.in-Some.ensures.after) tt,
  listed_pushed _ c.self.inside.index c.self.inside.chains.items c.in-Some.slot c.push.new.self c.self.invariant.0.slotted
      (subst (λ r. IfSome r (IsListed c.self.inside.index)) (sym c.in-Some.ensures.value) c.self.invariant.3) c.self.invariant.2,
  subst (λ r. IfSome r (IsListed c.self.inside.index)) (sym c.in-Some.ensures.after) tt,
  λ some. absurd (true≢false (sym some ∙ ap is_some c.in-Some.ensures.after)),
  same_free c.self.inside.index.all c.self.inside.chains.items c.in-Some.slot c.push.new.self c.self.inside.free.items c.self.invariant.5,
)

pub returns-clause-pushed : goal.returns-clause-pushed
returns-clause-pushed g c =
    let has = its_room c.self.inside.index.all c.self.inside.chains.items c.in-Some.slot c.self.inside.room c.in-Some.ensures.value c.self.invariant.1 in
    pushed_view c.self.inside.index.all c.self.inside.chains.items _ c.in-Some.slot c.args.number has.0.0 c.args.state _ c.self.inside.floor c.self.inside.room c.take.new.self
    c.self.view_is c.in-Some.ensures.value (key_of c.self.inside.index.all c.self.inside.chains.items has.0.0 c.in-Some.slot c.self.invariant.0.slotted has.0.1) c.in-Some.ensures.after
    (rows_pushed c.self.inside.index.all c.self.inside.chains.items c.in-Some.slot c.args.number c.args.state c.index_mut-chain.result.now c.push.new.self c.self.invariant.0.slotted
    has c.index_mut-chain.ensures.value c.self.inside.superseding.items c.self.inside.count _ (ap (λ v. v.rows) c.self.view_is) c.self.invariant.0 c.requires.above c.push.ensures)

pub returns-clause-written : goal.returns-clause-written
returns-clause-written g c =
    let has = its_room c.self.inside.index.all c.self.inside.chains.items c.in-Some.slot c.self.inside.room c.in-Some.ensures.value c.self.invariant.1 in
    written_view c.self.inside.index.all c.self.inside.chains.items _ c.in-Some.slot c.args.number has.0.0 c.args.state _ c.self.inside.floor c.self.inside.room
    c.self.view_is c.in-Some.ensures.value (key_of c.self.inside.index.all c.self.inside.chains.items has.0.0 c.in-Some.slot c.self.invariant.0.slotted has.0.1) c.requires.above
    (rows_pushed c.self.inside.index.all c.self.inside.chains.items c.in-Some.slot c.args.number c.args.state c.index_mut-chain.result.now c.push.new.self c.self.invariant.0.slotted
    has c.index_mut-chain.ensures.value c.self.inside.superseding.items c.self.inside.count _ (ap (λ v. v.rows) c.self.view_is) c.self.invariant.0 c.requires.above c.push.ensures)
