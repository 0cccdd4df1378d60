use Rattle.std.proofs.Common.{◌++◌, ◌∷◌, ◌-◌, [], IfSome, is_some, length, refl, sym, ap, subst, ◌∙◌, true≢false, arith}
use Rattle.std.proofs.Math.ListN.{set}
use Rattle.version_map.specs.Forgotten.{AreFree}
use Rattle.version_map.specs.Consistent.{HasRoom, IsListed, IsConsistent}
use Rattle.version_map.proofs.Tombstones.{none_from}
use Rattle.version_map.proofs.Forgotten.{count_forgotten, forgotten_none, forgotten_seen, free_forgotten, listed_forgotten, removal_there, consistent_forgotten}
use Rattle.version_map.proofs.map.VersionMap.forget.Goals as goal

pub returns-in_default : goal.returns-in_default
returns-in_default g c = forgotten_none c.args.self.now _ c.self.view_is

pub returns-in_default-get : goal.returns-in_default-get
returns-in_default-get g c = forgotten_none c.args.self.now _ c.self.view_is

pub returns-then-not-is_removal : goal.returns-then-not-is_removal
returns-then-not-is_removal g c = forgotten_none c.args.self.now _ c.self.view_is

pub index-requires : goal.index-requires
index-requires g c = let within = c.self.invariant.0.slotted.within c.args.key.now c.in-Some.slot (sym c.in-Some.ensures) in omega arith

pub index_mut-chain-requires : goal.index_mut-chain-requires
index_mut-chain-requires g c = let within = c.self.invariant.0.slotted.within c.args.key.now c.in-Some.slot (sym c.in-Some.ensures) in omega arith

pub overflow_sub-self : goal.overflow_sub-self
overflow_sub-self g c =
    let less = count_forgotten c.self.inside.index.all c.self.inside.chains.items c.self.inside.superseding.items c.self.inside.count c.in-Some.slot c.args.key.now c.new.result c.self.invariant.0 (sym c.in-Some.ensures)
    (removal_there c.self.inside.index.all c.self.inside.chains.items c.args.key.now c.in-Some.slot c.index.result.now c.self.invariant.0.slotted (sym c.in-Some.ensures) c.index.ensures (c.is_removal.ensures c.if-not-is_removal.false)) c.new.ensures.rows in
    omega (arith, less)

pub invariant_of-self-2 : goal.invariant_of-self-2
invariant_of-self-2 g c =
    let none = none_from c.self.inside.room (sym c.is_some.ensures ∙ c.if-is_some.false) in
    let all = sym c.forget.ensures.all in
    let ds = set c.self.inside.chains.items c.in-Some.slot c.new.result in (
      subst (λ m. IsConsistent m ds c.self.inside.superseding.items (c.self.inside.count - 1)) all (consistent_forgotten c.self.inside.index.all c.self.inside.chains.items c.self.inside.superseding.items c.self.inside.count c.in-Some.slot c.args.key.now c.new.result c.self.invariant.0 (sym c.in-Some.ensures)
          (removal_there c.self.inside.index.all c.self.inside.chains.items c.args.key.now c.in-Some.slot c.index.result.now c.self.invariant.0.slotted (sym c.in-Some.ensures) c.index.ensures (c.is_removal.ensures c.if-not-is_removal.false)) c.new.ensures.rows),
      subst (λ r. IfSome r (HasRoom c.forget.new.self.all ds)) (sym none) tt,
      listed_forgotten c.self.inside.index.all c.self.inside.chains.items c.self.inside.superseding.items c.self.inside.count c.in-Some.slot c.args.key.now c.new.result c.self.invariant.0 (sym c.in-Some.ensures)
          (removal_there c.self.inside.index.all c.self.inside.chains.items c.args.key.now c.in-Some.slot c.index.result.now c.self.invariant.0.slotted (sym c.in-Some.ensures) c.index.ensures (c.is_removal.ensures c.if-not-is_removal.false)) c.new.ensures.rows c.self.inside.index c.forget.new.self refl c.forget.ensures.all c.forget.ensures.others _ c.self.invariant.2,
      subst (λ r. IfSome r (IsListed c.forget.new.self)) (sym none) tt,
      λ some. absurd (true≢false (sym some ∙ ap is_some none)),
      subst (AreFree c.forget.new.self.all (length ds)) (sym (c.push_back_reserved.ensures.items ∙ ap (λ xs. xs ++ c.in-Some.slot ∷ []) c.reserve.ensures.items))
          (subst (λ m. AreFree m (length ds) (c.self.inside.free.items ++ c.in-Some.slot ∷ [])) all (free_forgotten c.self.inside.index.all c.self.inside.chains.items c.self.inside.superseding.items c.self.inside.count c.in-Some.slot c.args.key.now c.new.result c.self.invariant.0 (sym c.in-Some.ensures)
          (removal_there c.self.inside.index.all c.self.inside.chains.items c.args.key.now c.in-Some.slot c.index.result.now c.self.invariant.0.slotted (sym c.in-Some.ensures) c.index.ensures (c.is_removal.ensures c.if-not-is_removal.false)) c.new.ensures.rows c.self.inside.free.items c.self.invariant.5)),
    )

pub returns : goal.returns
returns g c = forgotten_seen c.self.inside.index.all c.self.inside.chains.items c.self.inside.superseding.items c.self.inside.count c.in-Some.slot c.args.key.now c.new.result c.self.invariant.0 (sym c.in-Some.ensures)
    (removal_there c.self.inside.index.all c.self.inside.chains.items c.args.key.now c.in-Some.slot c.index.result.now c.self.invariant.0.slotted (sym c.in-Some.ensures) c.index.ensures (c.is_removal.ensures c.if-not-is_removal.false)) c.new.ensures.rows c.args.self.now c.self.inside.floor c.self.inside.room c.forget.new.self.all
    (none_from c.self.inside.room (sym c.is_some.ensures ∙ c.if-is_some.false)) c.forget.ensures.all c.self.view_is
