use Rattle.std.proofs.Common.{◌≤◌, refl, ap, subst, ◌∙◌, arith}
use Rattle.version_map.specs.Versions.{compacted, count}
use Rattle.version_map.proofs.Tombstones.{listed_dropped}
use Rattle.version_map.proofs.Forgotten.{same_free}
use Rattle.version_map.proofs.Steps.{all_wait, count_dropped, front_is, left_dropped, no_front, none_waits, slot_within, room_dropped, same_front, two_read, consistent_dropped}
use Rattle.version_map.proofs.map.VersionMap.drop_next.Goals as goal

pub returns-in_default-clause-none : goal.returns-in_default-clause-none
returns-in_default-clause-none g c _ =
    let none = c.in_default.ensures.item.3 in
    (refl, none_waits c.self.inside.index.all c.self.inside.chains.items c.self.inside.superseding.items _ c.args.number _ c.self.invariant.0 (ap (λ v. v.rows) c.self.view_is) (no_front _ (omega (arith, none))))

pub returns-then-number-next-clause-none : goal.returns-then-number-next-clause-none
returns-then-number-next-clause-none g c _ = (
  refl,
  all_wait c.self.inside.index.all c.self.inside.chains.items c.self.inside.superseding.items _ c.in-Some.next.now _ c.args.number _ c.self.invariant.0 (ap (λ v. v.rows) c.self.view_is)
      (front_is _ c.in-Some.next.now c.in-Some.ensures.item.3.0 c.in-Some.ensures.lookup) c.if-number-next.true,
)

pub index_mut-chain-requires : goal.index_mut-chain-requires
index_mut-chain-requires g c =
    let within = slot_within c.self.inside.index.all c.self.inside.chains.items c.self.inside.superseding.items c.pop_front.new.self.items c.self.inside.count c.in-Some-pop_front.next c.self.invariant.0 c.in-Some-pop_front.ensures.items in
    omega arith

pub drop_first-requires : goal.drop_first-requires
drop_first-requires g c =
    two_read c.self.inside.index.all c.self.inside.chains.items c.self.inside.superseding.items c.pop_front.new.self.items c.self.inside.count c.in-Some-pop_front.next c.self.invariant.0 c.in-Some-pop_front.ensures.items
    c.index_mut-chain.result.now c.index_mut-chain.result.now c.index_mut-chain.ensures.value

pub overflow_sub-self : goal.overflow_sub-self
overflow_sub-self g c =
    let less = count_dropped c.self.inside.index.all c.self.inside.chains.items c.self.inside.superseding.items c.pop_front.new.self.items c.self.inside.count c.in-Some-pop_front.next c.self.invariant.0 c.in-Some-pop_front.ensures.items c.index_mut-chain.result.now c.drop_first.new.self c.index_mut-chain.ensures.value c.drop_first.ensures.rows in
    let was = c.self.invariant.0.counted in
    omega (arith, less, was)

pub invariant_of-self : goal.invariant_of-self
invariant_of-self g c =
    let len = c.pop_front.ensures.len in
    let capacity = c.pop_front.ensures.capacity in (
      consistent_dropped c.self.inside.index.all c.self.inside.chains.items c.self.inside.superseding.items c.pop_front.new.self.items c.self.inside.count c.in-Some-pop_front.next c.self.invariant.0 c.in-Some-pop_front.ensures.items c.index_mut-chain.result.now c.drop_first.new.self c.index_mut-chain.ensures.value c.drop_first.ensures.rows,
      room_dropped c.self.inside.index.all c.self.inside.chains.items c.self.inside.superseding.items c.pop_front.new.self.items c.self.inside.count c.in-Some-pop_front.next c.self.invariant.0 c.in-Some-pop_front.ensures.items c.index_mut-chain.result.now c.drop_first.new.self c.index_mut-chain.ensures.value c.drop_first.ensures.room c.self.inside.room c.self.invariant.1,
      listed_dropped _ c.self.inside.index c.self.inside.chains.items c.self.inside.superseding.items c.pop_front.new.self.items c.self.inside.count c.in-Some-pop_front.next c.self.invariant.0 c.in-Some-pop_front.ensures.items
          c.index_mut-chain.result.now c.drop_first.new.self c.index_mut-chain.ensures.value c.drop_first.ensures.rows c.self.invariant.2,
      c.self.invariant.3,
      λ some. (
        let held = (c.self.invariant.4 some).0 in omega (arith, len, capacity, held),
        let fits = (c.self.invariant.4 some).1 in omega (arith, fits),
      ),
      same_free c.self.inside.index.all c.self.inside.chains.items c.in-Some-pop_front.next.slot c.drop_first.new.self c.self.inside.free.items c.self.invariant.5,
    )

pub returns-clause-left : goal.returns-clause-left
returns-clause-left g c =
    let same = same_front c.self.inside.superseding.items c.pop_front.new.self.items c.in-Some.next.now c.in-Some-pop_front.next c.in-Some.ensures.lookup c.in-Some-pop_front.ensures.items in
    let upto : c.in-Some-pop_front.next.number ≤ c.args.number = subst (λ s. s.number ≤ c.args.number) same c.if-number-next.false in
    left_dropped c.self.inside.index.all c.self.inside.chains.items c.self.inside.superseding.items c.pop_front.new.self.items c.self.inside.count c.in-Some-pop_front.next c.self.invariant.0 c.in-Some-pop_front.ensures.items c.index_mut-chain.result.now c.drop_first.new.self c.index_mut-chain.ensures.value c.args.number upto c.drop_first.ensures.rows
    ∙ ap (λ v. compacted v.rows c.args.number) c.self.view_is

pub returns-clause-fewer : goal.returns-clause-fewer
returns-clause-fewer g c _ =
    let less = count_dropped c.self.inside.index.all c.self.inside.chains.items c.self.inside.superseding.items c.pop_front.new.self.items c.self.inside.count c.in-Some-pop_front.next c.self.invariant.0 c.in-Some-pop_front.ensures.items c.index_mut-chain.result.now c.drop_first.new.self c.index_mut-chain.ensures.value c.drop_first.ensures.rows in
    let seen = ap (λ v. count v.rows) c.self.view_is in
    omega (arith, less, seen)
