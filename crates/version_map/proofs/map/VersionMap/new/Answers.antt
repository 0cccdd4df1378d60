use Rattle.std.proofs.Common.{true≢false, ap, length, subst, sym}
use Rattle.version_map.specs.Forgotten.{AreFree}
use Rattle.version_map.proofs.Tombstones.{none_listed}
use Rattle.version_map.proofs.Steps.{empty_view, none_consistent}
use Rattle.version_map.proofs.map.VersionMap.new.Goals as goal

pub invariant_of-result : goal.invariant_of-result
invariant_of-result g c =
    let all = ap (λ i. i.all) c.new.ensures in (
      none_consistent _ _ _ all c.new-2.ensures.items c.new-3.ensures.items,
      tt,
      none_listed 0 c.new.result c.new-2.result.items c.new.ensures,
      tt,
      λ some. absurd (true≢false (sym some)),
      subst (AreFree c.new.result.all (length c.new-2.result.items)) (sym c.new-5.ensures.items) tt,
    )

pub returns : goal.returns
returns g c = empty_view _ _ (ap (λ i. i.all) c.new.ensures) c.new-2.ensures.items
