use Rattle.std.proofs.Common.{IfSome, length, sym, subst}
use Rattle.version_map.specs.Forgotten.{AreFree}
use Rattle.version_map.specs.Consistent.{AreListed, HasRoom, IsListed, IsConsistent}
use Rattle.version_map.proofs.map.VersionMap.look_up.Goals as goal

pub invariant_of-self : goal.invariant_of-self
invariant_of-self g c =
    let same = sym c.look_up.ensures in
    let cs = c.self.inside.chains.items in
    let room = c.self.inside.room in (
      subst (λ i. IsConsistent i.all cs c.self.inside.superseding.items c.self.inside.count) same c.self.invariant.0,
      subst (λ i. IfSome room (HasRoom i.all cs)) same c.self.invariant.1,
      subst (λ i. AreListed c.self.inside.gone_since i cs) same c.self.invariant.2,
      subst (λ i. IfSome room (IsListed i)) same c.self.invariant.3,
      c.self.invariant.4,
      subst (λ i. AreFree i.all (length cs) c.self.inside.free.items) same c.self.invariant.5,
    )
