use Rattle.std.proofs.Common.{◌≤◌, IfSome, length, sym, ap, subst, ◌∙◌}
use Rattle.std.proofs.Math.Nat.{le-max_left, le-max_right, le_trans}
use Rattle.version_map.specs.Forgotten.{AreFree}
use Rattle.version_map.specs.Versions.{value}
use Rattle.version_map.specs.Consistent.{HasRoom, IsListed, IsConsistent}
use Rattle.version_map.proofs.Tombstones.{listed_with_tombstone}
use Rattle.version_map.proofs.map.VersionMap.set_tombstone.Goals as goal

pub invariant_of-self : goal.invariant_of-self
invariant_of-self g c =
    let all = sym c.set_tombstone.ensures.all in
    let cs = c.self.inside.chains.items in
    let later = c.max-self-inside.result in
    let since : c.self.inside.gone_since ≤ later = subst (λ n. c.self.inside.gone_since ≤ n) (sym c.max-self-inside.ensures) (le-max_left c.self.inside.gone_since c.in-Some.number) in
    let here : c.in-Some.number ≤ later = subst (λ n. c.in-Some.number ≤ n) (sym c.max-self-inside.ensures) (le-max_right c.self.inside.gone_since c.in-Some.number) in (
      subst (λ ps. IsConsistent ps cs c.self.inside.superseding.items c.self.inside.count) all c.self.invariant.0,
      subst (λ ps. IfSome c.self.inside.room (HasRoom ps cs)) all c.self.invariant.1,
      listed_with_tombstone c.self.inside.gone_since later c.self.inside.index c.set_tombstone.new.self cs _ c.args.key.now since c.set_tombstone.ensures.all (ap (λ v. v.rows) c.self.view_is)
          (λ n from. ap (λ v. value v.rows n c.args.key.now) c.note_removal.ensures ∙ c.in-Some.ensures n (le_trans here from)) c.set_tombstone.ensures.others c.self.invariant.2,
      subst (λ r. IfSome r (IsListed c.set_tombstone.new.self)) (sym c.in-None.is) tt,
      c.self.invariant.4,
      subst (λ ps. AreFree ps (length cs) c.self.inside.free.items) all c.self.invariant.5,
    )
