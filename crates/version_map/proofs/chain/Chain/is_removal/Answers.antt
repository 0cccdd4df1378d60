use Rattle.std.proofs.Common.{◌≡◌, ap, length, not, subst, ◌∙◌, arith}
use Rattle.std.proofs.lemmas.Bool.Decides.{nat_tests}
use Rattle.version_map.specs.Forgotten.{IsRemoval}
use Rattle.version_map.proofs.Forgotten.{removal_is}
use Rattle.version_map.proofs.chain.Chain.is_removal.Goals as goal

pub returns : goal.returns
returns g c removed =
    let empty = c.is_empty.ensures in
    let is = c.if-not-is_empty.false in
    let none : length c.self.inside.older.items ≡ 0 = grind (arith, nat_tests) in
    subst (λ v. IsRemoval v.rows) c.self.view_is (removal_is c.self.inside.older.items c.self.inside.newest c.in-Some.newest.now c.in-Some.ensures.value none (c.is_none.ensures ∙ ap not removed))
