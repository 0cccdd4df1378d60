use Rattle.std.proofs.Common.{sym, ◌∙◌}
use Rattle.trees.proofs.Lookups.{found_at, passed_at}
use Rattle.trees.proofs.tree.find.Goals as goal

pub returns-then-eq : goal.returns-then-eq
returns-then-eq c =
    sym (found_at _ _ _ c.loop-name-item.result c.loop-name-test.true c.loop-name-item.is (rw (← c.as_str.ensures) (sym c.eq.ensures ∙ c.if-eq.true)))
    ∙ c.loop-name.invariant

pub loop-name-preserved : goal.loop-name-preserved
loop-name-preserved c =
    sym (passed_at _ _ _ c.loop-name-item.result c.loop-name-test.true c.loop-name-item.is (rw (← c.as_str.ensures) (sym c.eq.ensures ∙ c.if-eq.false)))
    ∙ c.loop-name.invariant
