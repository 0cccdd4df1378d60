use Rattle.std.proofs.Common.{sym, ◌∙◌, arith}
use Rattle.trees.proofs.EntryPositions.{above_more, at_here, gap_here, gap_end}
use Rattle.trees.proofs.positions.position_of.Goals as goal

pub returns-in-Equal-clause-found : goal.returns-in-Equal-clause-found
returns-in-Equal-clause-found c =
    at_here _ _ _ c.index-entries-i.result c.loop-i.invariant c.loop-i-test.true c.index-entries-i.is (rw (← c.as_str.ensures) (sym c.cmp.ensures ∙ c.in-Equal.is))

pub returns-in-Less-clause-gap : goal.returns-in-Less-clause-gap
returns-in-Less-clause-gap c =
    gap_here _ _ _ c.index-entries-i.result c.loop-i.invariant c.loop-i-test.true c.index-entries-i.is (rw (← c.as_str.ensures) (sym c.cmp.ensures ∙ c.in-Less.is))

pub loop-i-preserved : goal.loop-i-preserved
loop-i-preserved c =
    above_more _ _ _ c.index-entries-i.result c.loop-i.invariant c.loop-i-test.true c.index-entries-i.is (rw (← c.as_str.ensures) (sym c.cmp.ensures ∙ c.in-Greater.is))

pub returns-clause-gap : goal.returns-clause-gap
returns-clause-gap c = gap_end _ c.loop-i.i _ c.loop-i.invariant (omega arith)
