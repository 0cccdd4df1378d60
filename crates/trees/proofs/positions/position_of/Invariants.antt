use Rattle.trees.specs.Positions.{IsAbove}
use Rattle.trees.proofs.positions.position_of.Given as goal

abbrev pub invariant-loop-i : goal.invariant-loop-i
invariant-loop-i l = IsAbove l.key l.i l.entries
