use Rattle.std.proofs.Common.{◌++◌, ◌≡◌, drop}
use Rattle.outcome_lines.specs.Lined.{lists_of, moves_from}
use Rattle.outcome_lines.proofs.lined.moves_from.Given as goal

-- the moves so far and those that are left are together all
abbrev pub invariant-loop-happens : goal.invariant-loop-happens
invariant-loop-happens l = l.moves.items ++ moves_from (lists_of l.left.items) (drop l.happens-index l.order) ≡ moves_from (lists_of l.fn.left.items) l.order
