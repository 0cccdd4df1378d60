use Rattle.std.proofs.Common.{◌≡◌, ◌++◌, length}
use Rattle.packed.specs.Expanded.{pieces}
use Rattle.packed.proofs.difference.write_expanded.Given as goal

-- what is written and what the rest encodes make the whole
abbrev pub invariant-loop-piece : goal.invariant-loop-piece
invariant-loop-piece l = l.out.items ++ pieces l.behind 0 l.rest ≡ l.fn.out.items ++ pieces l.fn.base 0 l.delta

abbrev pub decreases-loop-piece : goal.decreases-loop-piece
decreases-loop-piece l = length l.rest
