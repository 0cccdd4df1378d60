use Rattle.std.proofs.Common.{ℕ, List, ◌+◌, length}
use Rattle.packed.specs.Written.{Adds}
use Rattle.packed.proofs.difference.write_run.Given as goal

-- what adds all that is left adds, with what is written, all of it
abbrev pub invariant-pieces : goal.invariant-pieces
invariant-pieces l = (new : List ℕ) → Adds l.skips l.copies l.rest l.out.items new → Adds l.fn.skipped l.fn.copied l.fn.added l.fn.out.items new

abbrev pub decreases-pieces : goal.decreases-pieces
decreases-pieces l = l.skips + l.copies + length l.rest
