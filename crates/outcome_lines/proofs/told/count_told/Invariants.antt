use Rattle.std.proofs.Common.{◌+◌, ◌≡◌, ℕ, List, drop}
use Rattle.outcome_lines.specs.Brief.{times_told}
use Rattle.outcome_lines.specs.ObjectWords.{times_in}
use Rattle.outcome_lines.proofs.told.count_told.Given as goal

-- what is counted and what is left to count are together the whole
abbrev pub invariant-loop-one : goal.invariant-loop-one
invariant-loop-one l = (t : List ℕ) → times_told (drop l.one-index l.told) t + times_in l.counts.entries t ≡ times_told l.told t + times_in l.fn.counts.entries t
