use Rattle.std.proofs.Common.{◌+◌, ◌≡◌, ℕ, List, drop}
use Rattle.outcome_lines.specs.Brief.{times_found}
use Rattle.outcome_lines.specs.ObjectWords.{times_in}
use Rattle.outcome_lines.proofs.brief.counts_of.Given as goal

-- what is counted and what is left to count are together the whole
abbrev pub invariant-loop-end : goal.invariant-loop-end
invariant-loop-end l = (t : List ℕ) → times_found l.asked (drop l.end-index l.found) t + times_in l.counts.entries t ≡ times_found l.asked l.found t
