use Rattle.std.proofs.Common.{◌+◌, ◌≡◌, ℕ, List, drop}
use Rattle.outcome_lines.specs.ObjectWords.{lists_in, times, times_in}
use Rattle.outcome_lines.proofs.object_texts.count_texts.Given as goal

-- what is counted and what is left to count are together the whole
abbrev pub invariant-loop-text : goal.invariant-loop-text
invariant-loop-text l = (t : List ℕ) → times (lists_in (drop l.text-index l.texts)) t + times_in l.counts.entries t ≡ times (lists_in l.texts) t + times_in l.fn.counts.entries t
