use Rattle.std.proofs.Common.{◌+◌, ◌≡◌, ℕ, List, drop}
use Rattle.outcome_lines.specs.ObjectWords.{times_among, times_in}
use Rattle.outcome_lines.proofs.object_texts.count_objects.Given as goal

-- what is counted and what is left to count are together the whole
abbrev pub invariant-loop-object : goal.invariant-loop-object
invariant-loop-object l = (t : List ℕ) → times_among (drop l.object-index l.objects) t + times_in l.counts.entries t ≡ times_among l.objects t + times_in l.fn.counts.entries t
