use Rattle.std.proofs.Common.{◌+◌, ◌≡◌, ℕ, List, drop}
use Rattle.outcome_lines.specs.Brief.{times_shown}
use Rattle.outcome_lines.specs.ObjectWords.{times_in}
use Rattle.outcome_lines.proofs.told.count_shown.Given as goal

-- what is counted and what is left to count are together the whole
abbrev pub invariant-loop-reply : goal.invariant-loop-reply
invariant-loop-reply l = (t : List ℕ) → times_shown (drop l.reply-index l.shown) t + times_in l.counts.entries t ≡ times_shown l.shown t + times_in l.fn.counts.entries t
