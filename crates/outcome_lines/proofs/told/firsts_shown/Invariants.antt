use Rattle.std.proofs.Common.{◌≡◌, ℕ, List, drop}
use Rattle.outcome_lines.specs.Brief.{first_shown}
use Rattle.outcome_lines.specs.ObjectWords.{lower, number_in}
use Rattle.outcome_lines.proofs.told.firsts_shown.Given as goal

abbrev pub invariant-loop-reply : goal.invariant-loop-reply
invariant-loop-reply l = (t : List ℕ) → lower (number_in l.firsts.entries t) (first_shown (drop l.reply-index l.shown) t) ≡ first_shown l.shown t
