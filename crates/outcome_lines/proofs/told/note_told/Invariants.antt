use Rattle.std.proofs.Common.{◌≡◌, ℕ, List, drop}
use Rattle.outcome_lines.specs.Brief.{first_told}
use Rattle.outcome_lines.specs.ObjectWords.{lower, number_in}
use Rattle.outcome_lines.proofs.told.note_told.Given as goal

-- what is noted and what is left to note are together the whole
abbrev pub invariant-loop-one : goal.invariant-loop-one
invariant-loop-one l = (t : List ℕ) → lower (number_in l.firsts.entries t) (first_told (drop l.one-index l.told) t) ≡ lower (number_in l.fn.firsts.entries t) (first_told l.told t)
