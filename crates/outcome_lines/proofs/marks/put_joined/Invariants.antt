use Rattle.std.proofs.Common.{◌++◌, ◌≡◌, drop}
use Rattle.outcome_lines.specs.ObjectWords.{joined, lists_in}
use Rattle.outcome_lines.proofs.marks.put_joined.Given as goal

-- what is appended and what is left to append are together the whole
abbrev pub invariant-loop-mark : goal.invariant-loop-mark
invariant-loop-mark l = l.out.items ++ joined (lists_in (drop l.mark-index l.marks)) ≡ l.fn.out.items ++ joined (lists_in l.marks)
