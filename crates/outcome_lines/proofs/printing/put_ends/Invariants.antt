use Rattle.std.proofs.Common.{◌≡◌, ◌++◌, drop, map}
use Rattle.plain.specs.ValueLines.{text_lines}
use Rattle.outcome_lines.specs.Printing.{end_data}
use Rattle.outcome_lines.proofs.printing.put_ends.Given as goal

-- what is written and what is left to write are together the whole
abbrev pub invariant-loop-end : goal.invariant-loop-end
invariant-loop-end l = l.text.items ++ text_lines (map (end_data l.question l.asked) (drop l.end-index l.found)) ≡ l.fn.out.items ++ text_lines (map (end_data l.question l.asked) l.found)
