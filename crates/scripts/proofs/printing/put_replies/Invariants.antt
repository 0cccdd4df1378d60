use Rattle.std.proofs.Common.{◌≡◌, ◌++◌, drop}
use Rattle.plain.specs.ValueLines.{text_lines}
use Rattle.scripts.specs.Printing.{shown}
use Rattle.scripts.proofs.printing.put_replies.Given as goal

-- what is written and what is left to write are together the whole
abbrev pub invariant-loop-item : goal.invariant-loop-item
invariant-loop-item l = l.text.items ++ text_lines (shown (drop l.item-index l.items)) ≡ l.fn.out.items ++ text_lines (shown l.items)
