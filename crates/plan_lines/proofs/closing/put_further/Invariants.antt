use Rattle.std.proofs.Common.{◌≡◌, ◌++◌, drop}
use Rattle.plan_lines.specs.Brief.{further_names}
use Rattle.plan_lines.proofs.closing.put_further.Given as goal

-- what is appended and what is left to append are together the whole
abbrev pub invariant-loop-name : goal.invariant-loop-name
invariant-loop-name l = l.text.items ++ further_names (drop l.name-index l.names) ≡ l.fn.text.items ++ further_names l.names
