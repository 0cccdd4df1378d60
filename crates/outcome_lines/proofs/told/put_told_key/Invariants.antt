use Rattle.std.proofs.Common.{◌++◌, ◌≡◌, drop}
use Rattle.outcome_lines.specs.Brief.{replies_key}
use Rattle.outcome_lines.specs.ObjectWords.{known_of}
use Rattle.outcome_lines.proofs.told.put_told_key.Given as goal

-- what is appended and what is left to append are together the whole
abbrev pub invariant-loop-one : goal.invariant-loop-one
invariant-loop-one l = l.key.items ++ replies_key (known_of l.known) (drop l.one-index l.told) ≡ l.fn.out.items ++ replies_key (known_of l.known) l.told
