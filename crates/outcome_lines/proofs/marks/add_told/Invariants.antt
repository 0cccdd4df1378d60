use Rattle.std.proofs.Common.{◌++◌, ◌≡◌, drop}
use Rattle.outcome_lines.specs.ObjectWords.{known_of, lists_in, told_leaves}
use Rattle.outcome_lines.proofs.marks.add_told.Given as goal

-- what is added and what is left to add are together the whole
abbrev pub invariant-loop-text : goal.invariant-loop-text
invariant-loop-text l = lists_in l.marks.items ++ told_leaves (known_of l.known) l.name (lists_in (drop l.text-index l.leaves))
    ≡ lists_in l.fn.marks.items ++ told_leaves (known_of l.known) l.name (lists_in l.leaves)
