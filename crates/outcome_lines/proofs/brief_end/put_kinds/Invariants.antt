use Rattle.std.proofs.Common.{◌++◌, ◌≡◌, codes, drop}
use Rattle.outcome_lines.specs.ObjectWords.{known_of}
use Rattle.outcome_lines.specs.Brief.{kinds_words}
use Rattle.outcome_lines.proofs.brief_end.put_kinds.Given as goal

-- what is appended and what is left to append are together the whole
abbrev pub invariant-loop-object : goal.invariant-loop-object
invariant-loop-object l = l.out.items ++ kinds_words (known_of l.known) l.lead (drop l.object-index l.objects)
    ≡ l.fn.out.items ++ kinds_words (known_of l.known) (codes " ") l.objects
