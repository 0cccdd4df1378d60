use Rattle.std.proofs.Common.{◌++◌, ◌≡◌, drop}
use Rattle.outcome_lines.specs.Brief.{alike_texts}
use Rattle.outcome_lines.specs.ObjectWords.{known_of}
use Rattle.outcome_lines.proofs.alike.put_alike.Given as goal

-- what is appended and what is left to append are together the whole
abbrev pub invariant-loop-object : goal.invariant-loop-object
invariant-loop-object l = l.all.items ++ alike_texts (known_of l.known) (drop l.object-index l.objects) ≡ l.fn.out.items ++ alike_texts (known_of l.known) l.objects
