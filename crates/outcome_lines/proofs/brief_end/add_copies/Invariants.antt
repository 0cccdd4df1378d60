use Rattle.std.proofs.Common.{◌++◌, ◌≡◌, drop}
use Rattle.outcome_lines.proofs.brief_end.add_copies.Given as goal

abbrev pub invariant-loop-object : goal.invariant-loop-object
invariant-loop-object l = l.out.items ++ drop l.object-index l.objects ≡ l.fn.out.items ++ l.objects
