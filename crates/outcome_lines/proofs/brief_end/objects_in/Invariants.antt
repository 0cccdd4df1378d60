use Rattle.std.proofs.Common.{◌++◌, ◌≡◌, drop}
use Rattle.outcome_lines.specs.Stores.{objects_in}
use Rattle.outcome_lines.proofs.brief_end.objects_in.Given as goal

abbrev pub invariant-loop-reply : goal.invariant-loop-reply
invariant-loop-reply l = l.objects.items ++ objects_in (drop l.reply-index l.shown) ≡ objects_in l.shown
