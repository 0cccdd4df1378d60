use Rattle.participants.proofs.answered.last_reply.Given as goal
use Rattle.participants.specs.Callers.{latest}
use Rattle.participants.specs.Stands.{told_in}
use Rattle.std.proofs.Common.{None, Some, drop, ◌≡◌}
use Rattle.std.specs.Option.{option_copied}

abbrev pub invariant-loop-mark : goal.invariant-loop-mark
invariant-loop-mark l = latest Some (option_copied l.found) (told_in l.table (drop l.mark-index l.mark-items)) ≡ latest Some None (told_in l.table l.mark-items)
