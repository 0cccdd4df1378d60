use Rattle.participants.proofs.answered.last_object.Given as goal
use Rattle.participants.specs.Callers.{latest, object_told}
use Rattle.participants.specs.Stands.{told_in}
use Rattle.std.proofs.Common.{None, drop, ◌≡◌}
use Rattle.std.specs.Option.{option_copied}

abbrev pub invariant-loop-mark : goal.invariant-loop-mark
invariant-loop-mark l = latest object_told (option_copied l.found) (told_in l.table (drop l.mark-index l.mark-items)) ≡ latest object_told None (told_in l.table l.mark-items)
