use Rattle.std.proofs.Common.{◌≤◌, length}
use Rattle.packed.proofs.meeting.find_window.Given as goal

abbrev pub invariant-loop : goal.invariant-loop
invariant-loop l = l.place ≤ length l.base
