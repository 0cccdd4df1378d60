use Rattle.std.proofs.Common.{◌≤◌, length}
use Rattle.packed.proofs.meeting.next_meeting.Given as goal

abbrev pub invariant-loop-turn : goal.invariant-loop-turn
invariant-loop-turn l = (l.place ≤ length l.text) × (l.near ≤ length l.base)
