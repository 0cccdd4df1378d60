use Rattle.std.proofs.Common.{◌≡◌, ◌≤◌, ◌-◌, length, take}
use Rattle.packed.proofs.meeting.common_rest.Given as goal

abbrev pub invariant-bytes : goal.invariant-bytes
invariant-bytes l = (l.at ≤ length l.left) × (l.at ≤ length l.right) × (take l.at l.left ≡ take l.at l.right)

abbrev pub decreases-bytes : goal.decreases-bytes
decreases-bytes l = length l.left - l.at
