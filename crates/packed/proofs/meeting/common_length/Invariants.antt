use Rattle.std.proofs.Common.{◌≡◌, ◌≤◌, ◌-◌, length, take}
use Rattle.packed.proofs.meeting.common_length.Given as goal

abbrev pub invariant-vectors : goal.invariant-vectors
invariant-vectors l = (l.at ≤ length l.left) × (l.at ≤ length l.right) × (take l.at l.left ≡ take l.at l.right) × (l.shorter ≤ length l.left) × (l.shorter ≤ length l.right) × (l.at ≤ l.shorter)

abbrev pub decreases-vectors : goal.decreases-vectors
decreases-vectors l = l.shorter - l.at
