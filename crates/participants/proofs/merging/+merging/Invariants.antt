use Rattle.participants.proofs.merging.+merging.Given as goal
use Rattle.participants.specs.Merging.{merged_members}
use Rattle.serde_json.specs.Data.{depth, members_depth}
use Rattle.std.proofs.Common.{drop, ◌*◌, ◌+◌, ◌≡◌}
use Rattle.trees.specs.Tree.{data_of, members_of}

abbrev pub decreases-merged : goal.decreases-merged
decreases-merged l = 3 * depth (data_of l.patch.now)

abbrev pub decreases-merged_members : goal.decreases-merged_members
decreases-merged_members l = 3 * members_depth (members_of l.patch.now) + 2

abbrev pub decreases-merged_member : goal.decreases-merged_member
decreases-merged_member l = 3 * depth (data_of l.patch.now) + 1

-- the members so far, changed by those that are left, are the whole
abbrev pub invariant-merged_members-loop-name : goal.invariant-merged_members-loop-name
invariant-merged_members-loop-name l = merged_members l.changed (members_of (drop l.name-index l.patch)) ≡ merged_members l.fn.target (members_of l.patch)
