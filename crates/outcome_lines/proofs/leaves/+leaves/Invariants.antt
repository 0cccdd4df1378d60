use Rattle.std.proofs.Common.{◌*◌, ◌++◌, ◌+◌, ◌≡◌, drop}
use Rattle.serde_json.specs.Data.{depth, members_depth}
use Rattle.trees.specs.Tree.{data_of, members_of}
use Rattle.outcome_lines.specs.ObjectWords.{lists_in, member_leaves}
use Rattle.outcome_lines.proofs.leaves.+leaves.Given as goal

abbrev pub decreases-add_leaves : goal.decreases-add_leaves
decreases-add_leaves l = 2 * depth (data_of l.tree.now)

abbrev pub decreases-add_members : goal.decreases-add_members
decreases-add_members l = 2 * members_depth (members_of l.entries.now) + 1

-- what is added and what is left to add are together the whole
abbrev pub invariant-add_members-loop-name : goal.invariant-add_members-loop-name
invariant-add_members-loop-name l = lists_in l.found.items ++ member_leaves l.lead (members_of (drop l.name-index l.entries))
    ≡ lists_in l.fn.found.items ++ member_leaves l.lead (members_of l.entries)
