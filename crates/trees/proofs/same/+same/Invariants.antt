use Rattle.std.proofs.Common.{◌≡◌, ◌+◌, ◌*◌, drop}
use Rattle.serde_json.specs.Data.{depth, items_depth, members_depth}
use Rattle.trees.specs.Tree.{data_of, items_of, members_of}
use Rattle.trees.proofs.Sameness.{same_lists, same_maps}
use Rattle.trees.proofs.same.+same.Given as goal

abbrev pub decreases-same_trees : goal.decreases-same_trees
decreases-same_trees l = 3 * depth (data_of l.left.now)

abbrev pub decreases-same_items : goal.decreases-same_items
decreases-same_items l = 3 * items_depth (items_of l.left.now) + 1

abbrev pub decreases-same_entries : goal.decreases-same_entries
decreases-same_entries l = 3 * members_depth (members_of l.left.now) + 2

abbrev pub decreases-same_entry : goal.decreases-same_entry
decreases-same_entry l = 3 * depth (data_of l.left.now.1) + 1

-- the parts so far are the same, so what is left decides
abbrev pub invariant-same_items-loop-i : goal.invariant-same_items-loop-i
invariant-same_items-loop-i l = same_lists (drop l.i l.left) (drop l.i l.right) ≡ same_lists l.left l.right

abbrev pub invariant-same_entries-loop-i : goal.invariant-same_entries-loop-i
invariant-same_entries-loop-i l = same_maps (drop l.i l.left) (drop l.i l.right) ≡ same_maps l.left l.right
