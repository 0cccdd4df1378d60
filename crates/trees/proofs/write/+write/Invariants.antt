use Rattle.std.proofs.Common.{◌≡◌, ◌+◌, ◌*◌, ◌++◌, drop}
use Rattle.json.specs.Tree.{items_tokens, members_tokens}
use Rattle.serde_json.specs.Data.{depth, items_depth, members_depth}
use Rattle.serde_json.specs.Written.{items_outline, members_outline}
use Rattle.trees.specs.Tree.{data_of, items_of, members_of}
use Rattle.trees.specs.Canonical.{AreCanonicalItems, AreCanonicalMembers}
use Rattle.trees.proofs.write.+write.Given as goal

abbrev pub decreases-write_tree : goal.decreases-write_tree
decreases-write_tree l = 2 * depth (data_of l.tree.now)

abbrev pub decreases-write_items : goal.decreases-write_items
decreases-write_items l = 2 * items_depth (items_of l.items.now) + 1

abbrev pub decreases-write_entries : goal.decreases-write_entries
decreases-write_entries l = 2 * members_depth (members_of l.entries.now) + 1

-- what is written and what is left to write make the whole, and the whole is canonical if what is left is
abbrev pub invariant-write_items-loop-item : goal.invariant-write_items-loop-item
invariant-write_items-loop-item l = record {
  tokens : l.out.tokens ++ items_tokens (items_outline (items_of (drop l.item-index l.items))) ≡ l.fn.out.tokens ++ items_tokens (items_outline (items_of l.items));
  before : l.out.before ≡ l.fn.out.before;
  canonical : AreCanonicalItems (items_of (drop l.item-index l.items)) → AreCanonicalItems (items_of l.items);
}

abbrev pub invariant-write_entries-loop-name : goal.invariant-write_entries-loop-name
invariant-write_entries-loop-name l = record {
  tokens : l.out.tokens ++ members_tokens (members_outline (members_of (drop l.name-index l.entries))) ≡ l.fn.out.tokens ++ members_tokens (members_outline (members_of l.entries));
  before : l.out.before ≡ l.fn.out.before;
  canonical : AreCanonicalMembers (members_of (drop l.name-index l.entries)) → AreCanonicalMembers (members_of l.entries);
}
