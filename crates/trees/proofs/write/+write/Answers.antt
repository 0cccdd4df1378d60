use Rattle.std.proofs.Common.{arith}
use Rattle.trees.proofs.Printing.{item_depth, member_depth}
use Rattle.trees.proofs.write.+write.Goals as goal

pub write_entries-write_tree-requires : goal.write_entries-write_tree-requires
write_entries-write_tree-requires t c =
    (omega (arith, member_depth c.args.entries.now c.loop-name.name-index c.loop-name-item.result c.loop-name-test.true c.loop-name-item.is, c.decreases), tt)

pub write_items-write_tree-requires : goal.write_items-write_tree-requires
write_items-write_tree-requires t c =
    (omega (arith, item_depth c.args.items.now c.loop-item.item-index c.item-item.result c.loop-item-test.true c.item-item.is, c.decreases), tt)
