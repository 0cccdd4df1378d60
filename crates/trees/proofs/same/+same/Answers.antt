use Rattle.std.proofs.Common.{arith, sym}
use Rattle.trees.proofs.Printing.{item_depth, member_depth}
use Rattle.trees.proofs.Sameness.{lists-differ, maps-differ}
use Rattle.trees.proofs.same.+same.Goals as goal

pub same_entries-returns-then-left-right : goal.same_entries-returns-then-left-right
same_entries-returns-then-left-right t c = sym (maps-differ c.args.left.now c.args.right.now c.if-left-right.true)

pub same_entries-same_entry-requires : goal.same_entries-same_entry-requires
same_entries-same_entry-requires t c =
    (omega (arith, member_depth c.args.left.now c.loop-i.i c.index-left-i.result c.loop-i-test.true c.index-left-i.is, c.decreases), tt)

pub same_items-returns-then-left-right : goal.same_items-returns-then-left-right
same_items-returns-then-left-right t c = sym (lists-differ c.args.left.now c.args.right.now c.if-left-right.true)

pub same_items-same_trees-requires : goal.same_items-same_trees-requires
same_items-same_trees-requires t c =
    (omega (arith, item_depth c.args.left.now c.loop-i.i c.index-left-i.result c.loop-i-test.true c.index-left-i.is, c.decreases), tt)
