use Rattle.std.proofs.Common.{◌≡◌, ◌++◌, drop}
use Rattle.plain.specs.ValueLines.{text_lines}
use Rattle.scripts.specs.ClusterPrinting.{owner_in, shown}
use Rattle.scripts.proofs.cluster_printing.put_items.Given as goal

-- what is written and what is left to write are together the whole
abbrev pub invariant-loop-item : goal.invariant-loop-item
invariant-loop-item l =
    l.text.items ++ text_lines (shown (owner_in l.owners) (drop l.item-index l.items)) ≡ l.fn.out.items ++ text_lines (shown (owner_in l.owners) l.items)
