use Rattle.std.proofs.Common.{◌+◌, ◌*◌, ◌-◌, ◌≤◌, ◌≡◌, length}
use Rattle.compact.proofs.Items.{ItemsState}
use Rattle.compact.proofs.Maps.{MembersState}
use Rattle.compact.proofs.scanner.+order.Given as goal

abbrev pub decreases-put_in_order : goal.decreases-put_in_order
decreases-put_in_order l = 4 * l.depth + 1

abbrev pub decreases-nested_end : goal.decreases-nested_end
decreases-nested_end l = 4 * l.depth

abbrev pub decreases-items_end : goal.decreases-items_end
decreases-items_end l = 4 * l.depth + 2

abbrev pub decreases-members_end : goal.decreases-members_end
decreases-members_end l = 4 * l.depth + 3

abbrev pub decreases-member_end : goal.decreases-member_end
decreases-member_end l = 4 * l.depth + 2

abbrev pub invariant-items_end-items : goal.invariant-items_end-items
invariant-items_end-items l = record {
  state : ItemsState l.depth l.fn.text l.text l.at;
  within : l.at ≤ length l.text;
  long : length l.text ≡ length l.fn.text;
  kept : l.scanner.tables ≡ l.fn.scanner.tables;
}

abbrev pub decreases-items_end-items : goal.decreases-items_end-items
decreases-items_end-items l = length l.text - l.at

abbrev pub invariant-members_end-members : goal.invariant-members_end-members
invariant-members_end-members l = record {
  state : MembersState l.depth l.level l.fn.scanner.tables l.scanner.tables l.fn.text l.text l.at l.table;
  within : l.at ≤ length l.text;
  long : length l.text ≡ length l.fn.text;
}

abbrev pub decreases-members_end-members : goal.decreases-members_end-members
decreases-members_end-members l = length l.text - l.at
