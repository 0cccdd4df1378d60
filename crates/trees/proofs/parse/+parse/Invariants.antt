use Rattle.std.proofs.Common.{◌≡◌, ℕ, ◌+◌, ◌*◌, ◌≤◌, false, length}
use Rattle.json.specs.Json.{items, members, value}
use Rattle.serde_json.specs.Data.{Members, no_members}
use Rattle.serde_json.specs.Read.{of_items, of_members, converted}
use Rattle.serde_json.specs.Written.{members_have_float}
use Rattle.trees.specs.Tree.{members_of, AreAscending}
use Rattle.trees.specs.Integral.{found_in, found_of}
use Rattle.trees.proofs.Parsing.{AreItemsSoFar, AreMembersSoFar}
use Rattle.trees.proofs.parse.+parse.Given as goal

abbrev pub decreases-value_in : goal.decreases-value_in
decreases-value_in l = 4 * l.depth + 1

abbrev pub decreases-list_in : goal.decreases-list_in
decreases-list_in l = 4 * l.depth

abbrev pub decreases-map_in : goal.decreases-map_in
decreases-map_in l = 4 * l.depth

abbrev pub decreases-items_in : goal.decreases-items_in
decreases-items_in l = 4 * l.depth + 3

abbrev pub decreases-members_in : goal.decreases-members_in
decreases-members_in l = 4 * l.depth + 3

abbrev pub decreases-members_after : goal.decreases-members_after
decreases-members_after l = 4 * l.depth + 2

abbrev pub invariant-items_in-items : goal.invariant-items_in-items
invariant-items_in-items l = record {
  so_far : AreItemsSoFar (value l.depth) (converted of_items (items (value l.depth) (length l.initial.reader) l.initial.reader)) l.are_integral l.items.items l.reader;
  shorter : length l.reader ≤ length l.initial.reader;
}

abbrev pub decreases-items_in-items : goal.decreases-items_in-items
decreases-items_in-items l = length l.reader

abbrev pub invariant-members_in-members : goal.invariant-members_in-members
invariant-members_in-members l = record {
  so_far : AreMembersSoFar (value l.depth) (converted (λ ms. of_members ms no_members) (members (value l.depth) (length l.initial.reader) l.initial.reader)) (members_of l.entries.items) l.reader;
  ascending : AreAscending (members_of l.entries.items);
  integral : members_have_float (members_of l.entries.items) ≡ false;
  shorter : length l.reader ≤ length l.initial.reader;
}

abbrev pub decreases-members_in-members : goal.decreases-members_in-members
decreases-members_in-members l = length l.reader

-- whatever was found before, with more of it
abbrev pub invariant-members_after-members : goal.invariant-members_after-members
invariant-members_after-members l = record {
  so_far : (before : Members) → found_in before ≡ found_of l.fn.found.entries → (most : ℕ) → length l.initial.reader ≤ most
      → (now : Members) × AreMembersSoFar (value l.depth) (converted (λ ms. of_members ms before) (members (value l.depth) most l.initial.reader)) now l.reader × (found_in now ≡ found_of l.found.entries);
  shorter : length l.reader ≤ length l.initial.reader;
}

abbrev pub decreases-members_after-members : goal.decreases-members_after-members
decreases-members_after-members l = length l.reader
