use Rattle.std.proofs.Common.{rules, ◌≡◌, ◌∙◌, ◌+◌, ◌-◌, ◌≤◌, ◌++◌, ◌∷◌, [], length, refl, subst, sym, ap, arith}
use borrow.Rule.Slice.PartMut.{mid_of}
use Rattle.compact.specs.Ended.{ended_text, ended_member}
use Rattle.compact.specs.Levels.{below}
use Rattle.compact.specs.Notes.{entries_of, IsNoted}
use Rattle.compact.specs.Ordered.{IsOrdered}
use Rattle.compact.proofs.Entries.{entry_is, slot_text, slot_size, slot_entries, entries_count}
use Rattle.compact.proofs.Items.{no_item_is, items_end, item_passed}
use Rattle.compact.proofs.Values.{scalar_is, plain_is, list_is, map_is, member_is}
use Rattle.compact.proofs.Maps.{no_member_is, members_begin, read_member, next_state, members_end}
use Rattle.compact.proofs.scanner.+order.Goals as goal

pub put_in_order-returns-in-Some-clause-ordered : goal.put_in_order-returns-in-Some-clause-ordered
put_in_order-returns-in-Some-clause-ordered t c = plain_is c.args.depth c.args.text.now c.in-Some.size c.args.level c.args.scanner.now.tables c.in-Some.ensures.plain

pub put_in_order-returns-clause-ordered : goal.put_in_order-returns-clause-ordered
put_in_order-returns-clause-ordered t c = scalar_is c.args.depth c.args.text.now c.in_ok-rest.rest.now c.args.level c.args.scanner.now.tables c.in_ok-rest.ensures.value

pub nested_end-returns-then-first-eq123-clause-ordered : goal.nested_end-returns-then-first-eq123-clause-ordered
nested_end-returns-then-first-eq123-clause-ordered t c =
    map_is c.args.depth (c.args.depth - 1) (IsNoted c.args.level c.args.scanner.now.tables c.members_end.new.scanner.tables) c.args.text.now _ c.members_end.new.text _ _ (let one : (c.args.depth - 1) + 1 ≤ c.args.depth = omega (arith, c.if-depth-eq0.false) in one) c.in_ok-first.ensures.cases.0 c.if-first-eq123.true c.in_ok-size.ensures.ordered

pub nested_end-returns-clause-ordered : goal.nested_end-returns-clause-ordered
nested_end-returns-clause-ordered t c =
    list_is c.args.depth (c.args.depth - 1) c.args.text.now _ c.items_end.new.text _ _ c.args.level c.args.scanner.now.tables c.items_end.new.scanner.tables (let one : (c.args.depth - 1) + 1 ≤ c.args.depth = omega (arith, c.if-depth-eq0.false) in one) c.in_ok-first.ensures.cases.0 c.if-first-ne91.false c.in_ok-size-2.ensures.ordered c.in_ok-size-2.ensures.kept

pub items_end-returns-then-first-eq93-clause-ordered : goal.items_end-returns-then-first-eq93-clause-ordered
items_end-returns-then-first-eq93-clause-ordered t c = no_item_is c.args.depth _ _ _ c.in_ok-first.ensures.cases.0 c.if-first-eq93.true

pub items_end-returns-then-byte-eq93-clause-ordered : goal.items_end-returns-then-byte-eq93-clause-ordered
items_end-returns-then-byte-eq93-clause-ordered t c =
    items_end c.args.depth _ c.args.text.now c.items.text c.put_in_order.new.text c.in_ok-byte._behind.now c.items.at c.in_ok-end.field-0 _ c.items.invariant.state c.in_ok-end.ensures.ordered c.in_ok-byte.ensures.cases.0 c.if-byte-eq93.true

pub items_end-returns-then-byte-eq93-clause-kept : goal.items_end-returns-then-byte-eq93-clause-kept
items_end-returns-then-byte-eq93-clause-kept t c = c.in_ok-end.ensures.ordered.said.1 refl ∙ c.items.invariant.kept

pub items_end-items-preserved : goal.items_end-items-preserved
items_end-items-preserved t c = record {
  state = item_passed c.args.depth _ c.args.text.now c.items.text c.put_in_order.new.text c.in_ok-byte._behind.now c.items.at c.in_ok-end.field-0 _ c.items.invariant.state c.in_ok-end.ensures.ordered c.in_ok-byte.ensures.cases.0 c.if-byte-ne44.false;
  within = search rules;
  long = search rules;
  kept = c.in_ok-end.ensures.ordered.said.1 refl ∙ c.items.invariant.kept;
}

pub member_end-returns-clause-ordered : goal.member_end-returns-clause-ordered
member_end-returns-clause-ordered t c =
    let k = c.in_ok-key.ensures.plain in
    let old = c.args.scanner.now.tables in
    let new = c.put_in_order.new.scanner.tables in
    let name = c.in_ok-name.ensures [] k.inside k.rest k.is refl k.size ∙ k.plain in
    let inner = c.below-inner.ensures ∙ ap (below c.args.level) name in
    member_is c.args.depth (λ key d. IsNoted (below c.args.level key) old new d) c.args.text.now c.in_ok-colon._behind.now c.put_in_order.new.text c.in_ok-key.key c.in_ok-size.size _ k c.in_ok-colon.ensures.cases.0 c.if-colon-ne58.false
    (subst (λ l. IsOrdered c.args.depth (IsNoted l old new) (mid_of (c.in_ok-key.key + 1) (length c.args.text.now - (c.in_ok-key.key + 1)) c.args.text.now) c.put_in_order.new.text c.in_ok-size.size) inner c.in_ok-size.ensures.ordered)

pub members_end-returns-then-first-eq125-clause-ordered : goal.members_end-returns-then-first-eq125-clause-ordered
members_end-returns-then-first-eq125-clause-ordered t c = no_member_is c.args.depth c.args.level c.args.scanner.now.tables c.keep.new.self.tables c.new-table.result _ _ _ c.in_ok-first.ensures.cases.0 c.if-first-eq125.true c.new-table.ensures c.keep.ensures

pub members_end-members-init : goal.members_end-members-init
members_end-members-init t c = record { state = members_begin c.args.depth c.args.level c.args.scanner.now.tables c.args.text.now c.new-table.result c.new-table.ensures; within = omega arith; long = omega arith }

pub members_end-returns-then-byte-eq125-clause-ordered : goal.members_end-returns-then-byte-eq125-clause-ordered
members_end-returns-then-byte-eq125-clause-ordered t c =
    let s = c.members.invariant.state in
    let after = c.in_ok-byte._behind.now in
    let r = read_member c.args.depth _ c.args.level c.args.scanner.now.tables c.members.scanner.tables c.args.text.now c.members.text c.member_end.new.text after c.members.table c.members.at c.in_ok-key.key c.in_ok-key.size c.in_ok-byte.byte.now s c.in_ok-key.ensures.ordered c.in_ok-byte.ensures.cases.0 in
    let place = c.in_ok-index.ensures s.ms r.k r.d after r.text_is (s.entries_are ∙ sym c.as_slice.ensures) s.plain r.plain s.last_of s.at_is r.key_is in
    let h = place.slot in
    let end_is : c.in_ok-index.start + length (ended_text h.above) + (c.in_ok-key.size + 1) ≡ c.members.at + c.in_ok-key.size + 1 = omega (arith, slot_size r.k s.ms c.in_ok-index.index c.in_ok-index.start c.members.at h s.at_is) in
    let moved = c.in-Ok.ensures (ended_text h.below) (ended_text h.above) (ended_member r.k r.d) after (slot_text r.k s.ms c.in_ok-index.index c.in_ok-index.start h _ _ r.text_is) h.start_is r.long end_is in
    let entries = c.insert.ensures (entries_of h.below) (entries_of h.above) (slot_entries r.k s.ms c.in_ok-index.index c.in_ok-index.start h _ s.entries_are) (entries_count h.below ∙ h.index_is) ∙ ap (λ e. entries_of h.below ++ e ∷ entries_of h.above) (entry_is c.in_ok-entry.entry c.in_ok-key.key (c.in_ok-key.size + 1) c.in_ok-entry.ensures.0 c.in_ok-entry.ensures.1) in
    members_end c.args.depth c.args.level c.args.scanner.now.tables c.members.scanner.tables c.member_end.new.scanner.tables c.keep-then-byte-eq125.new.self.tables c.args.text.now c.members.text _ c.move_back.new.text after c.members.table c.insert.new.self c.members.at c.in_ok-key.key c.in_ok-key.size c.in_ok-index.index c.in_ok-index.start c.in_ok-byte.byte.now s r h place.last_of c.if-byte-eq125.true moved entries c.keep-then-byte-eq125.ensures

pub members_end-members-preserved : goal.members_end-members-preserved
members_end-members-preserved t c =
    let s = c.members.invariant.state in
    let after = c.in_ok-byte._behind.now in
    let r = read_member c.args.depth _ c.args.level c.args.scanner.now.tables c.members.scanner.tables c.args.text.now c.members.text c.member_end.new.text after c.members.table c.members.at c.in_ok-key.key c.in_ok-key.size c.in_ok-byte.byte.now s c.in_ok-key.ensures.ordered c.in_ok-byte.ensures.cases.0 in
    let place = c.in_ok-index.ensures s.ms r.k r.d after r.text_is (s.entries_are ∙ sym c.as_slice.ensures) s.plain r.plain s.last_of s.at_is r.key_is in
    let h = place.slot in
    let end_is : c.in_ok-index.start + length (ended_text h.above) + (c.in_ok-key.size + 1) ≡ c.members.at + c.in_ok-key.size + 1 = omega (arith, slot_size r.k s.ms c.in_ok-index.index c.in_ok-index.start c.members.at h s.at_is) in
    let moved = c.in-Ok.ensures (ended_text h.below) (ended_text h.above) (ended_member r.k r.d) after (slot_text r.k s.ms c.in_ok-index.index c.in_ok-index.start h _ _ r.text_is) h.start_is r.long end_is in
    let entries = c.insert.ensures (entries_of h.below) (entries_of h.above) (slot_entries r.k s.ms c.in_ok-index.index c.in_ok-index.start h _ s.entries_are) (entries_count h.below ∙ h.index_is) ∙ ap (λ e. entries_of h.below ++ e ∷ entries_of h.above) (entry_is c.in_ok-entry.entry c.in_ok-key.key (c.in_ok-key.size + 1) c.in_ok-entry.ensures.0 c.in_ok-entry.ensures.1) in
    record {
      state = next_state c.args.depth c.args.level c.args.scanner.now.tables c.members.scanner.tables c.member_end.new.scanner.tables c.args.text.now c.members.text _ c.move_back.new.text after c.members.table c.insert.new.self c.members.at c.in_ok-key.key c.in_ok-key.size c.in_ok-index.index c.in_ok-index.start c.in_ok-byte.byte.now s r h place.last_of c.if-byte-ne44.false moved entries;
      within = search rules;
      long = search rules;
    }
