use Rattle.std.proofs.Common.{◌≡◌, true, ◌<◌, ◌∷◌, [], length, Some, None, option_map, Ok, refl, sym, ap, ◌∙◌, subst, arith, rules}
use Rattle.json.specs.Json.{parse_map, after_end_array, read_key, value}
use Rattle.json.proofs.Grammar.{read_key-shorter, value_is}
use Rattle.json.specs.Reads.{token_of}
use Rattle.serde_json.specs.Written.{members_have_float}
use Rattle.serde_json.specs.Find.{of_integer}
use Rattle.serde_json.specs.Data.{number, string, put}
use Rattle.serde_json.specs.Read.{of_json, converted}
use Rattle.trees.specs.Tree.{data_of, items_of, members_of, AreAscending}
use Rattle.trees.specs.Positions.{goes_last}
use Rattle.trees.specs.Steps.{required}
use Rattle.trees.specs.Integral.{if_integral, members_if_integral, all_integral}
use Rattle.trees.specs.declared.fault.TreeError.TheVariants.{NotJson}
use Rattle.trees.proofs.Chains.{gives_refusal, gives_same}
use Rattle.trees.proofs.EntryPositions.{ascending_put, pushed_last}
use Rattle.trees.proofs.FoundMembers.{first_is_integral, found_more, all_integral-found_in}
use Rattle.trees.proofs.Parsing.{entries_turn, read_null, read_truth, read_text, read_number, number_refused, no_value, was_read, refused_json, items_begin, items_push, items_drop, items_refused, items_finish, items_so_far, members_begin, members_turn, members_no_key_left, members_refused, members_finish, no_list, no_map, list_read, map_read, list_refused, map_refused}
use Rattle.trees.proofs.parse.+parse.Goals as goal
use Rattle.trees.proofs.parse.+parse.Goals.{items_in-then-are_integral+in_ok-tight, items_in-else-are_integral, members_in-in_default-2-via-in-Some-2-2+else-len-lt-FEW, members_in-in_default-2-via-in-None-1}

pub items_in-items-init : goal.items_in-items-init
items_in-items-init t c = record {
  so_far = items_begin (value c.args.depth) c.args.reader.now c.take-items.result.items c.take-items.ensures;
  shorter = omega arith;
}

pub items_in-returns-in_err-item-clause-items : goal.items_in-returns-in_err-item-clause-items
items_in-returns-in_err-item-clause-items t c =
    let l = c.items in
    let going : (after_end_array l.reader ≡ None) × (c.take_end_array.new.self ≡ l.reader) = grind arith in
    let e = c.in_err-item.field-0.0 in
    let h = items_refused (value c.args.depth) _ l.are_integral l.items.items l.reader l.invariant.so_far e going.0 (rw (← going.1) c.in_err-item.ensures.value) in
    gives_refusal _ c.from_residual.result e _ c.from_residual.ensures.1 h

pub items_in-items-preserved-in_ok-push-in-Some : goal.items_in-items-preserved-in_ok-push-in-Some
items_in-items-preserved-in_ok-push-in-Some t c =
    let l = c.items in
    let going : (after_end_array l.reader ≡ None) × (c.take_end_array.new.self ≡ l.reader) = grind arith in
    let some : option_map data_of c.in_ok-item.field-0 ≡ Some (data_of c.in-Some.item) = ap (option_map data_of) c.in-Some.is in
    let less : length c.value_in.new.reader < length l.reader = rw (← going.1) c.in_ok-item.ensures.shorter in
    record {
      so_far = items_push (value c.args.depth) _ l.are_integral l.items.items l.reader l.invariant.so_far c.value_in.new.reader c.push.new.self.items c.in-Some.item going.0
          (rw (← going.1) (c.in_ok-item.ensures.value ∙ ap (λ x. Ok (x, c.value_in.new.reader)) some)) less c.in_ok-push-in-Some.ensures.items;
      shorter = omega (arith, l.invariant.shorter);
    }

pub items_in-items-preserved : goal.items_in-items-preserved
items_in-items-preserved t c =
    let l = c.items in
    let going : (after_end_array l.reader ≡ None) × (c.take_end_array.new.self ≡ l.reader) = grind arith in
    let none : option_map data_of c.in_ok-item.field-0 ≡ None = ap (option_map data_of) c.in-None.is in
    let less : length c.value_in.new.reader < length l.reader = rw (← going.1) c.in_ok-item.ensures.shorter in
    record {
      so_far = items_drop (value c.args.depth) _ l.are_integral l.items.items l.reader l.invariant.so_far c.value_in.new.reader going.0
          (rw (← going.1) (c.in_ok-item.ensures.value ∙ ap (λ x. Ok (x, c.value_in.new.reader)) none)) less;
      shorter = omega (arith, l.invariant.shorter);
    }

pub items_in-returns-clause-items : goal.items_in-returns-clause-items
items_in-returns-clause-items t c =
    let l = c.items in
    let r = c.take_end_array.new.self in
    let closed : after_end_array l.reader ≡ Some r = grind arith in
    let done = items_finish (value c.args.depth) _ l.are_integral l.items.items l.reader l.invariant.so_far r closed in
    elim c.if-are_integral.branch [
      | items_in-then-are_integral+in_ok-tight w ↦ done ∙ ap (λ b. Ok (items_so_far b l.items.items, r)) w.if-are_integral.true ∙ ap (λ ts. Ok (Some (items_of ts), r)) (sym w.in_ok-tight.ensures) ∙ ap (λ x. Ok (option_map (λ ts. items_of ts.items) x, r)) (sym w.result-is)
      | items_in-else-are_integral w ↦ done ∙ ap (λ b. Ok (items_so_far b l.items.items, r)) w.if-are_integral.false ∙ ap (λ x. Ok (option_map (λ ts. items_of ts.items) x, r)) (sym w.result-is)
    ]

pub list_in-returns-then-depth-eq0-clause-value : goal.list_in-returns-then-depth-eq0-clause-value
list_in-returns-then-depth-eq0-clause-value t c = no_list c.args.depth c.args.reader.now (omega arith)

pub list_in-returns-in_err-items-clause-value : goal.list_in-returns-in_err-items-clause-value
list_in-returns-in_err-items-clause-value t c =
    gives_refusal _ c.from_residual.result c.in_err-items.field-0.0 _ c.from_residual.ensures.1 (list_refused c.args.depth c.args.reader.now (omega arith) c.in_err-items.field-0.0 c.in_err-items.ensures.items)

pub list_in-returns-in_ok-of-in-Some-clause-value : goal.list_in-returns-in_ok-of-in-Some-clause-value
list_in-returns-in_ok-of-in-Some-clause-value t c =
    let some : option_map (λ ts. items_of ts.items) c.in_ok-items.field-0 ≡ Some c.in_ok-of-in-Some.field-0 = ap (option_map (λ ts. items_of ts.items)) c.in-Some.is ∙ ap Some (sym c.in_ok-of-in-Some.ensures) in
    list_read c.args.depth c.args.reader.now (omega arith) (Some c.in_ok-of-in-Some.field-0) c.items_in.new.reader (c.in_ok-items.ensures.items ∙ ap (λ x. Ok (x, c.items_in.new.reader)) some)

pub list_in-returns-in-None-clause-value : goal.list_in-returns-in-None-clause-value
list_in-returns-in-None-clause-value t c =
    let none : option_map (λ ts. items_of ts.items) c.in_ok-items.field-0 ≡ None = ap (option_map (λ ts. items_of ts.items)) c.in-None.is in
    list_read c.args.depth c.args.reader.now (omega arith) None c.items_in.new.reader (c.in_ok-items.ensures.items ∙ ap (λ x. Ok (x, c.items_in.new.reader)) none)

pub map_in-returns-then-depth-eq0-clause-value : goal.map_in-returns-then-depth-eq0-clause-value
map_in-returns-then-depth-eq0-clause-value t c = no_map c.args.depth c.args.reader.now (omega arith)

pub map_in-returns-in_err-entries-clause-value : goal.map_in-returns-in_err-entries-clause-value
map_in-returns-in_err-entries-clause-value t c =
    gives_refusal _ c.from_residual.result c.in_err-entries.field-0.0 _ c.from_residual.ensures.1 (map_refused c.args.depth c.args.reader.now (omega arith) c.in_err-entries.field-0.0 c.in_err-entries.ensures.members)

pub map_in-returns-in_ok-of-in-Some-clause-value : goal.map_in-returns-in_ok-of-in-Some-clause-value
map_in-returns-in_ok-of-in-Some-clause-value t c =
    let some : option_map (λ es. members_of es.items) c.in_ok-entries.field-0 ≡ Some c.in_ok-of-in-Some.field-0 = ap (option_map (λ es. members_of es.items)) c.in-Some.is ∙ ap Some (sym c.in_ok-of-in-Some.ensures) in
    map_read c.args.depth c.args.reader.now (omega arith) (Some c.in_ok-of-in-Some.field-0) c.members_in.new.reader (c.in_ok-entries.ensures.members ∙ ap (λ x. Ok (x, c.members_in.new.reader)) some)

pub map_in-returns-in-None-clause-value : goal.map_in-returns-in-None-clause-value
map_in-returns-in-None-clause-value t c =
    let none : option_map (λ es. members_of es.items) c.in_ok-entries.field-0 ≡ None = ap (option_map (λ es. members_of es.items)) c.in-None.is in
    map_read c.args.depth c.args.reader.now (omega arith) None c.members_in.new.reader (c.in_ok-entries.ensures.members ∙ ap (λ x. Ok (x, c.members_in.new.reader)) none)

pub members_after-returns-in_err-name-clause-members : goal.members_after-returns-in_err-name-clause-members
members_after-returns-in_err-name-clause-members t c before same most enough =
    let now = c.members.invariant.so_far before same most enough in
    gives_refusal _ c.from_residual.result NotJson _ c.from_residual.ensures.1 (refused_json _ (members_no_key_left (value c.args.depth) _ now.0 c.members.reader now.1 c.in_err-name.ensures.value))

pub members_after-returns-in_err-value-clause-members : goal.members_after-returns-in_err-value-clause-members
members_after-returns-in_err-value-clause-members t c before same most enough =
    let now = c.members.invariant.so_far before same most enough in
    let named : read_key c.members.reader ≡ Some (Some c.in-Some.name.now, c.next_key.new.self) = grind arith in
    let e = c.in_err-value.field-0.0 in
    gives_refusal _ c.from_residual-in_err-value.result e _ c.from_residual-in_err-value.ensures.1
    (members_refused (value c.args.depth) _ now.0 c.members.reader now.1 e c.in-Some.name.now c.next_key.new.self named c.in_err-value.ensures.value)

pub members_after-members-init : goal.members_after-members-init
members_after-members-init t c = record {
  so_far = λ before same most enough. (before, members_begin (value c.args.depth) before most c.args.reader.now enough, same);
  shorter = omega arith;
}

pub members_after-members-preserved : goal.members_after-members-preserved
members_after-members-preserved t c =
    let l = c.members in
    let k = c.in-Some.name.now in
    let s = c.next_key.new.self in
    let r = c.value_in.new.reader in
    let named : read_key l.reader ≡ Some (Some k, s) = grind arith in
    let less = read_key-shorter l.reader (Some k) s named in
    let copied : c.in_ok-key.key ≡ k = search rules in
    let d = was_read if_integral (converted of_json (value c.args.depth s)) (option_map data_of c.in_ok-value.value) r c.in_ok-value.ensures.value in
    record {
      so_far = λ before same most enough.
          let now = l.invariant.so_far before same most enough in (
            put k d.0 now.0,
            members_turn (value c.args.depth) _ now.0 l.reader now.1 k s r d.0 (put k d.0 now.0) named d.1 c.in_ok-value.ensures.shorter refl,
            found_more l.found.entries c.insert.new.self.entries c.in_ok-key.key c.in_ok-value.value k d.0 now.0 c.in_ok-insert.ensures.entries copied d.2 now.2,
          );
      shorter = omega (arith, less, c.in_ok-value.ensures.shorter, l.invariant.shorter);
    }

pub members_after-returns-clause-members : goal.members_after-returns-clause-members
members_after-returns-clause-members t c before same most enough =
    let now = c.members.invariant.so_far before same most enough in
    let closed : read_key c.members.reader ≡ Some (None, c.next_key.new.self) = grind arith in
    members_finish (value c.args.depth) _ now.0 c.members.reader now.1 c.next_key.new.self _ closed
    (sym (all_integral-found_in now.0) ∙ ap all_integral now.2 ∙ sym c.in_ok-integral_entries.ensures.entries)

pub members_in-returns-in_err-name-clause-members : goal.members_in-returns-in_err-name-clause-members
members_in-returns-in_err-name-clause-members t c =
    let l = c.members in
    gives_refusal _ c.from_residual.result NotJson _ c.from_residual.ensures.1 (refused_json _ (members_no_key_left (value c.args.depth) _ (members_of l.entries.items) l.reader l.invariant.so_far c.in_err-name.ensures.value))

pub members_in-returns-in_err-value-clause-members : goal.members_in-returns-in_err-value-clause-members
members_in-returns-in_err-value-clause-members t c =
    let l = c.members in
    let named : read_key l.reader ≡ Some (Some c.in-Some.name.now, c.next_key.new.self) = grind arith in
    let e = c.in_err-value.field-0.0 in
    gives_refusal _ c.from_residual-in_err-value.result e _ c.from_residual-in_err-value.ensures.1
    (members_refused (value c.args.depth) _ (members_of l.entries.items) l.reader l.invariant.so_far e c.in-Some.name.now c.next_key.new.self named c.in_err-value.ensures.value)

pub members_in-members-preserved-then-goes_last : goal.members_in-members-preserved-then-goes_last
members_in-members-preserved-then-goes_last t c =
    let l = c.members in
    let k = c.in-Some.name.now in
    let s = c.next_key.new.self in
    let r = c.value_in.new.reader in
    let named : read_key l.reader ≡ Some (Some k, s) = grind arith in
    let less = read_key-shorter l.reader (Some k) s named in
    let v = c.in-Some-2.value in
    let some : option_map data_of c.in_ok-value.value ≡ Some (data_of v) = ap (option_map data_of) c.in-Some-2.is in
    let last : goes_last k l.entries.items ≡ true = rw (← c.deref.ensures.value) (sym c.goes_last.ensures ∙ c.if-goes_last.true) in
    let put_there = pushed_last k c.in_ok-key.key v l.entries.items c.push.new.self.items last l.invariant.ascending c.in_ok-key.ensures c.in_ok-push-in-Some-2.ensures.items in
    let turn = entries_turn (value c.args.depth) _ l.entries.items c.push.new.self.items l.reader s r k v l.invariant.so_far named (c.in_ok-value.ensures.value ∙ ap (λ x. Ok (x, r)) some) c.in_ok-value.ensures.shorter put_there l.invariant.integral in
    record {
      so_far = turn.0;
      ascending = subst AreAscending (sym put_there) (ascending_put k (data_of v) (members_of l.entries.items) l.invariant.ascending);
      integral = turn.1;
      shorter = omega (arith, less, c.in_ok-value.ensures.shorter, l.invariant.shorter);
    }

pub members_in-members-preserved : goal.members_in-members-preserved
members_in-members-preserved t c =
    let l = c.members in
    let k = c.in-Some.name.now in
    let s = c.next_key.new.self in
    let r = c.value_in.new.reader in
    let named : read_key l.reader ≡ Some (Some k, s) = grind arith in
    let less = read_key-shorter l.reader (Some k) s named in
    let v = c.in-Some-2.value in
    let some : option_map data_of c.in_ok-value.value ≡ Some (data_of v) = ap (option_map data_of) c.in-Some-2.is in
    let put_there = c.in_ok-put_entry-in-Some-2-2.ensures.ok ∙ ap (λ n. put n (data_of v) (members_of l.entries.items)) c.in_ok-key.ensures in
    let turn = entries_turn (value c.args.depth) _ l.entries.items c.put_entry.new.entries.items l.reader s r k v l.invariant.so_far named (c.in_ok-value.ensures.value ∙ ap (λ x. Ok (x, r)) some) c.in_ok-value.ensures.shorter put_there l.invariant.integral in
    record {
      so_far = turn.0;
      ascending = subst AreAscending (sym put_there) (ascending_put k (data_of v) (members_of l.entries.items) l.invariant.ascending);
      integral = turn.1;
      shorter = omega (arith, less, c.in_ok-value.ensures.shorter, l.invariant.shorter);
    }

pub members_in-returns-in_default-2-clause-members : goal.members_in-returns-in_default-2-clause-members
members_in-returns-in_default-2-clause-members t c =
    let l = c.members in
    let p = value c.args.depth in
    let k = c.in-Some.name.now in
    let s = c.next_key.new.self in
    let r = c.value_in.new.reader in
    let named : read_key l.reader ≡ Some (Some k, s) = grind arith in
    let copied = c.in_ok-key.ensures in
    let v = c.in_default-2-1.value in
    let kept : v ≡ c.in_ok-value.value = elim c.in_default-2-1.branch [ members_in-in_default-2-via-in-Some-2-2+else-len-lt-FEW w ↦ w.value-is ∙ sym w.in-Some-2.is | members_in-in_default-2-via-in-None-1 w ↦ w.value-is ] in
    let d = was_read if_integral (converted of_json (p s)) (option_map data_of c.in_ok-value.value) r c.in_ok-value.ensures.value in
    let before = put k d.0 (members_of l.entries.items) in
    let turn = members_turn p _ (members_of l.entries.items) l.reader l.invariant.so_far k s r d.0 before named d.1 c.in_ok-value.ensures.shorter refl in
    let same = found_more c.in_ok-found-in_default-2.found.entries c.insert.new.self.entries _ v k d.0 (members_of l.entries.items)
    c.in_ok-insert-in_default-2.ensures.entries copied (d.2 ∙ ap (option_map data_of) (sym kept)) (sym c.in_ok-found-in_default-2.ensures) in
    gives_same _ c.members_after.result _ _ (ap (λ o. required NotJson (parse_map members_if_integral o)) turn.2) (c.members_after.ensures.members before same turn.0 turn.1)

pub members_in-returns-clause-members : goal.members_in-returns-clause-members
members_in-returns-clause-members t c =
    let l = c.members in
    let closed : read_key l.reader ≡ Some (None, c.next_key.new.self) = grind arith in
    members_finish (value c.args.depth) _ (members_of l.entries.items) l.reader l.invariant.so_far c.next_key.new.self _ closed
    (first_is_integral (members_have_float (members_of l.entries.items)) (members_of l.entries.items) l.invariant.integral ∙ ap (λ es. Some (members_of es)) (sym c.in_ok-tight.ensures))

pub value_in-returns-in_err-ok_or-clause-value : goal.value_in-returns-in_err-ok_or-clause-value
value_in-returns-in_err-ok_or-clause-value t c =
    let empty : c.args.reader.now ≡ [] = grind arith in
    let none : value c.args.depth c.args.reader.now ≡ None = ap (value c.args.depth) empty ∙ value_is c.args.depth [] in
    let is : c.in_err-ok_or.field-0.0 ≡ NotJson = grind arith in
    gives_refusal _ c.from_residual.result c.in_err-ok_or.field-0.0 _ c.from_residual.ensures.1 (rw is (no_value c.args.depth c.args.reader.now [] none))

pub value_in-returns-in-Null-clause-value : goal.value_in-returns-in-Null-clause-value
value_in-returns-in-Null-clause-value t c =
    let first : c.args.reader.now ≡ token_of c.in_ok-ok_or.field-0 ∷ c.next.new.self = grind arith in
    read_null c.args.depth c.args.reader.now c.next.new.self (first ∙ ap (λ k. token_of k ∷ c.next.new.self) c.in-Null.is)

pub value_in-returns-in-Bool-clause-value : goal.value_in-returns-in-Bool-clause-value
value_in-returns-in-Bool-clause-value t c =
    let first : c.args.reader.now ≡ token_of c.in_ok-ok_or.field-0 ∷ c.next.new.self = grind arith in
    read_truth c.args.depth c.args.reader.now c.next.new.self c.in-Bool.truth (first ∙ ap (λ k. token_of k ∷ c.next.new.self) c.in-Bool.is)

pub value_in-returns-in_ok-copy_of-in-String-clause-value : goal.value_in-returns-in_ok-copy_of-in-String-clause-value
value_in-returns-in_ok-copy_of-in-String-clause-value t c =
    let first : c.args.reader.now ≡ token_of c.in_ok-ok_or.field-0 ∷ c.next.new.self = grind arith in
    read_text c.args.depth c.args.reader.now c.next.new.self c.in-String.text.now (first ∙ ap (λ k. token_of k ∷ c.next.new.self) c.in-String.is)
    ∙ ap (λ s. Ok (Some (string s), c.next.new.self)) (sym c.in_ok-copy_of-in-String.ensures)

pub value_in-returns-in_err-number_in-in-Number-clause-value : goal.value_in-returns-in_err-number_in-in-Number-clause-value
value_in-returns-in_err-number_in-in-Number-clause-value t c =
    let first : c.args.reader.now ≡ token_of c.in_ok-ok_or.field-0 ∷ c.next.new.self = grind arith in
    let is = first ∙ ap (λ k. token_of k ∷ c.next.new.self) c.in-Number.is in
    let e = c.in_err-number_in-in-Number.field-0.0 in
    gives_refusal _ c.from_residual-in_err-number_in-in-Number.result e _ c.from_residual-in_err-number_in-in-Number.ensures.1
    (number_refused c.args.depth c.args.reader.now c.next.new.self c.in-Number.text.now is e c.in_err-number_in-in-Number.ensures)

pub value_in-returns-in_ok-number_in-in-Number-clause-value : goal.value_in-returns-in_ok-number_in-in-Number-clause-value
value_in-returns-in_ok-number_in-in-Number-clause-value t c =
    let first : c.args.reader.now ≡ token_of c.in_ok-ok_or.field-0 ∷ c.next.new.self = grind arith in
    let is = first ∙ ap (λ k. token_of k ∷ c.next.new.self) c.in-Number.is in
    let n = c.in_ok-number_in-in-Number.field-0 in
    let mapped : option_map data_of c.map.result ≡ option_map number (option_map of_integer n) = search rules in
    let read = read_number c.args.depth c.args.reader.now c.next.new.self c.in-Number.text.now is (option_map of_integer n) c.in_ok-number_in-in-Number.ensures in
    read ∙ ap (λ x. Ok (x, c.next.new.self)) (sym mapped)

pub value_in-returns-in-EndObject-clause-value : goal.value_in-returns-in-EndObject-clause-value
value_in-returns-in-EndObject-clause-value t c =
    let first : c.args.reader.now ≡ token_of c.in_ok-ok_or.field-0 ∷ c.next.new.self = grind arith in
    let none : value c.args.depth c.args.reader.now ≡ None = rw (value_is c.args.depth c.args.reader.now, first) (grind arith) in
    no_value c.args.depth c.args.reader.now c.next.new.self none
