-- A value nests no deeper than its text is long.
use Rattle.std.proofs.Common.{ℕ, ◌≤◌, ◌+◌, ◌++◌, ◌∷◌, [], List, length, Bool, true, false, length-append, arith}
use Rattle.json.specs.Print.{quoted}
use Rattle.serde_json.specs.Data.{Data, null, boolean, number, string, array, object, Items, no_items, item, Members, no_members, member, depth, items_depth, members_depth}
use Rattle.serde_json.specs.Written.{compact_text, items_text, members_text, comma_if}

two_lengths : (a b c : List ℕ) → length b + length c ≤ length (a ++ (b ++ c))
two_lengths a b c = omega (arith, length-append a (b ++ c), length-append b c)

mutual
  pub text_depth : (d : Data) → depth d ≤ length (compact_text d)
  text_depth null = omega arith
  text_depth (boolean b) = omega arith
  text_depth (number n) = omega arith
  text_depth (string s) = omega arith
  text_depth (array ds) = let inner : items_depth ds ≤ length (items_text false ds) = items_text_depth false ds in omega arith
  text_depth (object ms) = let inner : members_depth ms ≤ length (members_text false ms) = members_text_depth false ms in omega arith

  pub items_text_depth : (later : Bool) (ds : Items) → items_depth ds ≤ length (items_text later ds)
  items_text_depth later no_items = omega arith
  items_text_depth later (item d ds) =
      let first : depth d ≤ length (compact_text d) = text_depth d in
      let others : items_depth ds ≤ length (items_text true ds) = items_text_depth true ds in
      let both : length (compact_text d) + length (items_text true ds) ≤ length (items_text later (item d ds)) = two_lengths (comma_if later) (compact_text d) (items_text true ds) in
      omega arith

  pub members_text_depth : (later : Bool) (ms : Members) → members_depth ms ≤ length (members_text later ms)
  members_text_depth later no_members = omega arith
  members_text_depth later (member k d ms) =
      let first : depth d ≤ length (compact_text d) = text_depth d in
      let others : members_depth ms ≤ length (members_text true ms) = members_text_depth true ms in
      let after : length (compact_text d) + length (members_text true ms) ≤ length (quoted k ++ ((58 ∷ []) ++ (compact_text d ++ members_text true ms))) = omega (arith, two_lengths (quoted k) (58 ∷ []) (compact_text d ++ members_text true ms), length-append (compact_text d) (members_text true ms)) in
      let both : length (quoted k ++ 58 ∷ (compact_text d ++ members_text true ms)) ≤ length (members_text later (member k d ms)) = omega (arith, length-append (comma_if later) (quoted k ++ 58 ∷ (compact_text d ++ members_text true ms))) in
      omega arith
